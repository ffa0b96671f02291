use Rattle.std.proofs.Common.{refl}
use Rattle.pf_chart.proofs.chart.put_words.Goals as goal

pub put-requires-clause-whole : goal.put-requires-clause-whole
put-requires-clause-whole c = λ os. refl

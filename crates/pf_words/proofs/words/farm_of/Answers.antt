use Rattle.std.proofs.Common.{refl}
use Rattle.pf_words.proofs.Ends.{is_no_farm}
use Rattle.pf_words.proofs.words.farm_of.Goals as goal

pub returns-in_default-clause-other : goal.returns-in_default-clause-other
returns-in_default-clause-other c = (refl, is_no_farm c.args.asked.args c.in_default.not-Farm)

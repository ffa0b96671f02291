use Rattle.pf_svg.proofs.Texts.{short_stays, whole_stays}
use Rattle.pf_svg.proofs.laws.labels_stay_text.Goals as goal

pub returns : goal.returns
returns c = record { whole = λ label h. whole_stays label h; shortened = λ most label h. short_stays most label h }

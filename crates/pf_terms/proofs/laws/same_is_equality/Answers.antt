use Rattle.std.proofs.Common.{◌∙◌, ap, sym}
use Rattle.pf_terms.specs.Value.{same}
use Rattle.pf_terms.proofs.SameValues.{same_true, same_itself}
use Rattle.pf_terms.proofs.laws.same_is_equality.Goals as goal

pub returns : goal.returns
returns c = λ v w. (λ t. same_true v w t, λ e. ap (same v) (sym e) ∙ same_itself v)

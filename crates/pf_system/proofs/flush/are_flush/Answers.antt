use Rattle.std.proofs.Common.{◌≡◌, Bool, true, ◌&&◌, sym, ap, ◌∙◌}
use Rattle.pf_terms.specs.Value.{Value, Values, more, same}
use Rattle.pf_terms.specs.Fixed.{flush}
use Rattle.pf_terms.specs.Term.{elements_of, value_of}
use Rattle.pf_model.specs.Flush.{are_flush}
use Rattle.pf_system.proofs.flush.are_flush.Goals as goal

-- by the first of what is left
by_first : (t : Bool) (v : Value) (vs rest : Values) → rest ≡ more v vs → t ≡ same v flush
    → are_flush rest ≡ (t && are_flush vs)
by_first t v vs rest e f = ap are_flush e ∙ ap (λ z. z && are_flush vs) (sym f)

pub loop-first-preserved : goal.loop-first-preserved
loop-first-preserved c =
    sym (by_first true (value_of c.in-Some.first.now) (elements_of c.in-Some.others.now)
    (elements_of c.loop-first.rest.now) c.in-Some.ensures
    (sym c.if-not-equal.false ∙ c.equal.ensures)) ∙ c.loop-first.invariant

use Rattle.std.proofs.Common.{◌≡◌, List, ◌∷◌, [], ◌++◌, sym, ap, ◌∙◌}
use Rattle.pf_terms.specs.Value.{Value, Values, more}
use Rattle.pf_terms.specs.Term.{elements_of, value_of, values_of}
use Rattle.pf_terms.specs.declared.term.Term.{Term}
use Rattle.pf_ops.specs.Operations.{values_before}
use Rattle.pf_ops.proofs.Joined.{before_push, before_none}
use Rattle.pf_ops.proofs.build.elements.Goals as goal

-- the first of what is left, after what was copied
one_more : (ts us : List Term) (t : Term) (v : Value) (left whole : Values) → us ≡ ts ++ t ∷ [] → value_of t ≡ v
    → values_before (values_of ts) (more v left) ≡ whole → values_before (values_of us) left ≡ whole
one_more ts us t v left whole e d h =
    ap (λ l. values_before (values_of l) left) e ∙ before_push ts t left
    ∙ ap (λ w. values_before (values_of ts) (more w left)) d ∙ h

pub loop-first-preserved : goal.loop-first-preserved
loop-first-preserved c =
    one_more c.loop-first.items.items c.push.new.self.items c.in_ok-copied.field-0 (value_of c.in-Some.first.now)
    (elements_of c.in-Some.others.now) (elements_of c.args.list.now)
    c.in_ok-push.ensures.items c.in_ok-copied.ensures
    (ap (values_before (values_of c.loop-first.items.items)) (sym c.in-Some.ensures) ∙ c.loop-first.invariant)

pub returns : goal.returns
returns c =
    sym (before_none (values_of c.loop-first.items.items)) ∙ ap (values_before (values_of c.loop-first.items.items))
    (sym c.in_default.ensures) ∙ c.loop-first.invariant

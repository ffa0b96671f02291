use Rattle.std.proofs.Common.{◌≡◌, List, ◌∷◌, [], ◌++◌, sym, ap, ◌∙◌, arith}
use Rattle.pf_terms.specs.Value.{Value, Values, none, more, count}
use Rattle.pf_terms.specs.Term.{elements_of, value_of, values_of}
use Rattle.pf_terms.specs.declared.term.Term.{Term}
use Rattle.pf_ops.specs.Operations.{values_before}
use Rattle.pf_ops.proofs.Counted.{count_le}
use Rattle.pf_ops.proofs.Joined.{before_push, before_none}
use Rattle.pf_terms.proofs.Counts.{length_count}
use Rattle.pf_system.proofs.spawn.elements.Goals as goal

-- the first of what is left, after what was copied
one_more : (ts us : List Term) (t : Term) (v : Value) (left whole : Values) → us ≡ ts ++ t ∷ [] → value_of t ≡ v
    → values_before (values_of ts) (more v left) ≡ whole → values_before (values_of us) left ≡ whole
one_more ts us t v left whole e d h =
    ap (λ l. values_before (values_of l) left) e ∙ before_push ts t left
    ∙ ap (λ w. values_before (values_of ts) (more w left)) d ∙ h

-- nothing is left
all_copied : (vs left whole : Values) → left ≡ none → values_before vs left ≡ whole → vs ≡ whole
all_copied vs left whole e h = sym (before_none vs) ∙ ap (values_before vs) (sym e) ∙ h

pub loop-first-preserved : goal.loop-first-preserved
loop-first-preserved c =
    one_more c.loop-first.items.items c.push.new.self.items c.in_ok-copy.field-0 (value_of c.in-Some.first.now)
    (elements_of c.in-Some.others.now) (elements_of c.args.list.now)
    c.in_ok-push.ensures.ok c.in_ok-copy.ensures
    (ap (values_before (values_of c.loop-first.items.items)) (sym c.in-Some.ensures) ∙ c.loop-first.invariant)

pub returns-clause-items : goal.returns-clause-items
returns-clause-items c = all_copied (values_of c.loop-first.items.items) _ _ c.in_default.ensures c.loop-first.invariant

pub returns-clause-few : goal.returns-clause-few
returns-clause-few c =
    let copied = all_copied (values_of c.loop-first.items.items) _ _ c.in_default.ensures c.loop-first.invariant in
    let most = c.nodes-nodes.ensures in
    omega (
      arith,
      length_count c.loop-first.items.items,
      ap count copied,
      count_le (elements_of c.args.list.now),
      most.value,
      most.bound,
    )

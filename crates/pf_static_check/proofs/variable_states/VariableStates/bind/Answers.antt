use Rattle.std.proofs.Common.{rules, ◌≡◌, ap, ◌∙◌, sym, ◌++◌, [], ◌∷◌, List, ℕ}
use Rattle.std.specs.Prelude.{map}
use Rattle.std.proofs.lemmas.List.{map-append}
use Rattle.pf_terms.specs.declared.atoms.AtomId.{AtomId}
use Rattle.pf_static_check.specs.Marks.{status_of, trail_of}
use Rattle.pf_static_check.specs.contracts.variable_states.Status as status
use Rattle.pf_static_check.specs.declared.variable_states.Status.TheVariants.{New}
use Rattle.pf_static_check.proofs.Trailing.{bound_new}
use Rattle.pf_static_check.proofs.variable_states.VariableStates.bind.Goals as goal
use denote.Enum.Bare.{same_true}

pub returns-in_ok-push : goal.returns-in_ok-push
returns-in_ok-push c =
    let old = c.args.self.now in
    let set = c.set.new.self in
    let is_new : status_of old c.args.name.0 ≡ New = sym c.status.ensures ∙ same_true status.the_type (search rules) _ _
    (sym c.eq.ensures ∙ c.if-eq.true) in
    let longer : map (λ a. a.0) c.push.new.self.items ≡ trail_of old ++ c.args.name.0 ∷ [] =
    ap (map (λ (a : AtomId). a.0)) c.in_ok-push.ensures.items ∙ map-append (λ (a : AtomId). a.0) set.trail.items
    (c.args.name ∷ []) ∙ ap (λ (l : List ℕ). l ++ c.args.name.0 ∷ []) c.in_ok-set.ensures.trail in
    bound_new old _ c.args.name.0 is_new c.in_ok-set.ensures.set longer

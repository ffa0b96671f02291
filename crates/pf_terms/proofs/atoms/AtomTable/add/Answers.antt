use Rattle.std.proofs.Common.{List, ℕ, ◌≡◌, ◌∷◌, [], ◌++◌, ap, sym, ◌∙◌, subst, append_assoc}
use Rattle.pf_terms.specs.Atoms.{fixed_names}
use Rattle.pf_terms.specs.Numbers.{HasNumbers}
use Rattle.pf_terms.proofs.Fronts.{one_more}
use Rattle.pf_terms.proofs.atoms.AtomTable.add.Goals as goal

pub invariant_of-self : goal.invariant_of-self
invariant_of-self c =
    let P : List (List ℕ) → Type 0 = λ xs. HasNumbers (fixed_names ++ xs) in
    subst P (sym c.in_err-push.ensures.err) c.self.invariant

pub invariant_of-self-2 : goal.invariant_of-self-2
invariant_of-self-2 c =
    let more : c.args.self.now ++ c.args.name.now ∷ [] ≡ fixed_names ++ c.push.new.self =
    ap (λ names. names ++ c.args.name.now ∷ []) (sym c.self.view_is)
    ∙ append_assoc fixed_names c.self.inside.entered (c.args.name.now ∷ [])
    ∙ ap (λ names. fixed_names ++ names) (sym c.in_ok-push.ensures.pushed) in
    subst HasNumbers more (one_more c.args.self.now c.args.name.now (subst HasNumbers c.self.view_is c.self.invariant)
    c.requires.room c.requires.new)

use Rattle.std.proofs.Common.{◌≡◌, ℕ, nat_eq, position, slice_get, Some, sym, ap, ◌∙◌, subst}
use Rattle.std.specs.Cmp.{nat_eq_equiv}
use Rattle.std.specs.Map.{keys_of}
use Rattle.indexmap.proofs.MapLemmas.{index-first}
use Rattle.indexmap.proofs.RemoveLemmas.{own_first}
use Rattle.pf_desks.specs.Desks.{Desks}
use Rattle.pf_book.proofs.book.index_of.Goals as goal

-- the project of the desk at `last` is the one that is looked for
pub returns-then-key-project-clause-index : goal.returns-then-key-project-clause-index
returns-then-key-project-clause-index c =
    let es = c.args.desks.now.entries in
    let k = c.in-Some.key.now in
    let d = c.in-Some.field-0-1.now in
    let at : slice_get es c.args.last ≡ Some (k, d) = ap (λ (l : Desks). slice_get l c.args.last)
    (sym c.as_slice.ensures.entries) ∙ sym c.in-Some.ensures.entry in
    let first = own_first nat_eq nat_eq_equiv es c.args.last k d c.as_slice.ensures.unique at in
    subst (λ (q : ℕ). Some c.args.last ≡ position (nat_eq q) (keys_of es)) c.if-key-project.true
    (sym (index-first (nat_eq k) es c.args.last first))

-- From what a search found to what a `receive` takes, and how many messages it tested.
use Rattle.std.proofs.Common.{◌≡◌, ℕ, zero, suc, ◌+◌, ◌-◌, List, [], ◌∷◌, length, take, drop, refl, sym, ap, ◌∙◌, subst}
use Rattle.std.proofs.Common.{Some, None, remove, arith}
use Rattle.std.specs.Prelude.{map, slice_get}
use Rattle.pf_terms.specs.Value.{Value}
use Rattle.pf_terms.specs.Term.{value_of}
use Rattle.pf_terms.specs.declared.term.Term.{Term}
use Rattle.pf_syntax.specs.Tree.{Tree, Clauses}
use Rattle.pf_model.specs.Module.{Module}
use Rattle.pf_model.specs.Contraction.{picked}
use Rattle.pf_model.specs.Receive.{FitsNone, and_before, selected, taken_or_later, taking}
use Rattle.pf_nodes.specs.Mail.{Mail}
use Rattle.pf_inbox.specs.Searches.{PassesOver}
use Rattle.pf_inbox.specs.Tests.{tested}
use Rattle.pf_inbox.proofs.Tested.{NoneIn, none_before, to_list, to_indices, count_to, count_rest}

all_of : (xs : List Term) → take (length xs) (map value_of xs) ≡ map value_of xs
all_of [] = refl
all_of (x ∷ xs) = ap (λ vs. value_of x ∷ vs) (all_of xs)

pub count_values : (xs : List Term) → length (map value_of xs) ≡ length xs
count_values [] = refl
count_values (x ∷ xs) = ap suc (count_values xs)

module _ (m : Module) (own : ℕ) (ks : Clauses) where
  selects_none : (vs : List Value) → FitsNone m own ks vs → selected m own ks vs ≡ None
  selects_none [] h = refl
  selects_none (v ∷ vs) h =
      ap (λ o. taken_or_later o v vs (selected m own ks vs)) h.0 ∙ ap (and_before v) (selects_none vs h.1)

  -- the message of this index is the oldest that a clause picks
  selects : (xs : List Term) (to : ℕ) (x : Term) (t : Tree) → NoneIn m own ks xs 0 to → slice_get xs to ≡ Some x
      → picked m own ks (value_of x) ≡ Some t
      → selected m own ks (map value_of xs) ≡ Some (taking t (value_of x) (map value_of (remove xs to)))
  selects [] to x t h s p = absurd cc
  selects (y ∷ xs) zero x t h s p =
      let vs = map value_of xs in
      let e : y ≡ x = cc in
      ap (λ z. taken_or_later (picked m own ks (value_of z)) (value_of z) vs (selected m own ks vs)) e
      ∙ ap (λ o. taken_or_later o (value_of x) vs (selected m own ks vs)) p
  selects (y ∷ xs) (suc to) x t h s p =
      let vs = map value_of xs in
      ap (λ o. taken_or_later o (value_of y) vs (selected m own ks vs)) (h 0 y (omega arith) (omega arith) refl)
      ∙ ap (and_before (value_of y)) (selects xs to x t
      (λ k z l b r. h (suc k) z (omega arith) (omega (arith, b)) r) s p)

module _ (m : Module) (own : ℕ) (ks : Clauses) (old new : Mail Term) (e : new.items ≡ old.items)
    (p : PassesOver m own ks old new.mark) where
  module _ (before : FitsNone m own ks (take old.mark (map value_of old.items))) where
    none_in : NoneIn m own ks old.items 0 new.mark
    none_in =
        none_before m own ks old.items old.mark new.mark (to_indices m own ks old.items old.mark before) p.all

    -- no clause picks a message before the new mark
    pub still : FitsNone m own ks (take new.mark (map value_of new.items))
    still = to_list m own ks new.items new.mark (subst (λ xs. NoneIn m own ks xs 0 new.mark) (sym e) none_in)

    pub takes_none : new.mark ≡ length new.items → selected m own ks (map value_of old.items) ≡ None
    takes_none end =
        let whole : FitsNone m own ks (take (length old.items) (map value_of old.items)) =
        to_list m own ks old.items (length old.items)
        (subst (NoneIn m own ks old.items 0) (end ∙ ap length e) none_in) in
        selects_none m own ks (map value_of old.items)
        (subst (FitsNone m own ks) (all_of old.items) whole)

    pub takes : (x : Term) (t : Tree) → slice_get new.items new.mark ≡ Some x → picked m own ks (value_of x) ≡ Some t
        → selected m own ks (map value_of old.items)
        ≡ Some (taking t (value_of x) (map value_of (remove new.items new.mark)))
    takes x t at picks =
        selects m own ks old.items new.mark x t none_in (ap (λ xs. slice_get xs new.mark) (sym e) ∙ at) picks
        ∙ ap (λ xs. Some (taking t (value_of x) (map value_of (remove xs new.mark)))) (sym e)

  pub all_tested : new.mark ≡ length new.items
      → tested m own ks (drop old.mark (map value_of old.items)) ≡ new.mark - old.mark
  all_tested is_end =
      let end : new.mark ≡ length old.items = is_end ∙ ap length e in
      count_rest m own ks old.items old.mark (omega (arith, end, p.on))
      (λ k x low below at. p.all k x low (omega (arith, end, below)) at)
      ∙ ap (λ n. n - old.mark) (sym end)

  pub tested_to : (x : Term) (t : Tree) → slice_get new.items new.mark ≡ Some x → picked m own ks (value_of x) ≡ Some t
      → tested m own ks (drop old.mark (map value_of old.items)) ≡ new.mark - old.mark + 1
  tested_to x t at picks =
      count_to m own ks old.items old.mark new.mark x t p.on p.all (ap (λ xs. slice_get xs new.mark) (sym e) ∙ at) picks

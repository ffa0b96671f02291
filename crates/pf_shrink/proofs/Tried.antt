-- The schedules that a search gives, answered truly, are those that are tried, in their order.
use Rattle.std.proofs.Common.{◌≡◌, ◌≤◌, ◌<◌, ◌-◌, ℕ, zero, suc, Bool, true, false, List, [], ◌∷◌, Some, None, length}
use Rattle.std.proofs.Common.{refl, sym, ap, ◌∙◌, arith, if◌then◌else◌}
use Rattle.std.specs.Prelude.{◌↔◌}
use Rattle.pf_model.specs.Shrinking.{candidates}
use Rattle.pf_shrink.specs.Hunts.{Hunting, begins, searches, ended, searching, next_of, after_answer}
use Rattle.pf_shrink.specs.Tried.{tried, tried_of_search, tried_from, TriesInOrder}

module _ (fails : List ℕ → Bool) where
  -- a search, with these candidates left
  tried_from_search : (k : ℕ) (ns : List ℕ) (cs : List (List ℕ))
      → tried_from fails (searching k ns cs) ≡ tried_of_search fails k cs
  tried_from_search zero ns [] = refl
  tried_from_search (suc k) ns [] = refl
  tried_from_search zero ns (c ∷ cs) = refl
  tried_from_search (suc k) ns (c ∷ cs) = refl

  after_first : (b : Bool) (k : ℕ) (ns : List ℕ)
      → (if b then tried_of_search fails k (candidates ns) else []) ≡ tried_from fails (after_answer b (begins k ns))
  after_first true k ns = sym (tried_from_search k ns (candidates ns))
  after_first false k ns = refl

  after_candidate : (b : Bool) (k : ℕ) (ns c : List ℕ) (cs : List (List ℕ))
      → (if b then tried_of_search fails k (candidates c) else tried_of_search fails k cs) ≡ tried_from fails
      (after_answer b (searches k ns c cs))
  after_candidate true k ns c cs = sym (tried_from_search k c (candidates c))
  after_candidate false k ns c cs = sym (tried_from_search k ns cs)

  first_tried : (h : Hunting) (ns : List ℕ) → next_of h ≡ Some ns
      → tried_from fails h ≡ ns ∷ tried_from fails (after_answer (fails ns) h)
  first_tried (begins k ns) ms e =
      let same : ns ≡ ms = cc in
      ap (λ x. ns ∷ x) (after_first (fails ns) k ns)
      ∙ ap (λ x. x ∷ tried_from fails (after_answer (fails x) (begins k ns))) same
  first_tried (searches k ns c cs) ms e =
      let same : c ≡ ms = cc in
      ap (λ x. c ∷ x) (after_candidate (fails c) k ns c cs)
      ∙ ap (λ x. x ∷ tried_from fails (after_answer (fails x) (searches k ns c cs))) same
  first_tried (ended f) ms e = absurd (cc)

  none_tried : (h : Hunting) → (next_of h ≡ None) ↔ (tried_from fails h ≡ [])
  none_tried (begins k ns) = (λ e. absurd (cc), λ e. absurd (cc))
  none_tried (searches k ns c cs) = (λ e. absurd (cc), λ e. absurd (cc))
  none_tried (ended f) = (λ e. refl, λ e. refl)

  -- no more than there are runs
  few_of_search : (k : ℕ) (cs : List (List ℕ)) → length (tried_of_search fails k cs) ≤ k
  few_of_search zero cs = omega arith
  few_of_search (suc k) [] = omega arith
  few_of_search (suc k) (c ∷ cs) = by (fails c) (few_of_search k (candidates c)) (few_of_search k cs)
    where
      by : (b : Bool) → length (tried_of_search fails k (candidates c)) ≤ k → length (tried_of_search fails k cs) ≤ k
          → suc (length (if b then tried_of_search fails k (candidates c) else tried_of_search fails k cs)) ≤ suc k
      by true again on = omega arith
      by false again on = omega arith

  few : (runs : ℕ) (ns : List ℕ) → length (tried fails runs ns) ≤ runs
  few zero ns = omega arith
  few (suc k) ns = by (fails ns) (few_of_search k (candidates ns))
    where
      by : (b : Bool) → length (tried_of_search fails k (candidates ns)) ≤ k
          → suc (length (if b then tried_of_search fails k (candidates ns) else [])) ≤ suc k
      by true h = omega arith
      by false h = omega arith

  -- a search that begins
  all_tried : (runs : ℕ) (ns : List ℕ) → 0 < runs → tried_from fails (begins (runs - 1) ns) ≡ tried fails runs ns
  all_tried zero ns h = absurd (omega arith)
  all_tried (suc k) ns h = let e : suc k - 1 ≡ k = omega arith in ap (λ n. tried fails (suc n) ns) e

-- within n runs
pub tried_within_runs : (fails : List ℕ → Bool) (runs : ℕ) (ns : List ℕ) → length (tried fails runs ns) ≤ runs
tried_within_runs fails runs ns = few fails runs ns

pub tried_from_begins : (fails : List ℕ → Bool) (runs : ℕ) (ns : List ℕ) → 0 < runs
    → tried_from fails (begins (runs - 1) ns) ≡ tried fails runs ns
tried_from_begins fails runs ns h = all_tried fails runs ns h

-- whichever schedules fail
pub tries_in_order : (fails : List ℕ → Bool) (h : Hunting) → TriesInOrder fails h
tries_in_order fails h = record { first = first_tried fails h; none = none_tried fails h }

-- Where a row is, and what becomes of the rows there.
use Rattle.std.proofs.Common.{◌≡◌, inl, inr, ◌+◌, ◌≤◌, ℕ, zero, suc, true, false, List, [], ◌∷◌, ◌++◌, Some, refl, sym}
use Rattle.std.proofs.Common.{ap, ◌∙◌, arith, length}
use Rattle.std.specs.Prelude.{slice_get, slice_set}
use Rattle.std.proofs.lemmas.Bool.{cases_lt}
use Rattle.std.proofs.lemmas.List.{map-append}
use Rattle.pf_hunt.specs.RowHashes.{hashes_in, row_hash}
use Rattle.pf_hunt.specs.Rows.{seeds_counted, is_like, more_often, with_row}
use Rattle.pf_hunt.specs.Views.{row_of, rows_in, NoneBefore}
use Rattle.pf_hunt.specs.declared.row.OutcomeRow.{OutcomeRow}
use Rattle.pf_hunt.proofs.Counting.{at_like, past_unlike}

module _ (y : OutcomeRow) where
  -- past the first row
  after : (x : OutcomeRow) (xs : List OutcomeRow) (i : ℕ) → NoneBefore (x ∷ xs) y (suc i) → NoneBefore xs y i
  after x xs i h k z l e = h (suc k) z (omega arith) e

  -- one row more that is not like it
  pub one_row_more : (xs : List OutcomeRow) (i : ℕ) (x : OutcomeRow) → NoneBefore xs y i → slice_get xs i ≡ Some x
      → is_like (row_of x) (row_of y) ≡ false → NoneBefore xs y (i + 1)
  one_row_more xs i x h e l k z m f = elim (cases_lt k i) [
    | inl b ↦ h k z b f
    | inr b ↦
        let at : k ≡ i = omega arith in
        let q : z ≡ x = cc in
        ap (λ v. is_like (row_of v) (row_of y)) q ∙ l
  ]

  pub is_later_there : (xs : List OutcomeRow) → NoneBefore xs y (length xs)
      → rows_in (xs ++ y ∷ []) ≡ with_row (rows_in xs) (row_of y)
  is_later_there [] h = refl
  is_later_there (x ∷ xs) h =
      ap (λ zs. row_of x ∷ zs) (is_later_there xs (after x xs (length xs) h))
      ∙ sym (past_unlike (row_of x) (rows_in xs) (row_of y) (h 0 x (omega arith) refl))

  pub is_added : (xs : List OutcomeRow) (i : ℕ) (x z : OutcomeRow) → NoneBefore xs y i → slice_get xs i ≡ Some x
      → is_like (row_of x) (row_of y) ≡ true
      → row_of z ≡ more_often (row_of x) y.count → rows_in (slice_set xs i z) ≡ with_row (rows_in xs) (row_of y)
  is_added [] i x z h e l f = absurd (cc)
  is_added (w ∷ xs) zero x z h e l f =
      let q : w ≡ x = cc in
      ap (λ v. v ∷ rows_in xs) (f ∙ ap (λ v. more_often (row_of v) y.count) (sym q))
      ∙ sym (at_like (row_of w) (rows_in xs) (row_of y) (ap (λ v. is_like (row_of v) (row_of y)) q ∙ l))
  is_added (w ∷ xs) (suc i) x z h e l f =
      ap (λ zs. row_of w ∷ zs) (is_added xs i x z (after w xs i h) e l f)
      ∙ sym (past_unlike (row_of w) (rows_in xs) (row_of y) (h 0 w (omega arith) refl))

-- the hashes of the rows, once one counts more, and once there is one more after them
pub hashes_stay : (xs : List OutcomeRow) (i : ℕ) (x z : OutcomeRow) → slice_get xs i ≡ Some x → row_hash z ≡ row_hash x
    → hashes_in (slice_set xs i z) ≡ hashes_in xs
hashes_stay [] i x z e h = absurd (cc)
hashes_stay (w ∷ xs) zero x z e h = let q : w ≡ x = cc in ap (λ n. n ∷ hashes_in xs) (h ∙ ap row_hash (sym q))
hashes_stay (w ∷ xs) (suc i) x z e h = ap (λ ns. row_hash w ∷ ns) (hashes_stay xs i x z e h)

pub hashes_more : (xs : List OutcomeRow) (y : OutcomeRow) → hashes_in (xs ++ y ∷ []) ≡ hashes_in xs ++ row_hash y ∷ []
hashes_more xs y = map-append row_hash xs (y ∷ [])

-- no row counts more than all
pub counts_within : (xs : List OutcomeRow) (i : ℕ) (x : OutcomeRow) → slice_get xs i ≡ Some x
    → x.count ≤ seeds_counted (rows_in xs)
counts_within [] i x e = absurd (cc)
counts_within (w ∷ xs) zero x e = let q : w ≡ x = cc in let c = ap (λ v. v.count) q in omega arith
counts_within (w ∷ xs) (suc i) x e = let h = counts_within xs i x e in omega arith

-- a list without length is empty
pub nothing_left : (xs : List OutcomeRow) → length xs ≡ 0 → xs ≡ []
nothing_left [] e = refl
nothing_left (x ∷ xs) e = absurd (omega arith)

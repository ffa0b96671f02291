-- How the first row is found that is like another: from the last of its hash to the first.
use Rattle.std.proofs.Common.{◌≡◌, ◌≢◌, inl, inr, ◌<◌, ◌≤◌, ℕ, zero, suc, Bool, true, false, List, Option, Some, None}
use Rattle.std.proofs.Common.{sym, ap, ◌∙◌, subst, arith, length}
use Rattle.std.specs.Prelude.{slice_get, MatchOption, option_map, if◌then◌else◌, ⊤}
use Rattle.std.proofs.lemmas.Bool.{and_right, cases_lt}
use Rattle.std.proofs.lemmas.List.{length-map}
use Rattle.std.proofs.lemmas.Option.{slice_get-map}
use Rattle.pf_hunt.specs.Hashes.{outcome_hash}
use Rattle.pf_hunt.specs.Places.{IsLastBefore}
use Rattle.pf_hunt.specs.RowHashes.{hashes_in, row_hash}
use Rattle.pf_hunt.specs.Rows.{is_like, same_outcome, same_verdict}
use Rattle.pf_hunt.specs.Views.{row_of}
use Rattle.pf_hunt.specs.declared.row.OutcomeRow.{OutcomeRow}
use Rattle.pf_hunt.proofs.Counting.{distinguished}

-- where the places end that are still to be looked at
abbrev pub end_of : (next : Option ℕ) → ℕ
end_of None = zero
end_of (Some i) = suc i

module _ (xs : List OutcomeRow) (y : OutcomeRow) where
  -- the row at this index is like it
  abbrev pub IsLike : ℕ → Type 0
  IsLike i = (x : OutcomeRow) × (slice_get xs i ≡ Some x) × (is_like (row_of x) (row_of y) ≡ true)

  -- no row from index a to before b is
  abbrev pub NoneLike : (a b : ℕ) → Type 0
  NoneLike a b = (k : ℕ) (x : OutcomeRow) → a ≤ k → k < b → slice_get xs k ≡ Some x
      → is_like (row_of x) (row_of y) ≡ false

  -- the row that is next has its hash
  abbrev pub HasItsHash : (next : Option ℕ) → Type 0
  HasItsHash o = MatchOption o ⊤ (λ i. slice_get (hashes_in xs) i ≡ Some (row_hash y))

  -- of the rows from index a on, where the first is that is like it; or that none is
  abbrev pub IsFirstFrom : (a : ℕ) → Option ℕ → Type 0
  IsFirstFrom a o = MatchOption o (NoneLike a (length xs)) (λ i. NoneLike a i × IsLike i)

  -- a row of another hash is another row
  unlike : (k : ℕ) (x : OutcomeRow) → slice_get xs k ≡ Some x → (slice_get (hashes_in xs) k ≢ Some (row_hash y))
      → is_like (row_of x) (row_of y) ≡ false
  unlike k x e d =
      let is_there : slice_get (hashes_in xs) k ≡ Some (row_hash x) = slice_get-map row_hash xs k
      ∙ ap (option_map row_hash) e in
      let differ : outcome_hash x.outcome ≢ outcome_hash y.outcome = λ q. d (is_there ∙ ap (λ n. Some n) q) in
      and_right (same_verdict x.verdict y.verdict) (same_outcome x.outcome y.outcome)
      (distinguished x.outcome y.outcome differ)

  none_after : (b : ℕ) (next : Option ℕ) → IsLastBefore (hashes_in xs) (row_hash y) b next → NoneLike (end_of next) b
  none_after b None h k x from to e = unlike k x e (h k from to)
  none_after b (Some i) h k x from to e = unlike k x e (h.2 k from to)

  pub has_its_hash : (b : ℕ) (next : Option ℕ) → IsLastBefore (hashes_in xs) (row_hash y) b next → HasItsHash next
  has_its_hash b None h = tt
  has_its_hash b (Some i) h = h.1

  -- the last of all rows of its hash
  pub last_of_all : (ns : List ℕ) (n : ℕ) (next : Option ℕ) → ns ≡ hashes_in xs → n ≡ row_hash y
      → IsLastBefore ns n (length ns) next
      → IsLastBefore (hashes_in xs) (row_hash y) (length xs) next
  last_of_all ns n next e q h =
      subst (λ b. IsLastBefore (hashes_in xs) (row_hash y) b next) (length-map xs row_hash)
      (subst (λ m. IsLastBefore (hashes_in xs) m (length (hashes_in xs)) next) q
      (subst (λ ms. IsLastBefore ms n (length ms) next) e h))

  -- the places to be looked at are fewer
  pub fewer : (b : ℕ) (next : Option ℕ) → IsLastBefore (hashes_in xs) (row_hash y) b next → end_of next ≤ b
  fewer b None h = omega arith
  fewer b (Some i) h = omega (arith, h.0)

  none_across : (a m b : ℕ) → NoneLike a m → NoneLike m b → NoneLike a b
  none_across a m b h l k x from to e = elim (cases_lt k m) [
    | inl u ↦ h k x from u e
    | inr u ↦ l k x u to e
  ]

  none_at : (i : ℕ) (x : OutcomeRow) → slice_get xs i ≡ Some x → is_like (row_of x) (row_of y) ≡ false
      → NoneLike i (suc i)
  none_at i x e f k z from to g =
      let at : k ≡ i = omega arith in
      let q : z ≡ x = cc in
      ap (λ v. is_like (row_of v) (row_of y)) q ∙ f

  -- nothing was looked at yet
  pub none_yet : (next : Option ℕ) → IsLastBefore (hashes_in xs) (row_hash y) (length xs) next
      → IsFirstFrom (end_of next) None
  none_yet next h = none_after (length xs) next h

  -- one row more was looked at
  pub one_looked_at : (i : ℕ) (x : OutcomeRow) (next o : Option ℕ) (b : Bool) → slice_get xs i ≡ Some x
      → b ≡ is_like (row_of x) (row_of y)
      → IsLastBefore (hashes_in xs) (row_hash y) i next → IsFirstFrom (suc i) o
      → IsFirstFrom (end_of next) (if b then Some i else o)
  one_looked_at i x next o true e l h f = (none_after i next h, (x, e, sym l))
  one_looked_at i x next None false e l h f =
      none_across (end_of next) i (length xs) (none_after i next h)
      (none_across i (suc i) (length xs) (none_at i x e (sym l)) f)
  one_looked_at i x next (Some j) false e l h f =
      (none_across (end_of next) i j (none_after i next h) (none_across i (suc i) j (none_at i x e (sym l)) f.0), f.1)

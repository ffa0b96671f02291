-- A flush of a list from its front.
use Rattle.std.proofs.Common.{◌≡◌, ℕ, zero, suc, ◌<◌, ◌==◌, Bool, true, false, List, [], ◌∷◌, length, map, refl, ap}
use Rattle.std.proofs.Common.{◌∙◌, Some, arith}
use Rattle.std.specs.Prelude.{slice_get, remove}
use Rattle.std.specs.List.{list_any}
use Rattle.pf_terms.specs.Value.{Value, none, more, int, atom, ref, pid, tuple, list}
use Rattle.pf_terms.specs.Term.{value_of, values_of}
use Rattle.pf_terms.specs.declared.term.Term.{Term}
use Rattle.pf_model.specs.Flush.{flushed, reports_of}

-- ---- whether one message is about a reference

-- a tuple is about no reference if other than three elements follow its first two
quiet_pair : (r : ℕ) (v b : Value) (ts : List Term) → (length ts ≡ 3 → ⊥)
    → reports_of r (tuple (more v (more b (values_of ts)))) ≡ false
quiet_pair r v (ref x) [] n = refl
quiet_pair r v (ref x) (p ∷ []) n = refl
quiet_pair r v (ref x) (p ∷ q ∷ []) n = refl
quiet_pair r v (ref x) (p ∷ q ∷ s ∷ []) n = absurd (n refl)
quiet_pair r v (ref x) (p ∷ q ∷ s ∷ t ∷ ts) n = refl
quiet_pair r v (int z) ts n = refl
quiet_pair r v (atom a) ts n = refl
quiet_pair r v (pid p) ts n = refl
quiet_pair r v (tuple vs) ts n = refl
quiet_pair r v (list vs) ts n = refl

pub quiet_unless_five : (r : ℕ) (ts : List Term) → (length ts ≡ 5 → ⊥) → reports_of r (tuple (values_of ts)) ≡ false
quiet_unless_five r [] n = refl
quiet_unless_five r (a ∷ []) n = refl
quiet_unless_five r (a ∷ b ∷ ts) n = quiet_pair r (value_of a) (value_of b) ts (λ e. n (omega (arith, e)))

abbrev pub second_reports : ℕ → Value → Bool
second_reports r (ref x) = r == x
second_reports r v = false

-- whether a tuple of five elements is about a reference depends on its second
pub reports_by_second : (r : ℕ) (ts : List Term) (x : Term) → length ts ≡ 5 → slice_get ts 1 ≡ Some x
    → reports_of r (tuple (values_of ts)) ≡ second_reports r (value_of x)
reports_by_second r [] x n s = absurd (omega arith)
reports_by_second r (a ∷ []) x n s = absurd (omega arith)
reports_by_second r (a ∷ b ∷ []) x n s = absurd (omega arith)
reports_by_second r (a ∷ b ∷ c ∷ []) x n s = absurd (omega arith)
reports_by_second r (a ∷ b ∷ c ∷ d ∷ []) x n s = absurd (omega arith)
reports_by_second r (a ∷ b ∷ c ∷ d ∷ e ∷ f ∷ ts) x n s = absurd (omega arith)
reports_by_second r (a ∷ b ∷ c ∷ d ∷ e ∷ []) x n s = let same : b ≡ x = cc in
    by (value_of b) ∙ ap (λ t. second_reports r (value_of t)) same
  where
    by : (v : Value)
        → reports_of r (tuple (more (value_of a)
        (more v (more (value_of c) (more (value_of d) (more (value_of e) none)))))) ≡ second_reports r v
    by (int z) = refl
    by (atom y) = refl
    by (ref y) = refl
    by (pid p) = refl
    by (tuple vs) = refl
    by (list vs) = refl

-- ---- among messages

module _ (r : ℕ) where
  abbrev pub Reports : Bool → Term → Type 0
  Reports b x = reports_of r (value_of x) ≡ b

  -- the first k are quiet
  abbrev pub QuietTo : ℕ → List Term → Type 0
  QuietTo k xs = (j : ℕ) (y : Term) → j < k → slice_get xs j ≡ Some y → Reports false y

  pub flushed_at : (xs : List Term) (k : ℕ) (x : Term) → QuietTo k xs → slice_get xs k ≡ Some x → Reports true x
      → map value_of (remove xs k) ≡ flushed r (map value_of xs)
  flushed_at [] k x q s t = absurd cc
  flushed_at (y ∷ ys) zero x q s t = let e : y ≡ x = cc in rw (e, t) refl
  flushed_at (y ∷ ys) (suc k) x q s t =
      rw (q zero y (omega arith) refl) (ap (λ l. value_of y ∷ l)
      (flushed_at ys k x (λ j z l. q (suc j) z (omega arith)) s t))

  pub reported_at : (xs : List Term) (k : ℕ) (x : Term) → QuietTo k xs → slice_get xs k ≡ Some x → Reports true x
      → true ≡ list_any (reports_of r) (map value_of xs)
  reported_at [] k x q s t = absurd cc
  reported_at (y ∷ ys) zero x q s t = let e : y ≡ x = cc in rw (e, t) refl
  reported_at (y ∷ ys) (suc k) x q s t = rw (q zero y (omega arith) refl)
      (reported_at ys k x (λ j z l. q (suc j) z (omega arith)) s t)

  pub flushed_none : (xs : List Term) → QuietTo (length xs) xs → map value_of xs ≡ flushed r (map value_of xs)
  flushed_none [] q = refl
  flushed_none (y ∷ ys) q =
      rw (q zero y (omega arith) refl) (ap (λ l. value_of y ∷ l) (flushed_none ys (λ j z l. q (suc j) z (omega arith))))

  pub reported_none : (xs : List Term) → QuietTo (length xs) xs → false ≡ list_any (reports_of r) (map value_of xs)
  reported_none [] q = refl
  reported_none (y ∷ ys) q = rw (q zero y (omega arith) refl) (reported_none ys (λ j z l. q (suc j) z (omega arith)))

-- Arrows are joined with receipts, one after another.
use Rattle.std.proofs.Common.{◌≡◌, ◌+◌, ◌<◌, ◌≤◌, inl, inr, ℕ, zero, suc, List, [], ◌∷◌, Option, Some, length, get_or}
use Rattle.std.proofs.Common.{set, refl, sym, ap, ◌∙◌, subst, arith}
use Rattle.std.specs.Prelude.{slice_get}
use Rattle.std.proofs.lemmas.Bool.Decides.{eqb_tells}
use Rattle.std.proofs.lemmas.List.{length-set}
use Rattle.std.proofs.lemmas.Option.{same_Some, slice_get-get_or, slice_get_within}
use Rattle.pf_model.specs.Meaning.{Event}
use Rattle.pf_chart.specs.Signals.{AreJoined, AreReceipts, IsJoinedBy}
use Rattle.pf_chart.specs.declared.arrows.Arrow.{Arrow}
use Rattle.pf_chart.proofs.Sending.{Reports}

pub set_there : {X : Type 0} (xs : List X) (n : ℕ) (b : X) → n < length xs → slice_get (set xs n b) n ≡ Some b
set_there [] n b low = absurd (omega arith)
set_there (x ∷ xs) zero b low = refl
set_there (x ∷ xs) (suc n) b low = set_there xs n b (omega arith)

pub set_besides : {X : Type 0} (xs : List X) (n i : ℕ) (b : X) → (i ≡ n → ⊥) → slice_get (set xs n b) i ≡ slice_get xs i
set_besides [] n i b other = refl
set_besides (x ∷ xs) zero zero b other = absurd (other refl)
set_besides (x ∷ xs) zero (suc i) b other = refl
set_besides (x ∷ xs) (suc n) zero b other = refl
set_besides (x ∷ xs) (suc n) (suc i) b other = set_besides xs n i b (λ e. other (ap suc e))

-- the first of them are joined, and the others are as they were
pub record AreJoinedTo (rs : List (Option ℕ)) (n : ℕ) (xs ys : List Arrow) : Type 0 where
  pub count : length ys ≡ length xs
  pub front : (i : ℕ) (b : Arrow) → i < n → slice_get ys i ≡ Some b
      → (a : Arrow) × (slice_get xs i ≡ Some a) × IsJoinedBy rs a.kind a.reach a b
  pub back : (i : ℕ) → n ≤ i → slice_get ys i ≡ slice_get xs i

pub joined_none : (rs : List (Option ℕ)) (xs : List Arrow) → AreJoinedTo rs 0 xs xs
joined_none rs xs = record { count = refl; front = λ i b low is. absurd (omega arith); back = λ i high. refl }

pub joined_next : (rs : List (Option ℕ)) (n : ℕ) (xs ys : List Arrow) (a b : Arrow) → AreJoinedTo rs n xs ys
    → n < length ys → a ≡ get_or ys n a
    → IsJoinedBy rs a.kind a.reach a b → AreJoinedTo rs (n + 1) xs (set ys n b)
joined_next rs n xs ys a b h low read joined = record {
  count = length-set ys n b ∙ h.count;
  front = λ i c less is. front i c less is (eqb_tells i n);
  back = λ i high. set_besides ys n i b (λ e. omega (arith, high, e)) ∙ h.back i (omega (arith, high));
}
  where
    there : slice_get xs n ≡ Some a
    there = sym (h.back n (omega arith)) ∙ slice_get-get_or ys n a low ∙ ap Some (sym read)

    front : (i : ℕ) (c : Arrow) → i < n + 1 → slice_get (set ys n b) i ≡ Some c → Reports i n
        → (z : Arrow) × (slice_get xs i ≡ Some z) × IsJoinedBy rs z.kind z.reach z c
    front i c less is (inl same) =
        let one : b ≡ c = same_Some b c (sym (set_there ys n b low) ∙ ap (slice_get (set ys n b)) (sym same.1) ∙ is) in
        (a, ap (slice_get xs) same.1 ∙ there, subst (λ z. IsJoinedBy rs a.kind a.reach a z) one joined)
    front i c less is (inr other) = h.front i c (omega (arith, less, other.1)) (sym (set_besides ys n i b other.1) ∙ is)

pub joined_all : (es : List Event) (rs : List (Option ℕ)) (n : ℕ) (xs ys : List Arrow) → AreReceipts es rs
    → AreJoinedTo rs n xs ys → length ys ≤ n → AreJoined es xs ys
joined_all es rs n xs ys are h all = record {
  receipts = rs;
  are = are;
  count = h.count;
  each = λ i b is. h.front i b (omega (arith, all, slice_get_within ys i b is)) is;
}

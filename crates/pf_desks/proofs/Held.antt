-- Lists with gaps: what is held, around one thing of it.
use Rattle.std.proofs.Common.{◌≡◌, ℕ, zero, suc, List, [], ◌∷◌, ◌++◌, Option, Some, None, refl, sym, ap}
use Rattle.std.specs.Prelude.{slice_get, slice_set}
use Rattle.std.proofs.lemmas.List.Elements.{filter_map-append}
use Rattle.std.proofs.lemmas.List.{append-nil}
use Rattle.pf_desks.specs.Desk.{held_at, with_held, all_held}

-- what is held, and one thing more at the end
pub held_push : {T : Type 0} (xs : List (Option T)) (x : T) → all_held (xs ++ Some x ∷ []) ≡ all_held xs ++ x ∷ []
held_push xs x = filter_map-append (λ o. o) xs (Some x ∷ [])

-- what is held around the thing of a number, and what is held where something else is written there
pub record Around {T : Type 0} (xs : List (Option T)) (n : ℕ) (x : T) : Type 0 where
  pub before : List T
  pub after : List T
  pub is : all_held xs ≡ before ++ x ∷ after
  pub gone : all_held (with_held xs n None) ≡ before ++ after
  pub other : (y : T) → all_held (with_held xs n (Some y)) ≡ before ++ y ∷ after

-- OneMore ys xs x: the one list holds one thing more than the other
pub record OneMore {T : Type 0} (ys xs : List (Option T)) (x : T) : Type 0 where
  pub before : List T
  pub after : List T
  pub more : all_held xs ≡ before ++ x ∷ after
  pub less : all_held ys ≡ before ++ after

pub one_pushed : {T : Type 0} (xs : List (Option T)) (x : T) → OneMore xs (xs ++ Some x ∷ []) x
one_pushed xs x = record {
  before = all_held xs;
  after = [];
  more = held_push xs x;
  less =
      sym (append-nil (all_held xs));
}

module _ {T : Type 0} where
  here : (xs : List (Option T)) (x : T) (o : Option T) → o ≡ Some x → Around (o ∷ xs) 1 x
  here xs x None h = absurd (cc)
  here xs x (Some y) h =
      let same : y ≡ x = cc in
      record {
        before = [];
        after = all_held xs;
        is = ap (λ (z : T). z ∷ all_held xs) same;
        gone = refl;
        other = λ y. refl;
      }

  later_ones : (o : Option T) (xs : List (Option T)) (i : ℕ) (x : T) → Around xs (suc i) x
      → Around (o ∷ xs) (suc (suc i)) x
  later_ones None xs i x a = record { before = a.before; after = a.after; is = a.is; gone = a.gone; other = a.other }
  later_ones (Some y) xs i x a = record {
    before = y ∷ a.before;
    after = a.after;
    is = ap (λ (l : List T). y ∷ l) a.is;
    gone = ap (λ (l : List T). y ∷ l) a.gone;
    other = λ z. ap (λ (l : List T). y ∷ l) (a.other z);
  }

  around_index : (xs : List (Option T)) (i : ℕ) (x : T) → slice_get xs i ≡ Some (Some x) → Around xs (suc i) x
  around_index [] i x h = absurd (cc)
  around_index (o ∷ xs) zero x h = let e : o ≡ Some x = cc in here xs x o e
  around_index (o ∷ xs) (suc i) x h = later_ones o xs i x (around_index xs i x h)

  at_index : (xs : List (Option T)) (i : ℕ) (x : T) → held_at xs (suc i) ≡ Some x → slice_get xs i ≡ Some (Some x)
  at_index xs i x h = by (slice_get xs i) refl h
    where
      by : (o : Option (Option T)) → slice_get xs i ≡ o → held_at xs (suc i) ≡ Some x → slice_get xs i ≡ Some (Some x)
      by None e h = absurd (cc)
      by (Some o) e h = cc

  pub around : (xs : List (Option T)) (n : ℕ) (x : T) → held_at xs n ≡ Some x → Around xs n x
  around xs zero x h = absurd (cc)
  around xs (suc i) x h = around_index xs i x (at_index xs i x h)

  -- nothing changes where nothing is held
  gap_index : (xs : List (Option T)) (i : ℕ) → held_at xs (suc i) ≡ None → all_held (slice_set xs i None) ≡ all_held xs
  gap_index [] i h = refl
  gap_index (None ∷ xs) zero h = refl
  gap_index (Some y ∷ xs) zero h = absurd (cc)
  gap_index (None ∷ xs) (suc i) h = gap_index xs i h
  gap_index (Some y ∷ xs) (suc i) h = ap (λ (l : List T). y ∷ l) (gap_index xs i h)

  pub gap : (xs : List (Option T)) (n : ℕ) → held_at xs n ≡ None → all_held (with_held xs n None) ≡ all_held xs
  gap xs zero h = refl
  gap xs (suc i) h = gap_index xs i h

pub one_gone : {T : Type 0} (xs : List (Option T)) (n : ℕ) (x : T) → held_at xs n ≡ Some x
    → OneMore (with_held xs n None) xs x
one_gone xs n x h =
    let a : Around xs n x = around xs n x h in
    record { before = a.before; after = a.after; more = a.is; less = a.gone }

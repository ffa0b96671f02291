-- The chooser that keeps a process last chooses one of those who may go, as the chooser does by which it chooses.
use Rattle.std.proofs.Common.{◌≡◌, ℕ, zero, suc, ◌+◌, ◌<◌, ◌≤◌, Bool, true, false, if◌then◌else◌, List, [], ◌∷◌}
use Rattle.std.proofs.Common.{◌++◌, length}
use Rattle.std.proofs.Common.{Option, None, Some, map, refl, ap, ◌∙◌, arith}
use Rattle.std.specs.Prelude.{filter, nat_lt}
use Rattle.std.proofs.lemmas.Bool.Decides.{nat_tests}
use Rattle.std.proofs.lemmas.List.{length-append, length-map}
use Rattle.pf_model.specs.Choosers.{Chooser, ChoosesOne}
use Rattle.pf_strategy.specs.Last.{are_others, choose_other, is_other, is_other_channel, keep_last, keep_named, place}

-- how many of a list are marked
abbrev marked : List Bool → ℕ
marked bs = length (filter (λ b. b) bs)

marked_before : {A : Type 0} (so : A → Bool) (xs : List A) (bs : List Bool)
    → marked (map so xs ++ bs) ≡ length (filter so xs) + marked bs
marked_before so [] bs = omega arith
marked_before so (x ∷ xs) bs = by (so x) (marked_before so xs bs)
  where
    by : (e : Bool) → marked (map so xs ++ bs) ≡ length (filter so xs) + marked bs
        → marked (e ∷ map so xs ++ bs) ≡ length (if e then x ∷ filter so xs else filter so xs) + marked bs
    by true h = omega arith
    by false h = h

marked_of : {A : Type 0} (so : A → Bool) (xs : List A) → marked (map so xs) ≡ length (filter so xs)
marked_of so [] = refl
marked_of so (x ∷ xs) = by (so x) (marked_of so xs)
  where
    by : (e : Bool) → marked (map so xs) ≡ length (filter so xs)
        → marked (e ∷ map so xs) ≡ length (if e then x ∷ filter so xs else filter so xs)
    by true h = ap suc h
    by false h = h

-- as many are marked as others may go
pub count_of_others : (p : ℕ) (pids : List ℕ) (channels : List (ℕ × ℕ))
    → marked (are_others p pids channels)
    ≡ length (filter (is_other p) pids) + length (filter (is_other_channel p) channels)
count_of_others p pids channels =
    marked_before (is_other p) pids (map (is_other_channel p) channels)
    ∙ ap (λ n. length (filter (is_other p) pids) + n) (marked_of (is_other_channel p) channels)

pub place_within : (i : ℕ) (bs : List Bool) → i < marked bs → place i bs < length bs
place_within i [] l = absurd (omega arith)
place_within i (false ∷ bs) l = let k = place_within i bs l in omega arith
place_within zero (true ∷ bs) l = omega arith
place_within (suc i) (true ∷ bs) l = let k = place_within i bs (omega arith) in omega arith

pub count_of_marks : (p : ℕ) (pids : List ℕ) (channels : List (ℕ × ℕ))
    → length (are_others p pids channels) ≡ length pids + length channels
count_of_marks p pids channels =
    let a = length-append (map (is_other p) pids) (map (is_other_channel p) channels) in
    let b = length-map pids (is_other p) in
    let c = length-map channels (is_other_channel p) in
    omega arith

-- the place of one of the others is one of those who may go
pub other_within : (p i : ℕ) (pids : List ℕ) (channels : List (ℕ × ℕ))
    → i < length (filter (is_other p) pids) + length (filter (is_other_channel p) channels)
    → place i (are_others p pids channels) < length pids + length channels
other_within p i pids channels l =
    let n = count_of_others p pids channels in
    let k = place_within i (are_others p pids channels) (omega arith) in
    let m = count_of_marks p pids channels in
    omega arith

module _ {S : Type 0} (p : ℕ) (choose : Chooser S) (one : ChoosesOne choose) where
  keeps_one : ChoosesOne (keep_last p choose)
  keeps_one s pids channels l = by (nat_lt 0 others) refl
    where
      others : ℕ
      others = length (filter (is_other p) pids) + length (filter (is_other_channel p) channels)

      by : (e : Bool) → nat_lt 0 others ≡ e
          → (if e then choose_other p choose s pids channels else choose s pids channels).0
          < length pids + length channels
      by true e =
          let some : 0 < others = grind (arith, nat_tests) in
          other_within p (choose s (filter (is_other p) pids) (filter (is_other_channel p) channels)).0 pids channels
          (one s (filter (is_other p) pids) (filter (is_other_channel p) channels) some)
      by false e = one s pids channels l

pub keeps_choosing_one : {S : Type 0} (p : Option ℕ) (choose : Chooser S) → ChoosesOne choose
    → ChoosesOne (keep_named p choose)
keeps_choosing_one None choose one = one
keeps_choosing_one (Some p) choose one = keeps_one p choose one

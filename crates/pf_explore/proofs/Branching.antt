-- What comes after a run, and that no schedule is between.
use Rattle.std.proofs.Common.{◌≡◌, ◌∙◌, ◌⊎◌, inl, inr, refl, sym, ap, subst, ℕ, zero, suc, ◌+◌, ◌-◌, ◌==◌, ◌<◌, ◌≤◌}
use Rattle.std.proofs.Common.{arith}
use Rattle.std.proofs.Common.{Bool, true, false, ◌||◌, ◌&&◌, if◌then◌else◌, List, [], ◌∷◌, ◌++◌, length, take}
use Rattle.std.proofs.Common.{get_or}
use Rattle.std.proofs.Common.{Some}
use Rattle.std.specs.Prelude.{nat_lt}
use Rattle.std.proofs.lemmas.Bool.{cases_lt}
use Rattle.std.proofs.lemmas.List.{length-take-le, take_more}
use Rattle.std.proofs.lemmas.Bool.Decides.{nat_tests}
use Rattle.pf_strategy.specs.declared.noted.ChoicePoint.{ChoicePoint}
use Rattle.pf_explore_laws.specs.Last.{other_choices}
use Rattle.pf_explore_laws.specs.Parting.{ArePart, Part}
use Rattle.pf_explore.specs.Branching.{may_branch, seen, seen_all, deviating}
use Rattle.pf_explore.specs.declared.branch.Seen.{Seen}
use Rattle.pf_explore.proofs.Order.{choices, IsFrom, Branches, Follow}

-- ---- what is seen of one choice more

abbrev pub leaves_out : Seen → ChoicePoint → Bool
leaves_out s e = may_branch e && s.room == 0

-- one choice more after others
pub seen_more : (s : Seen) (i : ℕ) (es : List ChoicePoint) (e : ChoicePoint)
    → seen_all s i (es ++ e ∷ []) ≡ seen (seen_all s i es) (i + length es) e
seen_more s i [] e = let q : i ≡ i + 0 = omega arith in ap (λ k. seen s k e) q
seen_more s i (x ∷ es) e =
    let q : suc i + length es ≡ i + length (x ∷ es) = omega arith in
    seen_more (seen s i x) (suc i) es e ∙ ap (λ k. seen (seen_all (seen s i x) (suc i) es) k e) q

-- the next of these choices
pub seen_next : (s : Seen) (es : List ChoicePoint) (i : ℕ) (d : ChoicePoint) (so_far : Seen) → i < length es
    → so_far ≡ seen_all s zero (take i es) → seen so_far i (get_or es i d) ≡ seen_all s zero (take (i + 1) es)
seen_next s es i d so_far below so =
    let within : i ≤ length es = omega arith in
    let size : length (take i es) ≡ i = length-take-le i es within in
    let more : take (i + 1) es ≡ take i es ++ get_or es i d ∷ [] = take_more es i d below in
    let at : i ≡ zero + length (take i es) = omega arith in
    ap (λ x. seen x i (get_or es i d)) so
    ∙ ap (λ k. seen (seen_all s zero (take i es)) k (get_or es i d)) at
    ∙ sym (seen_more s zero (take i es) (get_or es i d)) ∙ ap (seen_all s zero) (sym more)

-- what was left out stays so
left_stays : (s : Seen) (i : ℕ) (es : List ChoicePoint) → s.left_out ≡ true → (seen_all s i es).left_out ≡ true
left_stays s i [] h = h
left_stays s i (e ∷ es) h = left_stays (seen s i e) (suc i) es (ap (λ b. b || leaves_out s e) h)

or_true : (a b : Bool) → b ≡ true → (a || b) ≡ true
or_true true b h = refl
or_true false b h = h

-- ---- the last branch

-- the last branch at one of these choices
abbrev HasBranch : Seen → ℕ → List ChoicePoint → Type 0
HasBranch s i es = (k : ℕ) × (n : ℕ) × ((seen_all s i es).branch ≡ Some (i + k, n)) × Branches (deviating es k n) es

later_branch : (s : Seen) (i : ℕ) (e : ChoicePoint) (es : List ChoicePoint) → HasBranch (seen s i e) (suc i) es
    → HasBranch s i (e ∷ es)
later_branch s i e es h =
    let q : suc i + h.0 ≡ i + suc h.0 = omega arith in
    (suc h.0, h.1, h.2 ∙ ap (λ k. Some (k, h.1)) q, inr (refl, h.3))

-- where one may branch, the next choice may be made
next_might : (e : ChoicePoint) → may_branch e ≡ true → e.choice + 1 < e.count
next_might e h = grind (arith, nat_tests, h)

first_branch : (s : Seen) (i : ℕ) (e : ChoicePoint) (es : List ChoicePoint) (b z : Bool) → may_branch e ≡ b
    → (s.room == 0) ≡ z
    → (seen_all (seen s i e) (suc i) es).branch ≡ (seen s i e).branch
    → ((seen_all s i (e ∷ es)).branch ≡ s.branch) ⊎ HasBranch s i (e ∷ es)
first_branch s i e es false z may room h =
    inl (h ∙ ap (λ b. if b then (if s.room == 0 then s.branch else Some (i, e.choice + 1)) else s.branch) may)
first_branch s i e es true true may room h =
    inl (h ∙ ap (λ b. if b then (if s.room == 0 then s.branch else Some (i, e.choice + 1)) else s.branch) may
    ∙ ap (λ z. if z then s.branch else Some (i, e.choice + 1)) room)
first_branch s i e es true false may room h =
    let q : i ≡ i + 0 = omega arith in
    inr (
      0,
      e.choice + 1,
      h ∙ ap (λ b. if b then (if s.room == 0 then s.branch else Some (i, e.choice + 1)) else s.branch) may
          ∙ ap (λ z. if z then s.branch else Some (i, e.choice + 1)) room ∙ ap (λ k. Some (k, e.choice + 1)) q,
      inl (omega arith, next_might e may, refl),
    )

pub branch_of : (s : Seen) (i : ℕ) (es : List ChoicePoint)
    → ((seen_all s i es).branch ≡ s.branch) ⊎ HasBranch s i es
branch_of s i [] = inl refl
branch_of s i (e ∷ es) =
    elim (branch_of (seen s i e) (suc i) es)
    [ inl h ↦ first_branch s i e es (may_branch e) (s.room == 0) refl refl h | inr h ↦ inr (later_branch s i e es h) ]

-- ---- no schedule is between

-- choices come with the schedule by the last branch or after it
abbrev pub ComesAfter : Seen → ℕ → List ChoicePoint → List ChoicePoint → Type 0
ComesAfter s i es fs =
    (k : ℕ) × (n : ℕ) × ((seen_all s i es).branch ≡ Some (i + k, n)) × IsFrom (deviating es k n) (choices fs)

-- so many other_choices are left for what follows an event
room_left : (s : Seen) (i : ℕ) (e f : ChoicePoint) (fs : List ChoicePoint) (b : Bool) → (e.choice == 0) ≡ b
    → e.choice ≡ f.choice
    → other_choices (f ∷ fs) ≤ s.room → other_choices fs ≤ (seen s i e).room
room_left s i e f fs true z same few =
    let one : other_choices (f ∷ fs) ≡ other_choices fs =
    ap (λ b. if b then other_choices fs else suc (other_choices fs)) (ap (λ n. n == 0) (sym same) ∙ z) in
    let room : (seen s i e).room ≡ s.room = ap (λ b. if b then s.room else s.room - 1) z in
    omega arith
room_left s i e f fs false z same few =
    let one : other_choices (f ∷ fs) ≡ suc (other_choices fs) =
    ap (λ b. if b then other_choices fs else suc (other_choices fs)) (ap (λ n. n == 0) (sym same) ∙ z) in
    let room : (seen s i e).room ≡ s.room - 1 = ap (λ b. if b then s.room else s.room - 1) z in
    omega arith

-- a choice that isn't the first is a deviation
deviates : (f : ChoicePoint) (fs : List ChoicePoint) → 0 < f.choice → 0 < other_choices (f ∷ fs)
deviates f fs h = by (f.choice == 0) refl
  where
    by : (b : Bool) → (f.choice == 0) ≡ b → 0 < other_choices (f ∷ fs)
    by true z = grind (arith, nat_tests, z)
    by false z =
        let one : other_choices (f ∷ fs) ≡ suc (other_choices fs) =
        ap (λ b. if b then other_choices fs else suc (other_choices fs)) z in
        omega arith

-- two runs part at these choices, of which the other's is the later
module _ (s : Seen) (i : ℕ) (e f : ChoicePoint) (es fs : List ChoicePoint) (part : ArePart e f)
    (less : e.choice < f.choice) where
  may : may_branch e ≡ true
  may = let a = part.count in let b = part.other_might in grind (arith, nat_tests, less)

  parted_at : (z : Bool) → (s.room == 0) ≡ z
      → ((seen_all s i (e ∷ es)).left_out ≡ true → other_choices (f ∷ fs) ≤ s.room)
      → ComesAfter s i (e ∷ es) (f ∷ fs)
  parted_at true room few =
      let out : (seen s i e).left_out ≡ true =
      or_true s.left_out (leaves_out s e) (ap (λ b. b && s.room == 0) may ∙ room) in
      let none = few (left_stays (seen s i e) (suc i) es out) in
      let some = deviates f fs (omega arith) in
      let zero_room : s.room ≡ 0 = grind (arith, nat_tests, room) in
      absurd (omega arith)
  parted_at false room few =
      elim (branch_of (seen s i e) (suc i) es) [ inl h ↦ here h | inr h ↦ later h ]
    where
      here : (seen_all (seen s i e) (suc i) es).branch ≡ (seen s i e).branch → ComesAfter s i (e ∷ es) (f ∷ fs)
      here h =
          let q : i ≡ i + 0 = omega arith in (
            0,
            e.choice + 1,
            h ∙ ap (λ b. if b then (if s.room == 0 then s.branch else Some (i, e.choice + 1)) else s.branch) may
                ∙ ap (λ z. if z then s.branch else Some (i, e.choice + 1)) room ∙ ap (λ k. Some (k, e.choice + 1)) q,
            next (nat_lt (e.choice + 1) f.choice) refl,
          )
        where
          next : (b : Bool) → nat_lt (e.choice + 1) f.choice ≡ b
              → (e.choice + 1 < f.choice) ⊎ ((e.choice + 1 ≡ f.choice) × Unit {0})
          next true h = inl (grind (arith, nat_tests, h))
          next false h = inr (grind (arith, nat_tests, h), tt)

      later : HasBranch (seen s i e) (suc i) es → ComesAfter s i (e ∷ es) (f ∷ fs)
      later h =
          let q : suc i + h.0 ≡ i + suc h.0 = omega arith in
          (suc h.0, h.1, h.2 ∙ ap (λ k. Some (k, h.1)) q, inl less)

-- the same event before two runs
joined : (s : Seen) (i : ℕ) (e f : ChoicePoint) (es fs : List ChoicePoint) → e ≡ f
    → (es ≡ fs) ⊎ ComesAfter (seen s i e) (suc i) es fs → (e ∷ es ≡ f ∷ fs) ⊎ ComesAfter s i (e ∷ es) (f ∷ fs)
joined s i e f es fs same (inl h) = inl (ap (λ x. x ∷ es) same ∙ ap (λ xs. f ∷ xs) h)
joined s i e f es fs same (inr h) =
    let q : suc i + h.0 ≡ i + suc h.0 = omega arith in
    inr (suc h.0, h.1, h.2 ∙ ap (λ k. Some (k, h.1)) q, inr (ap (λ x. x.choice) same, h.3))

after_first : (e f : ChoicePoint) → e.choice ≡ 0 → (e.choice ≡ f.choice → ⊥) → e.choice < f.choice
after_first e f none apart =
    elim (cases_lt e.choice f.choice) [ inl less ↦ less | inr past ↦ absurd (apart (omega arith)) ]

-- a run by a schedule, and another by choices that come with the schedule or after it: the runs are the same, or the
-- other comes with the next schedule or after it, if it doesn't deviate too often
pub none_between : (s : Seen) (i : ℕ) (ns : List ℕ) (es fs : List ChoicePoint) → Part es fs → Follow ns es
    → IsFrom ns (choices fs) → ((seen_all s i es).left_out ≡ true → other_choices fs ≤ s.room)
    → (es ≡ fs) ⊎ ComesAfter s i es fs
none_between s i ns [] [] p b from few = inl refl
none_between s i ns [] (f ∷ fs) p b from few = absurd p
none_between s i ns (e ∷ es) [] p b from few = absurd p
none_between s i [] (e ∷ es) (f ∷ fs) (inl q) b from few =
    joined s i e f es fs q.0
    (none_between (seen s i e) (suc i) [] es fs q.1 b.1 tt
    (λ out. room_left s i e f fs (e.choice == 0) refl (ap (λ x. x.choice) q.0) (few out)))
none_between s i [] (e ∷ es) (f ∷ fs) (inr q) b from few =
    let apart = q.apart in
    let first = b.0 in
    inr (parted_at s i e f es fs q (after_first e f first apart) (s.room == 0) refl few)
none_between s i (n ∷ ns) (e ∷ es) (f ∷ fs) (inl q) b (inl from) few =
    let same : e.choice ≡ f.choice = ap (λ x. x.choice) q.0 in
    let own = b.0 in
    absurd (omega arith)
none_between s i (n ∷ ns) (e ∷ es) (f ∷ fs) (inl q) b (inr from) few =
    joined s i e f es fs q.0
    (none_between (seen s i e) (suc i) ns es fs q.1 b.1 from.1
    (λ out. room_left s i e f fs (e.choice == 0) refl (ap (λ x. x.choice) q.0) (few out)))
none_between s i (n ∷ ns) (e ∷ es) (f ∷ fs) (inr q) b (inl from) few =
    inr (parted_at s i e f es fs q (subst (λ k. k < f.choice) (sym b.0) from) (s.room == 0) refl few)
none_between s i (n ∷ ns) (e ∷ es) (f ∷ fs) (inr q) b (inr from) few = absurd (q.apart (b.0 ∙ from.0))

-- Rounds by how they are kept: which candidate is next, and what is left after it.
use Rattle.std.proofs.Common.{◌≡◌, ◌⊎◌, inl, inr, ℕ, suc, ◌+◌, ◌-◌, ◌/◌, ◌<◌, ◌≤◌, List, [], ◌∷◌, ◌++◌, Some, length}
use Rattle.std.proofs.Common.{take, drop, refl, sym, ap, subst, ◌∙◌, arith, slice_set, get_or}
use Rattle.std.specs.List.{swap}
use Rattle.std.proofs.lemmas.List.{length-set, get_or-set_same, set-set, set-get_or}
use Rattle.std.proofs.lemmas.List.Edits.{length-swap}
use Rattle.pf_model.specs.Shrinking.{without_one, halved}
use Rattle.pf_shrink.specs.Rounds.{Round, round, first_schedule, round_begun, passed_over, round_passed, taken_of}
use Rattle.pf_shrink.specs.Rounds.{round_taken, from_position}
use Rattle.pf_shrink.specs.Kept.{with_last_at, schedule_in, candidates_left, round_kept, IsPositionOf}
use Rattle.pf_shrink.specs.declared.round.Position.{Position}
use Rattle.pf_shrink.specs.declared.round.Position.TheVariants.{WithoutLast, Without, Halved, End}
use Rattle.pf_shrink.proofs.Moved.{last_of_rotated, last_at_its_position, last_of_swapped, candidates_are}
use Rattle.pf_shrink.proofs.Moved.{without_moved, without_end, halved_at, zero_is_not_halved, halved_end}

-- ---- what is left

pub left_last : (ns : List ℕ) → 0 < length ns
    → candidates_left ns WithoutLast ≡ take (length ns - 1) ns ∷ (without_one ns ++ halved ns)
left_last ns h = candidates_are (length ns - 1) ns (omega arith)

pub left_without : (i : ℕ) (ns : List ℕ) → suc i < length ns
    → candidates_left ns (Without i) ≡ take (length ns - 1) ns ∷ (from_position without_one (suc i) (with_last_at i ns)
    ++ halved (with_last_at i ns))
left_without i ns h =
    ap (λ cs. cs ++ halved (with_last_at i ns)) (without_moved i (length ns - 1) ns (omega arith) (omega arith))

pub left_halved : (i n : ℕ) (ns : List ℕ) → IsPositionOf ns (Halved i n)
    → candidates_left ns (Halved i n) ≡ ns ∷ from_position halved (suc i) (slice_set ns i n)
left_halved i n ns h =
    let s = slice_set ns i n in
    let at : get_or s i 0 ≡ n = get_or-set_same ns i n 0 h.0 in
    let same : slice_set s i (n / 2) ≡ ns = set-set ns i n (n / 2) ∙ ap (slice_set ns i) (sym h.2)
    ∙ set-get_or ns i 0 in
    halved_at i s (simp length-set h.0) (subst (λ x. 0 < x) (sym at) h.1)
    ∙ ap (λ x. slice_set s i (x / 2) ∷ from_position halved (suc i) s) at
    ∙ ap (λ x. x ∷ from_position halved (suc i) s) same

-- where no candidate is left, the numbers are the schedule
pub schedule_where_none_left : (ns : List ℕ) (p : Position) → IsPositionOf ns p → candidates_left ns p ≡ []
    → ns ≡ schedule_in ns p
schedule_where_none_left ns WithoutLast h e = refl
schedule_where_none_left ns (Without i) h e = let l = left_without i ns h in absurd (cc)
schedule_where_none_left ns (Halved i n) h e = let l = left_halved i n ns h in absurd (cc)
schedule_where_none_left ns End h e = refl

-- the next candidate is all but the last number
abbrev LeavesOneOut : Position → Type 0
LeavesOneOut p = (p ≡ WithoutLast) ⊎ ((i : ℕ) × (p ≡ Without i))

pub next_shorter : (ns : List ℕ) (p : Position) → IsPositionOf ns p → LeavesOneOut p
    → first_schedule (candidates_left ns p) ≡ Some (take (length ns - 1) ns)
next_shorter ns WithoutLast h w = ap first_schedule (left_last ns h)
next_shorter ns (Without i) h w = ap first_schedule (left_without i ns h)
next_shorter ns (Halved i n) h (inl e) = absurd (cc)
next_shorter ns (Halved i n) h (inr e) = let f = e.1 in absurd (cc)
next_shorter ns End h (inl e) = absurd (cc)
next_shorter ns End h (inr e) = let f = e.1 in absurd (cc)

pub next_halved : (ns : List ℕ) (p : Position) (i n : ℕ) → IsPositionOf ns p → p ≡ Halved i n
    → first_schedule (candidates_left ns p) ≡ Some ns
next_halved ns p i n h e =
    let k = subst (IsPositionOf ns) e h in
    ap (λ x. first_schedule (candidates_left ns x)) e ∙ ap first_schedule (left_halved i n ns k)

-- ---- it fails, and becomes the schedule

taken_head : (s : List ℕ) (cs : List (List ℕ)) (c : List ℕ) → first_schedule cs ≡ Some c → taken_of s cs ≡ round_begun c
taken_head s [] c e = absurd (cc)
taken_head s (d ∷ cs) c e = let f : d ≡ c = cc in ap round_begun f

pub taken_shorter : (ns ms now : List ℕ) (p q : Position) (r : Round) → IsPositionOf ns p → round_kept ns p ≡ r
    → LeavesOneOut p
    → ms ≡ take (length ns - 1) ns → now ≡ ms → round_kept now q ≡ round_begun now → round_kept ms q ≡ round_taken r
taken_shorter ns ms now p q r k v w m e b =
    ap (λ x. round_kept x q) (sym e) ∙ b ∙ ap round_begun (e ∙ m)
    ∙ sym (taken_head (schedule_in ns p) (candidates_left ns p) (take (length ns - 1) ns) (next_shorter ns p k w))
    ∙ ap round_taken v

-- the next candidate is all the numbers, or there is none
abbrev LeavesNoneOut : Position → Type 0
LeavesNoneOut p = ((i : ℕ) × (n : ℕ) × (p ≡ Halved i n)) ⊎ (p ≡ End)

taken_none_out : (ns : List ℕ) (p : Position) → IsPositionOf ns p → LeavesNoneOut p
    → round_taken (round_kept ns p) ≡ round_begun ns
taken_none_out ns p k (inl w) =
    taken_head (schedule_in ns p) (candidates_left ns p) ns (next_halved ns p w.0 w.1 k w.2)
taken_none_out ns p k (inr w) = ap (λ x. round_taken (round_kept ns x)) w

pub taken_same : (ns now : List ℕ) (p q : Position) (r : Round) → IsPositionOf ns p → round_kept ns p ≡ r
    → LeavesNoneOut p
    → now ≡ ns → round_kept now q ≡ round_begun now → round_kept ns q ≡ round_taken r
taken_same ns now p q r k v w e b =
    ap (λ x. round_kept x q) (sym e) ∙ b ∙ ap round_begun e ∙ sym (taken_none_out ns p k w) ∙ ap round_taken v

-- ---- one candidate further

kept_as : (ns : List ℕ) (p : Position) (s : List ℕ) (cs : List (List ℕ)) → schedule_in ns p ≡ s
    → candidates_left ns p ≡ cs → round_kept ns p ≡ round s cs
kept_as ns p s cs e f = ap (λ x. round x (candidates_left ns p)) e ∙ ap (round s) f

passed_on : (ns : List ℕ) (p : Position) (c : List ℕ) (cs : List (List ℕ)) → candidates_left ns p ≡ c ∷ cs
    → round_passed (round_kept ns p) ≡ round (schedule_in ns p) cs
passed_on ns p c cs e = ap (passed_over (schedule_in ns p)) e

pub after_last : (ns : List ℕ) → 1 < length ns
    → round_kept (drop 1 ns ++ take 1 ns) (Without 0) ≡ round_passed (round_kept ns WithoutLast)
after_last ns h =
    ap (λ s. round s (without_one s ++ halved s)) (last_of_rotated ns (omega arith))
    ∙ sym (passed_on ns WithoutLast _ _ (left_last ns (omega arith)))

pub after_only : (ns ms : List ℕ) (p : Position) → length ns ≡ 1 → schedule_in ms p ≡ ns
    → candidates_left ms p ≡ from_position halved 0 ns
    → round_kept ms p ≡ round_passed (round_kept ns WithoutLast)
after_only ns ms p l e f =
    let none : without_one ns ≡ [] = without_end 0 ns (omega arith) in
    kept_as ms p ns (halved ns) e f ∙ ap (λ x. round ns (x ++ halved ns)) (sym none)
    ∙ sym (passed_on ns WithoutLast _ _ (left_last ns (omega arith)))

pub after_without : (i l : ℕ) (ns : List ℕ) → length ns ≡ suc l → i < l
    → round_kept (swap ns i l) (Without (i + 1)) ≡ round_passed (round_kept ns (Without i))
after_without i l ns e h =
    let next : i + 1 ≡ suc i = omega arith in
    ap (λ x. round_kept (swap ns i l) (Without x)) next
    ∙ ap (λ s. round s (from_position without_one (suc i) s ++ halved s)) (last_of_swapped i l ns e h)
    ∙ sym (passed_on ns (Without i) _ _ (left_without i ns (omega arith)))

pub after_all_without : (i l : ℕ) (ns ms : List ℕ) (p : Position) → length ns ≡ suc l → suc i ≡ l
    → schedule_in ms p ≡ swap ns i l
    → candidates_left ms p ≡ from_position halved 0 (swap ns i l)
    → round_kept ms p ≡ round_passed (round_kept ns (Without i))
after_all_without i l ns ms p n e s f =
    let m : length (swap ns i l) ≡ suc (suc i) = simp length-swap (omega arith) in
    let same : swap ns i l ≡ with_last_at i ns = sym (last_at_its_position (suc i) (swap ns i l) (sym m))
    ∙ last_of_swapped i l ns n (omega arith) in
    let count : length (with_last_at i ns) ≡ suc (suc i) = ap length (sym same) ∙ m in
    let none = without_end (suc i) (with_last_at i ns) (sym count) in
    kept_as ms p (with_last_at i ns) (halved (with_last_at i ns)) (s ∙ same) (f ∙ ap halved same)
    ∙ ap (λ x. round (with_last_at i ns) (x ++ halved (with_last_at i ns))) (sym none)
    ∙ sym (passed_on ns (Without i) _ _ (left_without i ns (omega arith)))

pub after_halved : (i n : ℕ) (ns ms : List ℕ) (p : Position) → IsPositionOf ns (Halved i n)
    → schedule_in ms p ≡ slice_set ns i n
    → candidates_left ms p ≡ from_position halved (i + 1) (slice_set ns i n)
    → round_kept ms p ≡ round_passed (round_kept ns (Halved i n))
after_halved i n ns ms p h s f =
    let next : i + 1 ≡ suc i = omega arith in
    kept_as ms p (slice_set ns i n) (from_position halved (suc i) (slice_set ns i n)) s
    (f ∙ ap (λ x. from_position halved x (slice_set ns i n)) next)
    ∙ sym (passed_on ns (Halved i n) _ _ (left_halved i n ns h))

-- a number of the schedule changed, and back
pub number_back : (i m n : ℕ) (ns : List ℕ) → n ≡ get_or ns i 0 → slice_set (slice_set ns i m) i n ≡ ns
number_back i m n ns e = set-set ns i m n ∙ ap (slice_set ns i) e ∙ set-get_or ns i 0

-- ---- the walk over zeros

pub past_zero : (i start : ℕ) (ns : List ℕ) → i < length ns → get_or ns i 0 ≤ 0
    → from_position halved i ns ≡ from_position halved start ns
    → from_position halved (i + 1) ns ≡ from_position halved start ns
past_zero i start ns l z e =
    let s : i + 1 ≡ suc i = omega arith in
    ap (λ x. from_position halved x ns) s ∙ sym (zero_is_not_halved i ns l (omega arith)) ∙ e

pub all_past : (i start : ℕ) (ns : List ℕ) → length ns ≤ i → from_position halved i ns ≡ from_position halved start ns
    → [] ≡ from_position halved start ns
all_past i start ns l e = sym (halved_end i ns l) ∙ e

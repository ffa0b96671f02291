-- Schedules with one number at another position, and the candidates at and after a position.
use Rattle.std.proofs.Common.{◌≡◌, ℕ, zero, suc, ◌+◌, ◌-◌, ◌/◌, ◌<◌, ◌≤◌, List, [], ◌∷◌, ◌++◌, length, take, drop, refl}
use Rattle.std.proofs.Common.{sym, ap, ◌∙◌, arith, slice_set, get_or}
use Rattle.std.specs.List.{slice_rotate_right, swap}
use Rattle.std.proofs.lemmas.List.{drop_more, drop_all, length-set, get_or-set_same, take-set, get_or_push, take_at}
use Rattle.std.proofs.lemmas.List.{length_push}
use Rattle.std.proofs.lemmas.List.Edits.{swap_is}
use Rattle.pf_model.specs.Shrinking.{with_beginnings, without_last, without_one, halved, candidates}
use Rattle.pf_shrink.specs.Rounds.{from_position}
use Rattle.pf_shrink.specs.Kept.{with_last_at}

-- ---- the last number moved

-- the last number before the others
rotated : (l : ℕ) (ns : List ℕ) → length ns ≡ suc l → slice_rotate_right ns 1 ≡ get_or ns l 0 ∷ take l ns
rotated l ns e =
    let k : length ns - 1 ≡ l = omega arith in
    let d = drop_more ns l 0 (omega arith) in
    let r = drop_all (l + 1) ns (omega arith) in
    ap (λ x. drop x ns ++ take x ns) k ∙ ap (λ x. x ++ take l ns) (d ∙ ap (λ x. get_or ns l 0 ∷ x) r)

-- the first number at the end, and back
pub last_of_rotated : (ns : List ℕ) → 0 < length ns → with_last_at 0 (drop 1 ns ++ take 1 ns) ≡ ns
last_of_rotated [] h = absurd (omega arith)
last_of_rotated (n ∷ ns) h =
    rotated (length ns) (ns ++ n ∷ []) (length_push ns n ∙ (omega arith))
    ∙ ap (λ x. x ∷ take (length ns) (ns ++ n ∷ [])) (get_or_push ns n 0 (length ns) refl)
    ∙ ap (λ x. n ∷ x) (take_at ns (n ∷ []) (length ns) refl)

-- at its own position
pub last_at_its_position : (i : ℕ) (ns : List ℕ) → suc i ≡ length ns → with_last_at i ns ≡ ns
last_at_its_position i [] e = absurd (omega arith)
last_at_its_position zero (n ∷ []) e = refl
last_at_its_position zero (n ∷ m ∷ ns) e = absurd (omega arith)
last_at_its_position (suc i) (n ∷ ns) e = ap (λ x. n ∷ x) (last_at_its_position i ns (omega arith))

abbrev exchanged : (i l : ℕ) → List ℕ → List ℕ
exchanged i l ns = slice_set (slice_set ns i (get_or ns l 0)) l (get_or ns i 0)

-- one position further
last_one_further : (i l : ℕ) (ns : List ℕ) → length ns ≡ suc l → i < l
    → with_last_at (suc i) (exchanged i l ns) ≡ with_last_at i ns
last_one_further i zero ns e h = absurd (omega arith)
last_one_further i (suc l) [] e h = absurd (omega arith)
last_one_further zero (suc l) (n ∷ ns) e h =
    let z = get_or ns l 0 in
    let same : length (slice_set ns l n) ≡ suc l = simp length-set (omega arith) in
    ap (λ x. z ∷ x) (rotated l (slice_set ns l n) same ∙ ap (λ x. x ∷ take l (slice_set ns l n))
    (get_or-set_same ns l n 0 (omega arith))
    ∙ ap (λ x. n ∷ x) (take-set ns l n))
    ∙ sym (rotated (suc l) (n ∷ ns) e)
last_one_further (suc i) (suc l) (n ∷ ns) e h = ap (λ x. n ∷ x) (last_one_further i l ns (omega arith) (omega arith))

pub last_of_swapped : (i l : ℕ) (ns : List ℕ) → length ns ≡ suc l → i < l
    → with_last_at (suc i) (swap ns i l) ≡ with_last_at i ns
last_of_swapped i l ns e h =
    ap (with_last_at (suc i)) (sym (swap_is ns i l 0 (omega arith) (omega arith))) ∙ last_one_further i l ns e h

-- ---- candidates

without_last_is : (l : ℕ) (ns : List ℕ) → length ns ≡ suc l → without_last ns ≡ take l ns ∷ []
without_last_is l [] e = absurd (omega arith)
without_last_is zero (n ∷ []) e = refl
without_last_is (suc l) (n ∷ []) e = absurd (omega arith)
without_last_is zero (n ∷ m ∷ ns) e = absurd (omega arith)
without_last_is (suc l) (n ∷ m ∷ ns) e = ap (with_beginnings n) (without_last_is l (m ∷ ns) (omega arith))

pub candidates_are : (l : ℕ) (ns : List ℕ) → length ns ≡ suc l
    → candidates ns ≡ take l ns ∷ (without_one ns ++ halved ns)
candidates_are l ns e = ap (λ cs. cs ++ without_one ns ++ halved ns) (without_last_is l ns e)

-- without the number at the end
pub without_moved : (i l : ℕ) (ns : List ℕ) → length ns ≡ suc l → i < l
    → from_position without_one i (with_last_at i ns) ≡ take l ns ∷ from_position without_one (suc i)
    (with_last_at i ns)
without_moved i zero ns e h = absurd (omega arith)
without_moved i (suc l) [] e h = absurd (omega arith)
without_moved zero (suc l) (n ∷ ns) e h =
    let r : with_last_at 0 (n ∷ ns) ≡ get_or ns l 0 ∷ n ∷ take l ns = rotated (suc l) (n ∷ ns) e in
    ap without_one r ∙ ap (λ s. (n ∷ take l ns) ∷ from_position without_one 1 s) (sym r)
without_moved (suc i) (suc l) (n ∷ ns) e h = ap (with_beginnings n) (without_moved i l ns (omega arith) (omega arith))

-- the last number is left out first, and not again
pub without_end : (i : ℕ) (ns : List ℕ) → suc i ≡ length ns → from_position without_one i ns ≡ []
without_end i [] e = absurd (omega arith)
without_end zero (n ∷ []) e = refl
without_end zero (n ∷ m ∷ ns) e = absurd (omega arith)
without_end (suc i) (n ∷ ns) e = ap (with_beginnings n) (without_end i ns (omega arith))

pub halved_at : (i : ℕ) (ns : List ℕ) → i < length ns → 0 < get_or ns i 0
    → from_position halved i ns ≡ slice_set ns i (get_or ns i 0 / 2) ∷ from_position halved (suc i) ns
halved_at i [] l h = absurd (omega arith)
halved_at zero (zero ∷ ns) l h = absurd (omega arith)
halved_at zero (suc n ∷ ns) l h = refl
halved_at (suc i) (n ∷ ns) l h = ap (with_beginnings n) (halved_at i ns (omega arith) h)

pub zero_is_not_halved : (i : ℕ) (ns : List ℕ) → i < length ns → get_or ns i 0 ≡ 0
    → from_position halved i ns ≡ from_position halved (suc i) ns
zero_is_not_halved i [] l e = absurd (omega arith)
zero_is_not_halved zero (zero ∷ ns) l e = refl
zero_is_not_halved zero (suc n ∷ ns) l e = absurd (omega arith)
zero_is_not_halved (suc i) (n ∷ ns) l e = ap (with_beginnings n) (zero_is_not_halved i ns (omega arith) e)

pub halved_end : (i : ℕ) (ns : List ℕ) → length ns ≤ i → from_position halved i ns ≡ []
halved_end zero [] l = refl
halved_end zero (n ∷ ns) l = absurd (omega arith)
halved_end (suc i) [] l = refl
halved_end (suc i) (n ∷ ns) l = ap (with_beginnings n) (halved_end i ns (omega arith))

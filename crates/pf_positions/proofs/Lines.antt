-- Lines and their ends.
use Rattle.std.proofs.Common.{◌≡◌, ℕ, ◌+◌, ◌-◌, ◌≤◌, Bool, true, false, not, if◌then◌else◌, List, [], ◌∷◌, ◌++◌, sym}
use Rattle.std.proofs.Common.{ap, ◌∙◌, length, take, drop, arith, length-take}
use Rattle.std.specs.Prelude.{count_by, ◌==◌}
use Rattle.std.proofs.lemmas.List.{take-append-drop, take-take, drop-take}
use Rattle.std.proofs.lemmas.List.Sums.{sum_by-append, count_by-le-length}
use Rattle.pf_tokens.specs.Rules.{IsOrdered}
use Rattle.pf_tokens.specs.TokenKinds.{PlacedToken}
use Rattle.pf_positions.specs.Written.{functions_in, is_dot, is_minus, line_at}

-- the front of a list, in two parts
pub two_parts : {X : Type 0} (xs : List X) (from to : ℕ) → from ≤ to
    → take from xs ++ take (to - from) (drop from xs) ≡ take to xs
two_parts xs from to le =
    let sum : from + (to - from) ≡ to = omega arith in
    ap (λ ys. ys ++ take (to - from) (drop from xs)) (sym (take-take from to xs le))
    ∙ ap (λ ys. take from (take to xs) ++ ys)
    (sym (drop-take from (to - from) xs) ∙ ap (λ n. drop from (take n xs)) sum)
    ∙ take-append-drop from (take to xs)

-- the line ends before an offset are those before an earlier one, and those between
pub line_later : (source : List ℕ) (from to : ℕ) → from ≤ to
    → line_at source from + count_by (λ b. b == 10) (take (to - from) (drop from source)) ≡ line_at source to
line_later source from to le =
    let p = λ (b : ℕ). b == 10 in
    let between = take (to - from) (drop from source) in
    let counted : count_by p (take from source) + count_by p between ≡ count_by p (take to source) =
    sym (sum_by-append _ (take from source) between) ∙ ap (count_by p) (two_parts source from to le) in
    omega arith

-- a line is no further than the bytes before it
pub line_short : (source : List ℕ) (offset : ℕ) → line_at source offset ≤ 1 + length source
line_short source offset =
    let fewer = count_by-le-length (λ (b : ℕ). b == 10) (take offset source) in
    let shorter = length-take offset source in
    omega arith

-- ---- tokens in order

pub sooner : (ts : List PlacedToken) (a b end : ℕ) → a ≤ b → IsOrdered b ts end → IsOrdered a ts end
sooner [] a b end le h = omega arith
sooner (t ∷ ts) a b end le h = (omega (arith, h.0), h.1, h.2)

pub ends_after : (ts : List PlacedToken) (a end : ℕ) → IsOrdered a ts end → a ≤ end
ends_after [] a end h = h
ends_after (t ∷ ts) a end h = let k = ends_after ts t.end end h.2 in omega (arith, h.0, h.1)

-- the tokens of the functions are in order too
chosen_ordered : (b : Bool) (ts us : List PlacedToken) (a end : ℕ) → IsOrdered a ts end → IsOrdered a us end
    → IsOrdered a (if b then ts else us) end
chosen_ordered true ts us a end h k = h
chosen_ordered false ts us a end h k = k

pub functions_ordered : (begun : Bool) (ts : List PlacedToken) (a end : ℕ) → IsOrdered a ts end
    → IsOrdered a (functions_in begun ts) end
functions_ordered true [] a end h = h
functions_ordered false [] a end h = h
functions_ordered true (t ∷ ts) a end h =
    sooner (functions_in (not (is_dot t.kind)) ts) a t.end end (omega (arith, h.0, h.1))
    (functions_ordered (not (is_dot t.kind)) ts t.end end h.2)
functions_ordered false (t ∷ ts) a end h =
    chosen_ordered (is_minus t.kind) (functions_in true ts) (t ∷ ts) a end
    (sooner (functions_in true ts) a t.end end (omega (arith, h.0, h.1)) (functions_ordered true ts t.end end h.2)) h

-- Names in one block of bytes.
use Rattle.std.proofs.Common.{◌≡◌, ℕ, zero, suc, ◌+◌, ◌-◌, ◌<◌, ◌≤◌, List, [], ◌∷◌, ◌++◌, length, get_or, refl, ap, ◌∙◌}
use Rattle.std.proofs.Common.{arith, take, drop}
use Rattle.std.specs.Prelude.{slice_range}
use Rattle.std.proofs.Math.Seq.{drop-append_seam, take-length}
use Rattle.std.proofs.lemmas.List.{drop-append-le, take-append-le, length-drop}
use Rattle.pf_terms.specs.Atoms.{name_of}
use Rattle.pf_terms.specs.Packed.{cut, AscendsTo}

pub length-cut : (bytes : List ℕ) (from : ℕ) (ends : List ℕ) → length (cut bytes from ends) ≡ length ends
length-cut bytes from [] = refl
length-cut bytes from (end ∷ ends) = ap suc (length-cut bytes end ends)

-- no end is past the last
pub last_end : (size from : ℕ) (ends : List ℕ) → AscendsTo size from ends → from ≤ size
last_end size from [] h = omega arith
last_end size from (end ∷ ends) h = omega (arith, h.0, last_end size end ends h.1)

-- where the name of this number begins and ends, and that it is between the two
pub record IsThere (bytes : List ℕ) (from : ℕ) (ends : List ℕ) (i : ℕ) : Type 0 where
  pub order : get_or (from ∷ ends) i 0 ≤ get_or ends i 0
  pub bound : get_or ends i 0 ≤ length bytes
  pub name : name_of (cut bytes from ends) i ≡ slice_range bytes (get_or (from ∷ ends) i 0) (get_or ends i 0)

pub is_there : (bytes : List ℕ) (from : ℕ) (ends : List ℕ) (i : ℕ) → AscendsTo (length bytes) from ends
    → i < length ends
    → IsThere bytes from ends i
is_there bytes from [] i h k = absurd (omega arith)
is_there bytes from (end ∷ ends) zero h k = record {
  order = h.0;
  bound =
      last_end (length bytes) end ends h.1;
  name = refl;
}
is_there bytes from (end ∷ ends) (suc i) h k =
    let t = is_there bytes end ends i h.1 (omega arith) in
    record { order = t.order; bound = t.bound; name = t.name }

-- one more name, after the others
pub ascends_more : (size more from : ℕ) (ends : List ℕ) → size ≤ more → AscendsTo size from ends
    → AscendsTo more from (ends ++ more ∷ [])
ascends_more size more from [] k h = (omega arith, refl)
ascends_more size more from (end ∷ ends) k h = (h.0, ascends_more size more end ends k h.1)

module _ (bytes name : List ℕ) where
  range_front : (from end : ℕ) → from ≤ end → end ≤ length bytes
      → slice_range (bytes ++ name) from end ≡ slice_range bytes from end
  range_front from end h k =
      ap (take (end - from)) (drop-append-le from bytes name (omega arith))
      ∙ take-append-le (end - from) (drop from bytes) name (omega (arith, length-drop from bytes))

  range_after : slice_range (bytes ++ name) (length bytes) (length bytes + length name) ≡ name
  range_after =
      let n : (length bytes + length name) - length bytes ≡ length name = omega arith in
      ap (λ k. take k (drop (length bytes) (bytes ++ name))) n
      ∙ ap (take (length name)) (drop-append_seam bytes name)
      ∙ take-length name

  pub cut_more : (from : ℕ) (ends : List ℕ) → AscendsTo (length bytes) from ends
      → cut (bytes ++ name) from (ends ++ (length bytes + length name) ∷ []) ≡ cut bytes from ends ++ name ∷ []
  cut_more from [] h = ap (λ n. slice_range (bytes ++ name) n (length bytes + length name) ∷ []) h
      ∙ ap (λ n. n ∷ []) range_after
  cut_more from (end ∷ ends) h =
      ap (λ n. n ∷ cut (bytes ++ name) end (ends ++ (length bytes + length name) ∷ []))
      (range_front from end h.0 (last_end (length bytes) end ends h.1))
      ∙ ap (λ ns. slice_range bytes from end ∷ ns) (cut_more end ends h.1)

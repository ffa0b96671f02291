-- Parts of a source.
use Rattle.std.proofs.Common.{◌≡◌, ◌-◌, ◌≤◌, ℕ, List, inl, inr, arith, min, length, take, drop, sym, ap, ◌∙◌}
use Rattle.std.proofs.Math.Nat.{min-eq_left, min-eq_right}
use Rattle.std.proofs.lemmas.Bool.{cases_lt}
use Rattle.std.proofs.lemmas.List.{drop_all, take_min}
use Rattle.std.specs.Prelude.{IfSome, Option, None, Some}
use Rattle.pf_errors.specs.declared.refusal.SourceRefusal.{SourceRefusal}
use Rattle.pf_check.specs.Reads.{Reads, refused}
use Rattle.pf_hints.specs.Fixed.{IsFixed}
use Rattle.pf_hints.specs.Faults.{IsFault, fixed, part_of}

drop_min : (n : ℕ) (xs : List ℕ) → drop (min n (length xs)) xs ≡ drop n xs
drop_min n xs = elim (cases_lt (length xs) n) [
  | inl h ↦ (let le : length xs ≤ n = omega arith in
      let all : length xs ≤ length xs = omega arith in
      ap (λ (k : ℕ). drop k xs) (min-eq_right le) ∙ drop_all (length xs) xs all ∙ sym (drop_all n xs le))
  | inr h ↦ ap (λ (k : ℕ). drop k xs) (min-eq_left h)
]

-- cut out between bounds
pub cut_out : (source : List ℕ) (start end : ℕ) (after part : List ℕ)
    → after ≡ drop (min start (length source)) source
    → part ≡ take (min (end - start) (length after)) after → part ≡ part_of source start end
cut_out source start end after part is cut =
    cut ∙ take_min (end - start) after ∙ ap (take (end - start)) (is ∙ drop_min start source)

-- what a source is refused for once faults are taken out of it
pub faults_of_rest : (source rest : List ℕ) (found : Option SourceRefusal) → IsFixed source rest
    → IfSome found (λ r. Reads rest (refused r.code r.offset))
    → IfSome found (λ r. IsFault source r.code r.offset)
faults_of_rest source rest None out h = tt
faults_of_rest source rest (Some r) out h = fixed rest r.offset r.code out h

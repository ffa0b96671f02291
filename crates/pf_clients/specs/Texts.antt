-- Texts that are answered one after another.
use Rattle.std.specs.Prelude.{◌≡◌, ℕ, ◌-◌, List, [], ◌∷◌, ◌++◌, length, Some, None, slice_get}
use Rattle.pf_wire.specs.Whole.{whole_text}
use Rattle.pf_wire.specs.declared.reported.WrittenAnswer.{WrittenAnswer}

abbrev pub reported_text : List WrittenAnswer → List ℕ
reported_text [] = []
reported_text (t ∷ ts) = whole_text t ++ reported_text ts

-- there is a last one, and it has no report
abbrev pub EndsInText : List WrittenAnswer → Type 0
EndsInText ts = (last : WrittenAnswer) × (slice_get ts (length ts - 1) ≡ Some last) × (last.report ≡ None)

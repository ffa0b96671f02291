-- What a pattern binds in a value, found again in the value.
use Rattle.std.specs.Prelude.{◌≡◌, ℕ, ◌+◌, [], ◌∷◌, ◌++◌, length, Some, Result, Ok, Err, slice_get}
use Rattle.pf_terms.specs.Value.{Value, Values, tuple, list, none, more}
use Rattle.pf_terms.specs.Term.{value_of, elements_of}
use Rattle.pf_syntax.specs.Pattern.{Pattern, Patterns, any, new, slot, known, tuple_of, cons_of, never, no_patterns}
use Rattle.pf_syntax.specs.Pattern.{pattern}
use Rattle.pf_patterns.specs.Fit.{ValueScope}
use Rattle.pf_patterns.specs.declared.seen.ValuePart.{ValuePart}
use Rattle.pf_patterns.specs.declared.seen.ValuePart.TheVariants as seen

-- the values at its new variables, from left to right, where the value has its shape
abbrev mutual
  pub bindings : Pattern → Value → ValueScope
  bindings any v = []
  bindings new v = v ∷ []
  bindings (slot x) v = []
  bindings (known w) v = []
  bindings (tuple_of ps) v = elim v [ tuple vs ↦ all_bindings ps vs | _ ↦ [] ]
  bindings (cons_of p q) v = elim v [
    | list vs ↦ elim vs
        [ none ↦ [] | more w ws ↦ bindings p w ++ bindings q (list ws) ]
    | _ ↦ []
  ]
  bindings never v = []

  pub all_bindings : Patterns → Values → ValueScope
  all_bindings no_patterns vs = []
  all_bindings (pattern p ps) vs = elim vs [ none ↦ [] | more w ws ↦ bindings p w ++ all_bindings ps ws ]

-- the value of a part of a value that was seen
abbrev pub seen_value : ValuePart → Value
seen_value (seen.Whole t) = value_of t.now
seen_value (seen.Tail l) = list (elements_of l.now)

-- the binding of a number; past them all, how far past
abbrev pub IsBinding : ValueScope → ℕ → Result ValuePart ℕ → Type 0
IsBinding e k (Ok s) = slice_get e k ≡ Some (seen_value s)
IsBinding e k (Err j) = k ≡ length e + j

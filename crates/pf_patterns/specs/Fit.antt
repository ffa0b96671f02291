-- Fit: when a value fits a pattern, and what the pattern binds.
use Rattle.std.specs.Prelude.{◌≡◌, Bool, if◌then◌else◌, List, [], ◌∷◌, ◌++◌, Option, Some, None, slice_get}
use Rattle.pf_terms.specs.Value.{Value, Values, tuple, list, none, more, same}
use Rattle.pf_syntax.specs.Pattern.{Pattern, Patterns, any, new, slot, known, tuple_of, cons_of, never, no_patterns}
use Rattle.pf_syntax.specs.Pattern.{pattern}

-- the values of the variables in scope: a finite map from slots, counted from 0
abbrev pub ValueScope : Type 0
ValueScope = List Value

-- Fits p v before after: the value fits the pattern where these variables are bound, and then those are. A bound
-- variable fits an equal value alone; what the pattern binds takes the next slot
abbrev mutual
  pub Fits : Pattern → Value → ValueScope → ValueScope → Type 0
  Fits any v before after = after ≡ before
  Fits new v before after = after ≡ before ++ v ∷ []
  Fits (slot x) v before after = (slice_get before x ≡ Some v) × (after ≡ before)
  Fits (known w) v before after = (w ≡ v) × (after ≡ before)
  Fits (tuple_of ps) v before after = (vs : Values) × (v ≡ tuple vs) × FitsAll ps vs before after
  Fits (cons_of p q) v before after =
      (w : Value) × (ws : Values) × (middle : ValueScope) × (v ≡ list (more w ws)) × Fits p w before middle
      × Fits q (list ws) middle after
  Fits never v before after = ⊥

  -- each value fits its pattern, from left to right
  pub FitsAll : Patterns → Values → ValueScope → ValueScope → Type 0
  FitsAll no_patterns vs before after = (vs ≡ none) × (after ≡ before)
  FitsAll (pattern p ps) vs before after =
      (w : Value) × (ws : Values) × (middle : ValueScope) × (vs ≡ more w ws) × Fits p w before middle
      × FitsAll ps ws middle after

-- ---- the same as functions, which the law `fit_is_a_relation` ties to the relations

abbrev pub kept_if : Bool → ValueScope → Option ValueScope
kept_if b e = if b then Some e else None

abbrev pub fit_bound : Option Value → Value → ValueScope → Option ValueScope
fit_bound None v e = None
fit_bound (Some w) v e = kept_if (same w v) e

abbrev pub and_then : Option ValueScope → (ValueScope → Option ValueScope) → Option ValueScope
and_then None go = None
and_then (Some e) go = go e

-- the scope after a fit, where the value fits
abbrev mutual
  pub fit : Pattern → Value → ValueScope → Option ValueScope
  fit any v e = Some e
  fit new v e = Some (e ++ v ∷ [])
  fit (slot x) v e = fit_bound (slice_get e x) v e
  fit (known w) v e = kept_if (same w v) e
  fit (tuple_of ps) v e = elim v [ tuple vs ↦ fit_all ps vs e | _ ↦ None ]
  fit (cons_of p q) v e = elim v [
    | list vs ↦ elim vs
        [ none ↦ None | more w ws ↦ and_then (fit p w e) (fit q (list ws)) ]
    | _ ↦ None
  ]
  fit never v e = None

  pub fit_all : Patterns → Values → ValueScope → Option ValueScope
  fit_all no_patterns vs e = elim vs [ none ↦ Some e | more w ws ↦ None ]
  fit_all (pattern p ps) vs e = elim vs [ none ↦ None | more w ws ↦ and_then (fit p w e) (fit_all ps ws) ]

-- the function of fit answers as the relation holds
abbrev pub FitIsRelation : Type 0
FitIsRelation = (p : Pattern) (v : Value) (before after : ValueScope)
    → (fit p v before ≡ Some after → Fits p v before after) × (Fits p v before after → fit p v before ≡ Some after)

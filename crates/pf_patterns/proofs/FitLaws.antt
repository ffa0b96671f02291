-- The function of fit answers as the relation holds.
use Rattle.std.proofs.Common.{◌≡◌, Bool, true, false, [], ◌∷◌, ◌++◌, Option, Some, None, refl, sym, ap, ◌∙◌}
use Rattle.std.specs.Prelude.{slice_get}
use Rattle.pf_terms.specs.Value.{Value, Values, tuple, list, none, more, same}
use Rattle.pf_terms.proofs.SameValues.{same_true, same_itself}
use Rattle.pf_syntax.specs.Pattern.{Pattern, Patterns, any, new, slot, known, tuple_of, cons_of, never, no_patterns}
use Rattle.pf_syntax.specs.Pattern.{pattern}
use Rattle.pf_patterns.specs.Fit.{ValueScope, Fits, FitsAll, fit, fit_all, kept_if, fit_bound, and_then}

some_is : (s t : ValueScope) → Some s ≡ Some t → t ≡ s
some_is s t e = cc

kept_is : (w v : Value) (s t : ValueScope) (b : Bool) → same w v ≡ b → kept_if b s ≡ Some t → (w ≡ v) × (t ≡ s)
kept_is w v s t true e h = (same_true w v e, some_is s t h)
kept_is w v s t false e h = absurd (cc)

is_kept : (w v : Value) (s t : ValueScope) → w ≡ v → t ≡ s → kept_if (same w v) s ≡ Some t
is_kept w v s t e d = ap (λ b. kept_if b s) (ap (same w) (sym e) ∙ same_itself w) ∙ ap (λ x. Some x) (sym d)

bound_is : (o : Option Value) (v : Value) (s t : ValueScope) → fit_bound o v s ≡ Some t → (o ≡ Some v) × (t ≡ s)
bound_is None v s t h = absurd (cc)
bound_is (Some w) v s t h = let k = kept_is w v s t (same w v) refl h in (ap (λ x. Some x) k.0, k.1)

is_bound : (o : Option Value) (v : Value) (s t : ValueScope) → o ≡ Some v → t ≡ s → fit_bound o v s ≡ Some t
is_bound o v s t e d = ap (λ x. fit_bound x v s) e ∙ is_kept v v s t refl d

then_is : (o : Option ValueScope) (go : ValueScope → Option ValueScope) (t : ValueScope) → and_then o go ≡ Some t
    → (middle : ValueScope) × (o ≡ Some middle) × (go middle ≡ Some t)
then_is None go t h = absurd (cc)
then_is (Some e) go t h = (e, refl, h)

mutual
  pub fits_from_fit : (p : Pattern) (v : Value) (s t : ValueScope) → fit p v s ≡ Some t → Fits p v s t
  fits_from_fit any v s t h = some_is s t h
  fits_from_fit new v s t h = some_is (s ++ v ∷ []) t h
  fits_from_fit (slot x) v s t h = bound_is (slice_get s x) v s t h
  fits_from_fit (known w) v s t h = kept_is w v s t (same w v) refl h
  fits_from_fit (tuple_of ps) (tuple vs) s t h = (vs, refl, all_from_fit ps vs s t h)
  fits_from_fit (tuple_of ps) v s t h = absurd (cc)
  fits_from_fit (cons_of p q) (list (more w ws)) s t h =
      let k = then_is (fit p w s) (fit q (list ws)) t h in
      (w, ws, k.0, refl, fits_from_fit p w s k.0 k.1, fits_from_fit q (list ws) k.0 t k.2)
  fits_from_fit (cons_of p q) (list none) s t h = absurd (cc)
  fits_from_fit (cons_of p q) v s t h = absurd (cc)
  fits_from_fit never v s t h = absurd (cc)

  pub all_from_fit : (ps : Patterns) (vs : Values) (s t : ValueScope) → fit_all ps vs s ≡ Some t → FitsAll ps vs s t
  all_from_fit no_patterns none s t h = (refl, some_is s t h)
  all_from_fit no_patterns (more w ws) s t h = absurd (cc)
  all_from_fit (pattern p ps) none s t h = absurd (cc)
  all_from_fit (pattern p ps) (more w ws) s t h =
      let k = then_is (fit p w s) (fit_all ps ws) t h in
      (w, ws, k.0, refl, fits_from_fit p w s k.0 k.1, all_from_fit ps ws k.0 t k.2)

mutual
  pub fit_from_fits : (p : Pattern) (v : Value) (s t : ValueScope) → Fits p v s t → fit p v s ≡ Some t
  fit_from_fits any v s t h = ap (λ x. Some x) (sym h)
  fit_from_fits new v s t h = ap (λ x. Some x) (sym h)
  fit_from_fits (slot x) v s t h = is_bound (slice_get s x) v s t h.0 h.1
  fit_from_fits (known w) v s t h = is_kept w v s t h.0 h.1
  fit_from_fits (tuple_of ps) v s t h = ap (λ x. fit (tuple_of ps) x s) h.1 ∙ fit_from_all ps h.0 s t h.2
  fit_from_fits (cons_of p q) v s t h =
      ap (λ x. fit (cons_of p q) x s) h.3
      ∙ ap (λ o. and_then o (fit q (list h.1))) (fit_from_fits p h.0 s h.2 h.4) ∙ fit_from_fits q (list h.1) h.2 t h.5
  fit_from_fits never v s t h = absurd h

  pub fit_from_all : (ps : Patterns) (vs : Values) (s t : ValueScope) → FitsAll ps vs s t → fit_all ps vs s ≡ Some t
  fit_from_all no_patterns vs s t h = ap (λ x. fit_all no_patterns x s) h.0 ∙ ap (λ x. Some x) (sym h.1)
  fit_from_all (pattern p ps) vs s t h =
      ap (λ x. fit_all (pattern p ps) x s) h.3
      ∙ ap (λ o. and_then o (fit_all ps h.1)) (fit_from_fits p h.0 s h.2 h.4) ∙ fit_from_all ps h.1 h.2 t h.5

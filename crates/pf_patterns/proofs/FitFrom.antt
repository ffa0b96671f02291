-- A pattern after some slots fits as the pattern with their values in their place.
use Rattle.std.proofs.Common.{◌≡◌, ℕ, zero, suc, ◌-◌, Bool, true, false, [], ◌∷◌, ◌++◌, length, Option, Some, None}
use Rattle.std.proofs.Common.{option_map, refl, ap, ◌∙◌, arith, append_assoc}
use Rattle.std.specs.Prelude.{slice_get}
use Rattle.pf_terms.specs.Value.{Value, Values, tuple, list, none, more, same}
use Rattle.pf_syntax.specs.Pattern.{Pattern, Patterns, any, new, slot, known, tuple_of, cons_of, never, no_patterns}
use Rattle.pf_syntax.specs.Pattern.{pattern}
use Rattle.pf_patterns.specs.Fit.{ValueScope, kept_if, fit_bound, and_then, fit, fit_all}
use Rattle.pf_patterns.specs.Substitution.{known_or_slot, sub_pattern, sub_patterns}

module _ (e : ValueScope) where
  kept_from : (b : Bool) (f : ValueScope) → kept_if b (e ++ f) ≡ option_map (λ g. e ++ g) (kept_if b f)
  kept_from true f = refl
  kept_from false f = refl

  bound_from : (o : Option Value) (v : Value) (f : ValueScope)
      → fit_bound o v (e ++ f) ≡ option_map (λ g. e ++ g) (fit_bound o v f)
  bound_from (Some w) v f = kept_from (same w v) f
  bound_from None v f = refl

  slot_from : (d : ValueScope) (x : ℕ) (v : Value) (f : ValueScope)
      → fit_bound (slice_get (d ++ f) x) v (e ++ f) ≡ option_map (λ g. e ++ g)
      (fit (known_or_slot (slice_get d x) (x - length d)) v f)
  slot_from [] x v f =
      let z : x ≡ x - 0 = omega arith in
      bound_from (slice_get f x) v f ∙ ap (λ n. option_map (λ g. e ++ g) (fit_bound (slice_get f n) v f)) z
  slot_from (w ∷ d) zero v f = kept_from (same w v) f
  slot_from (w ∷ d) (suc x) v f =
      let z : x - length d ≡ suc x - suc (length d) = omega arith in
      slot_from d x v f ∙ ap (λ n. option_map (λ g. e ++ g) (fit (known_or_slot (slice_get d x) n) v f)) z

  then_from : (o : Option ValueScope) (h k : ValueScope → Option ValueScope)
      → ((g : ValueScope) → h (e ++ g) ≡ option_map (λ g. e ++ g) (k g))
      → and_then (option_map (λ g. e ++ g) o) h ≡ option_map (λ g. e ++ g) (and_then o k)
  then_from (Some g) h k r = r g
  then_from None h k r = refl

  mutual
    pub fit_from : (p : Pattern) (v : Value) (f : ValueScope)
        → fit p v (e ++ f) ≡ option_map (λ g. e ++ g) (fit (sub_pattern e p) v f)
    fit_from any v f = refl
    fit_from new v f = ap Some (append_assoc e f (v ∷ []))
    fit_from (slot x) v f = slot_from e x v f
    fit_from (known w) v f = kept_from (same w v) f
    fit_from (tuple_of ps) (tuple vs) f = fit_all_from ps vs f
    fit_from (tuple_of ps) v f = refl
    fit_from (cons_of p q) (list (more w ws)) f =
        ap (λ o. and_then o (fit q (list ws))) (fit_from p w f)
        ∙ then_from (fit (sub_pattern e p) w f) (fit q (list ws)) (fit (sub_pattern e q) (list ws))
        (λ g. fit_from q (list ws) g)
    fit_from (cons_of p q) (list none) f = refl
    fit_from (cons_of p q) v f = refl
    fit_from never v f = refl

    pub fit_all_from : (ps : Patterns) (vs : Values) (f : ValueScope)
        → fit_all ps vs (e ++ f) ≡ option_map (λ g. e ++ g) (fit_all (sub_patterns e ps) vs f)
    fit_all_from no_patterns none f = refl
    fit_all_from no_patterns (more w ws) f = refl
    fit_all_from (pattern p ps) none f = refl
    fit_all_from (pattern p ps) (more w ws) f =
        ap (λ o. and_then o (fit_all ps ws)) (fit_from p w f)
        ∙ then_from (fit (sub_pattern e p) w f) (fit_all ps ws) (fit_all (sub_patterns e ps) ws)
        (λ g. fit_all_from ps ws g)

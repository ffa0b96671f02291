-- The test of sameness is true of two patterns exactly where they are one.
use Rattle.std.proofs.Common.{◌≡◌, Bool, true, false, ◌&&◌, refl, ap, ◌∙◌, arith}
use Rattle.std.proofs.lemmas.Bool.Decides.{nat_tests}
use Rattle.pf_terms.proofs.SameValues.{same_true, same_itself}
use Rattle.pf_syntax.specs.Pattern.{Pattern, Patterns, any, new, slot, known, tuple_of, cons_of, never, no_patterns}
use Rattle.pf_syntax.specs.Pattern.{pattern}
use Rattle.pf_patterns.specs.Sameness.{same_pattern, same_each}

both : (a b : Bool) → (a && b) ≡ true → (a ≡ true) × (b ≡ true)
both true b e = (refl, e)
both false b e = absurd (cc)

mutual
  pub pattern_true : (p q : Pattern) → same_pattern p q ≡ true → p ≡ q
  pattern_true any any e = refl
  pattern_true new new e = refl
  pattern_true (slot x) (slot y) e = ap slot (grind (arith, nat_tests))
  pattern_true (known v) (known w) e = ap known (same_true v w e)
  pattern_true (tuple_of ps) (tuple_of qs) e = ap tuple_of (each_true ps qs e)
  pattern_true (cons_of p ps) (cons_of q qs) e =
      let parts = both (same_pattern p q) (same_pattern ps qs) e in
      let first = pattern_true p q parts.0 in
      let rest = pattern_true ps qs parts.1 in
      cc
  pattern_true never never e = refl
  pattern_true _ _ e = absurd (cc)

  each_true : (ps qs : Patterns) → same_each ps qs ≡ true → ps ≡ qs
  each_true no_patterns no_patterns e = refl
  each_true (pattern p ps) (pattern q qs) e =
      let parts = both (same_pattern p q) (same_each ps qs) e in
      let first = pattern_true p q parts.0 in
      let rest = each_true ps qs parts.1 in
      cc
  each_true _ _ e = absurd (cc)

mutual
  pub pattern_itself : (p : Pattern) → same_pattern p p ≡ true
  pattern_itself any = refl
  pattern_itself new = refl
  pattern_itself (slot x) = grind (arith, nat_tests)
  pattern_itself (known v) = same_itself v
  pattern_itself (tuple_of ps) = each_itself ps
  pattern_itself (cons_of p q) = ap (λ b. b && same_pattern q q) (pattern_itself p) ∙ pattern_itself q
  pattern_itself never = refl

  each_itself : (ps : Patterns) → same_each ps ps ≡ true
  each_itself no_patterns = refl
  each_itself (pattern p ps) = ap (λ b. b && same_each ps ps) (pattern_itself p) ∙ each_itself ps

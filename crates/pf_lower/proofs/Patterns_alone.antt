-- A pattern by itself breaks no rule, and only what its atoms stand for decides what it becomes.
use Rattle.std.proofs.Common.{◌≡◌, ℕ, Bool, true, false, [], ◌∷◌, ◌++◌, refl, ap, ap₂, ◌∙◌, subst}
use Rattle.std.specs.Prelude.{if◌then◌else◌}
use Rattle.pf_errors.specs.declared.code.Code.TheVariants.{Unsafe}
use Rattle.pf_terms.specs.Value.{atom as atom_value}
use Rattle.pf_syntax.specs.Pattern.{Pattern, Patterns, known}
use Rattle.pf_syntax.specs.ExprPattern as s
use Rattle.pf_syntax.specs.ExprPattern.{ExprPattern, ExprPatterns, no_expr_patterns, expr_pattern}
use Rattle.pf_syntax.specs.Scope.{Scope, no_scope, has, is_new, after_expr_pattern, after_expr_patterns}
use Rattle.pf_syntax.specs.Naming as w
use Rattle.pf_syntax.specs.Naming.{Names, ExprPatternIs, ExprPatternsAre}
use Rattle.pf_rules.specs.Static.{fault_if, expr_pattern_faults, expr_patterns_faults}
use Rattle.pf_lower.specs.Alone.{only_atoms}
use Rattle.pf_lower.proofs.Exists.{some_expr_pattern}

-- ---- no variable becomes unsafe

by_test : (g : Scope) (x : ℕ) (b : Bool) → (if b then record { bound = g.bound ++ x ∷ []; unsafe = g.unsafe }
    else g).unsafe ≡ g.unsafe
by_test g x true = refl
by_test g x false = refl

mutual
  unsafe_after : (g : Scope) (q : ExprPattern) → (after_expr_pattern g q).unsafe ≡ g.unsafe
  unsafe_after g (s.variable x at) = by_test g x (is_new g x)
  unsafe_after g (s.tuple qs) = unsafe_after_all g qs
  unsafe_after g (s.list qs) = unsafe_after_all g qs
  unsafe_after g (s.list_on qs q) = unsafe_after (after_expr_patterns g qs) q ∙ unsafe_after_all g qs
  unsafe_after g (s.integer z) = refl
  unsafe_after g (s.atom a) = refl
  unsafe_after g (s.text cs) = refl
  unsafe_after g s.anything = refl

  unsafe_after_all : (g : Scope) (qs : ExprPatterns) → (after_expr_patterns g qs).unsafe ≡ g.unsafe
  unsafe_after_all g no_expr_patterns = refl
  unsafe_after_all g (expr_pattern q qs) = unsafe_after_all (after_expr_pattern g q) qs ∙ unsafe_after g q

-- ---- so no rule is broken

mutual
  pub no_faults : (g : Scope) (q : ExprPattern) → g.unsafe ≡ [] → expr_pattern_faults g q ≡ []
  no_faults g (s.variable x at) e = ap (λ names. fault_if (has names x) Unsafe at) e
  no_faults g (s.tuple qs) e = none_faults g qs e
  no_faults g (s.list qs) e = none_faults g qs e
  no_faults g (s.list_on qs q) e =
      ap₂ (λ fs gs. fs ++ gs) (none_faults g qs e) (no_faults (after_expr_patterns g qs) q (unsafe_after_all g qs ∙ e))
  no_faults g (s.integer z) e = refl
  no_faults g (s.atom a) e = refl
  no_faults g (s.text cs) e = refl
  no_faults g s.anything e = refl

  none_faults : (g : Scope) (qs : ExprPatterns) → g.unsafe ≡ [] → expr_patterns_faults g qs ≡ []
  none_faults g no_expr_patterns e = refl
  none_faults g (expr_pattern q qs) e =
      ap₂ (λ fs gs. fs ++ gs) (no_faults g q e) (none_faults (after_expr_pattern g q) qs (unsafe_after g q ∙ e))

-- ---- so each becomes something

pub some_alone : (q : ExprPattern) → (y : Pattern) × ExprPatternIs only_atoms no_scope q y
some_alone q = some_expr_pattern only_atoms no_scope q (no_faults no_scope q refl)

-- ---- names whose atoms stand for the same

module _ (n k : Names) (e : (a : ℕ) → k.atom_of a ≡ n.atom_of a) where
  mutual
    pub same_atoms : (g : Scope) (q : ExprPattern) (y : Pattern) → ExprPatternIs n g q y → ExprPatternIs k g q y
    same_atoms _ _ _ (w.integer g z) = w.integer g z
    same_atoms _ _ _ (w.atom g a) = subst (λ b. ExprPatternIs k g (s.atom a) (known (atom_value b))) (e a) (w.atom g a)
    same_atoms _ _ _ (w.text g cs) = w.text g cs
    same_atoms _ _ _ (w.anything g) = w.anything g
    same_atoms _ _ _ (w.bound g x at i there) = w.bound g x at i there
    same_atoms _ _ _ (w.fresh g x at new) = w.fresh g x at new
    same_atoms _ _ _ (w.tuple g qs ys h) = w.tuple g qs ys (all_same_atoms g qs ys h)
    same_atoms _ _ _ (w.list g qs ys h) = w.list g qs ys (all_same_atoms g qs ys h)
    same_atoms _ _ _ (w.list_on g qs q ys y h i) = w.list_on g qs q ys y (all_same_atoms g qs ys h)
        (same_atoms (after_expr_patterns g qs) q y i)

    all_same_atoms : (g : Scope) (qs : ExprPatterns) (ys : Patterns) → ExprPatternsAre n g qs ys
        → ExprPatternsAre k g qs ys
    all_same_atoms _ _ _ (w.no_more_expr_patterns g) = w.no_more_expr_patterns g
    all_same_atoms _ _ _ (w.and_expr_patterns g q qs y ys h i) =
        w.and_expr_patterns g q qs y ys (same_atoms g q y h) (all_same_atoms (after_expr_pattern g q) qs ys i)

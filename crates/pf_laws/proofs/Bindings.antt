-- What names become is closed: a pattern binds as many variables as its scope grows by, and names none but those that
-- are bound.
use Rattle.std.proofs.Common.{◌≡◌, ℕ, zero, suc, ◌+◌, Bool, true, false, ◌||◌, ◌==◌, if◌then◌else◌, List, [], ◌∷◌, ◌++◌}
use Rattle.std.proofs.Common.{Some, refl, subst, arith, length}
use Rattle.std.specs.Prelude.{IsTrue, slice_get}
use Rattle.std.proofs.lemmas.List.{length-append}
use Rattle.std.proofs.lemmas.Grind.{common_steps}
use Rattle.std.proofs.lemmas.Option.{slice_get_within}
use Rattle.pf_syntax.specs.Pattern.{Pattern, Patterns, known, no_patterns, pattern}
use Rattle.pf_syntax.specs.ExprPattern.{ExprPattern, ExprPatterns}
use Rattle.pf_syntax.specs.Scope.{Scope, has, is_new, binding, after_expr_pattern, after_expr_patterns}
use Rattle.pf_syntax.specs.Naming.{Names, conses_of, empty_list, ExprPatternIs, ExprPatternsAre, integer, atom, text}
use Rattle.pf_syntax.specs.Naming.{anything, bound, fresh, tuple, list, list_on, no_more_expr_patterns}
use Rattle.pf_syntax.specs.Naming.{and_expr_patterns}
use Rattle.pf_rules.specs.Static.{parameters_of}
use Rattle.pf_model.specs.Closed.{binds, all_bind, PatternIsClosed, PatternsAreClosed, pattern_count}

-- how many variables are bound
abbrev pub many : Scope → ℕ
many g = length g.bound

-- what is at an index of the bound ones is bound
has_at : (xs : List ℕ) (k x : ℕ) → slice_get xs k ≡ Some x → has xs x ≡ true
has_at [] k x h = absurd (cc)
has_at (y ∷ ys) zero x h = let e : y ≡ x = cc in grind (arith, common_steps)
has_at (y ∷ ys) (suc k) x h = let d = has_at ys k x h in by (y == x) d
  where
    by : (b : Bool) → has ys x ≡ true → (b || has ys x) ≡ true
    by true d = refl
    by false d = d

bound_stays : (g : Scope) (x : ℕ) → has g.bound x ≡ true → many (binding g x) ≡ many g
bound_stays g x h = rw h refl

new_grows : (g : Scope) (x : ℕ) → IsTrue (is_new g x) → many (binding g x) ≡ many g + 1
new_grows g x = by (is_new g x)
  where
    by : (b : Bool) → IsTrue b → many (if b then record { bound = g.bound ++ x ∷ []; unsafe = g.unsafe }
        else g) ≡ many g + 1
    by true h = length-append g.bound (x ∷ [])
    by false h = absurd (cc)

-- a pattern that is closed where g is seen, and what it binds
abbrev pub Binds : Scope → ExprPattern → Pattern → Type 0
Binds g q y = PatternIsClosed (many g) y × (many (after_expr_pattern g q) ≡ many g + binds y)

abbrev pub AllBind : Scope → ExprPatterns → Patterns → Type 0
AllBind g qs ys = PatternsAreClosed (many g) ys × (many (after_expr_patterns g qs) ≡ many g + all_bind ys)
    × (pattern_count ys ≡ parameters_of qs)

conses_closed : (n k : ℕ) (ys : Patterns) (y : Pattern) → k ≡ n + all_bind ys → PatternsAreClosed n ys
    → PatternIsClosed k y
    → PatternIsClosed n (conses_of ys y) × (binds (conses_of ys y) ≡ all_bind ys + binds y)
conses_closed n k no_patterns y e h c = let d : k ≡ n = omega arith in
    (subst (λ i. PatternIsClosed i y) d c, omega arith)
conses_closed n k (pattern p ps) y e h c =
    let r = conses_closed (n + binds p) k ps y (omega arith) h.1 c in let d = r.1 in ((h.0, r.0), omega arith)

module _ (n : Names) where
  mutual
    pub pattern_binds : (g : Scope) (q : ExprPattern) (y : Pattern) → ExprPatternIs n g q y → Binds g q y
    pattern_binds _ _ _ (integer g z) = (tt, omega arith)
    pattern_binds _ _ _ (atom g a) = (tt, omega arith)
    pattern_binds _ _ _ (text g cs) = (tt, omega arith)
    pattern_binds _ _ _ (anything g) = (tt, omega arith)
    pattern_binds _ _ _ (bound g x at k e) = let d = bound_stays g x (has_at g.bound k x e) in
        (slice_get_within g.bound k x e, omega arith)
    pattern_binds _ _ _ (fresh g x at e) = (tt, new_grows g x e)
    pattern_binds _ _ _ (tuple g qs ys h) = let r = patterns_bind g qs ys h in (r.0, r.1)
    pattern_binds _ _ _ (list g qs ys h) =
        let r = patterns_bind g qs ys h in
        let s = conses_closed (many g) (many g + all_bind ys) ys (known empty_list) refl r.0 tt in
        let a = r.1 in let b = s.1 in (s.0, omega arith)
    pattern_binds _ _ _ (list_on g qs q ys y h k) =
        let r = patterns_bind g qs ys h in
        let t = pattern_binds (after_expr_patterns g qs) q y k in
        let s = conses_closed (many g) (many (after_expr_patterns g qs)) ys y r.1 r.0 t.0 in
        let a = r.1 in let b = s.1 in let c = t.1 in (s.0, omega arith)

    pub patterns_bind : (g : Scope) (qs : ExprPatterns) (ys : Patterns) → ExprPatternsAre n g qs ys → AllBind g qs ys
    patterns_bind _ _ _ (no_more_expr_patterns g) = (tt, omega arith, refl)
    patterns_bind _ _ _ (and_expr_patterns g q qs y ys h k) =
        let r = pattern_binds g q y h in
        let s = patterns_bind (after_expr_pattern g q) qs ys k in
        let a = r.1 in let b = s.1 in let c = s.2 in
        ((r.0, subst (λ i. PatternsAreClosed i ys) r.1 s.0), omega arith, omega arith)

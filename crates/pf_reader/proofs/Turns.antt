-- One turn of the loops over export forms and functions.
use Rattle.std.proofs.Common.{◌≡◌, ℕ, zero, suc, ◌<◌, List, [], ◌∷◌, ◌++◌, Option, Some, None, true, refl, sym, ap, ◌∙◌}
use Rattle.std.proofs.Common.{arith, length, append_assoc}
use Rattle.pf_tokens.specs.declared.marks.TokenMark.TheVariants as marks
use Rattle.pf_syntax.specs.ExprPattern.{ExprPattern, ExprPatterns}
use Rattle.pf_syntax.specs.Expr.{Expr, Exprs, Condition}
use Rattle.pf_syntax.specs.SyntaxTree.{Export, Head}
use Rattle.pf_tokens.specs.declared.limits.TheConstants.{MOST_TREE_DEPTH}
use Rattle.pf_tokens.specs.NumberedTokens.{NumberedToken, mark}
use Rattle.pf_grammar.specs.Grammar.{TokenNames, top}
use Rattle.pf_grammar.specs.Parse.{◌>>=◌, after_kind, body_parse, element, export, exports, parse_expr, function}
use Rattle.pf_grammar.specs.Parse.{functions, head_parse, name_with_offset, pattern, exprs_of, expr_patterns_of, until}
use Rattle.pf_grammar.specs.Parse.{when}
use Rattle.pf_reader.specs.Given.{with_front, with_first}

front_joined : {A : Type 0} (front xs : List A) (o : Option (List A × List NumberedToken))
    → with_front front (o >>= λ more. Some (xs ++ more.0, more.1)) ≡ with_front (front ++ xs) o
front_joined front xs None = refl
front_joined front xs (Some y) = ap (λ zs. Some (zs, y.1)) (sym (append_assoc front xs y.0))

first_joined : {A : Type 0} (front : List A) (x : A) (o : Option (List A))
    → with_first front (o >>= λ fs. Some (x ∷ fs)) ≡ with_first (front ++ x ∷ []) o
first_joined front x None = refl
first_joined front x (Some fs) = ap (λ zs. Some zs) (sym (append_assoc front (x ∷ []) fs))

right_nil : {A : Type 0} (xs : List A) → xs ++ [] ≡ xs
right_nil [] = refl
right_nil (x ∷ xs) = ap (λ ys. x ∷ ys) (right_nil xs)

module _ (n : TokenNames) where
  -- ---- export forms

  -- what was read so far comes first
  module _ (front : List Export) (whole : Option (List Export × List NumberedToken)) (k : ℕ) (ts : List NumberedToken)
      (w : whole ≡ with_front front (exports n k ts)) where
    pub exports_stop : after_kind (mark marks.Minus) ts ≡ None → whole ≡ Some (front, ts)
    unfolding exports
    exports_stop a = w ∙ stops k ∙ ap (λ xs. Some (xs, ts)) (right_nil front)
      where
        stops : (k : ℕ) → with_front front (exports n k ts) ≡ Some (front ++ [], ts)
        stops zero = refl
        stops (suc k) = rw a refl

    pub exports_out : k ≡ 0 → whole ≡ Some (front, ts)
    unfolding exports
    exports_out e = w ∙ rw e refl ∙ ap (λ xs. Some (xs, ts)) (right_nil front)

    pub exports_fail : (m : ℕ) (form : List NumberedToken) → k ≡ suc m → after_kind (mark marks.Minus) ts ≡ Some form
        → export n form ≡ None → whole ≡ None
    unfolding exports
    exports_fail m form e a f = w ∙ rw (e, a, f) refl

    pub exports_go : (m : ℕ) (form next : List NumberedToken) (es : List Export) → k ≡ suc m
        → after_kind (mark marks.Minus) ts ≡ Some form → export n form ≡ Some (es, next)
        → whole ≡ with_front (front ++ es) (exports n m next)
    unfolding exports
    exports_go m form next es e a f = w ∙ ap (with_front front) turn ∙ front_joined front es (exports n m next)
      where
        turn : exports n k ts ≡ (exports n m next >>= λ more. Some (es ++ more.0, more.1))
        turn = rw (e, a, f) refl

  -- ---- functions

  module _ (front : List (List Head)) (whole : Option (List (List Head))) (k : ℕ) (ts : List NumberedToken)
      (w : whole ≡ with_first front (functions n k ts)) where
    pub functions_stop : length ts ≡ 0 → whole ≡ Some front
    unfolding functions
    functions_stop e = w ∙ ap (with_first front) (stops ts e) ∙ ap (λ xs. Some xs) (right_nil front)
      where
        stops : (ts : List NumberedToken) → length ts ≡ 0 → functions n k ts ≡ Some []
        stops [] e = refl
        stops (t ∷ ts) e = absurd (omega arith)

    pub functions_out : k ≡ 0 → 0 < length ts → whole ≡ None
    unfolding functions
    functions_out e lt = w ∙ ap (with_first front) (outs ts lt)
      where
        outs : (ts : List NumberedToken) → 0 < length ts → functions n k ts ≡ None
        outs [] lt = absurd (omega arith)
        outs (t ∷ ts) lt = rw e refl

    pub functions_fail : (m : ℕ) → k ≡ suc m → 0 < length ts → function n ts ≡ None → whole ≡ None
    unfolding functions
    functions_fail m e lt f = w ∙ ap (with_first front) (fails ts lt f)
      where
        fails : (ts : List NumberedToken) → 0 < length ts → function n ts ≡ None → functions n k ts ≡ None
        fails [] lt f = absurd (omega arith)
        fails (t ∷ ts) lt f = rw (e, f) refl

    pub functions_go : (m : ℕ) (next : List NumberedToken) (f : List Head) → k ≡ suc m → 0 < length ts
        → function n ts ≡ Some (f, next) → whole ≡ with_first (front ++ f ∷ []) (functions n m next)
    unfolding functions
    functions_go m next x e lt f = w ∙ ap (with_first front) (turn ts lt f) ∙ first_joined front x (functions n m next)
      where
        turn : (ts : List NumberedToken) → 0 < length ts → function n ts ≡ Some (x, next)
            → functions n k ts ≡ (functions n m next >>= λ fs. Some (x ∷ fs))
        turn [] lt f = absurd (omega arith)
        turn (t ∷ ts) lt f = rw (e, f) refl

  -- ---- a clause of a function

  -- its parts are seen again where their tree has grown
  pub head_is : (ts r1 r2 r3 r4 r5 r6 : List NumberedToken) (a at : ℕ) (qs : List ExprPattern) (g again : Condition)
      (es : List Expr) (all_expr_patterns : ExprPatterns) (all_exprs : Exprs)
      → all_expr_patterns ≡ expr_patterns_of qs → again ≡ g → all_exprs ≡ exprs_of es
      → name_with_offset n ts ≡ Some ((a, at), r1) → after_kind (mark marks.OpenParenthesis) r1 ≡ Some r2
      → until (mark marks.CloseParenthesis) (pattern n MOST_TREE_DEPTH) r2 ≡ Some (qs, r3)
      → when (parse_expr n true MOST_TREE_DEPTH top) r3 ≡ Some (g, r4)
      → after_kind (mark marks.Arrow) r4 ≡ Some r5 → body_parse (element n MOST_TREE_DEPTH) r5 ≡ Some (es, r6)
      → head_parse n ts ≡ Some (
        record {
          name = a;
          offset = at;
          parameters = all_expr_patterns;
          condition = again;
          body = all_exprs;
        },
        r6,
      )
  head_is ts r1 r2 r3 r4 r5 r6 a at qs g again es all_expr_patterns all_exprs s c e h1 h2 h3 h4 h5 h6 =
      rw (s, c, e, h1, h2, h3, h4, h5, h6) refl

-- One step of each level of the reader.
use Rattle.std.proofs.Common.{◌≡◌, ℕ, zero, suc, ◌-◌, ◌<◌, List, Bool, false, Some, None, refl, ap, ◌∙◌, arith, length}
use Rattle.pf_syntax.specs.ExprPattern.{ExprPattern}
use Rattle.pf_syntax.specs.Expr as p
use Rattle.pf_syntax.specs.Expr.{Expr}
use Rattle.pf_tokens.specs.NumberedTokens.{NumberedToken}
use Rattle.pf_grammar.specs.Grammar.{TokenNames, level_of, right_level, top}
use Rattle.pf_grammar.specs.declared.infix.Infix.{Infix}
use Rattle.pf_grammar.specs.Parse.{Parse, infix_ahead, joined_exprs, within, more_step, more, unary, level_with, prim}
use Rattle.pf_grammar.specs.Parse.{parse_expr, element, element_step, match_ahead, pattern}

-- ---- infixes

module _ (deeper : ℕ → Parse Expr) (guard : Bool) (limit level : ℕ) where
  pub more_stops : (n floor : ℕ) (left : Expr) (ts : List NumberedToken) → infix_ahead guard floor level ts ≡ None
      → more deeper guard limit level n floor left ts ≡ Some (left, ts)
  unfolding more
  more_stops zero floor left ts e = refl
  more_stops (suc n) floor left ts e = ap (more_step deeper limit (more deeper guard limit level n) left ts) e

  pub more_out : (n floor : ℕ) (left : Expr) (ts : List NumberedToken) → n ≡ 0
      → more deeper guard limit level n floor left ts ≡ Some (left, ts)
  unfolding more
  more_out n floor left ts k = rw k refl

  -- a turn; the left operand is seen again where its tree has grown
  module _ (n m floor above : ℕ) (left again node : Expr) (ts next : List NumberedToken) (i : Infix)
      (same : again ≡ left) (k : n ≡ suc m) (e : infix_ahead guard floor level ts ≡ Some (i, next))
      (up : above ≡ right_level i) where
    pub more_fails : deeper above next ≡ None → more deeper guard limit level n floor left ts ≡ None
    unfolding more
    more_fails f = let d = rw up at f in rw (k, e, d) refl

    module _ (rest : List NumberedToken) (right : Expr) (f : deeper above next ≡ Some (right, rest))
        (j : node ≡ joined_exprs i again right) where
      pub more_goes : (last : List NumberedToken) (x : Expr) (new_floor : ℕ) → within limit node rest ≡ Some (x, last)
          → new_floor ≡ level_of i
          → more deeper guard limit level n floor left ts ≡ more deeper guard limit level m new_floor x last
      unfolding more
      more_goes last x new_floor w l =
          let d = rw up at f in
          let v = rw (j, same) at w in
          rw (k, e, d, v, l) refl

      pub more_deep : within limit node rest ≡ None → more deeper guard limit level n floor left ts ≡ None
      unfolding more
      more_deep w =
          let d = rw up at f in
          let v = rw (j, same) at w in
          rw (k, e, d, v) refl

-- ---- expressions

module _ (n : TokenNames) (guard : Bool) where
  pub parse_expr_zero : (limit level : ℕ) (ts : List NumberedToken) → limit ≡ 0
      → parse_expr n guard limit level ts ≡ None
  unfolding parse_expr
  parse_expr_zero limit level ts k = rw k refl

  parse_expr_is : (limit level : ℕ) (ts : List NumberedToken) → 0 < limit
      → parse_expr n guard limit level ts ≡ level_with (prim n guard limit) (parse_expr n guard (limit - 1))
      guard limit level ts
  unfolding parse_expr
  parse_expr_is zero level ts lt = absurd (omega arith)
  parse_expr_is (suc d) level ts lt = let e : suc d - 1 ≡ d = omega arith in rw e refl

  pub parse_expr_fails : (limit level : ℕ) (ts : List NumberedToken) → 0 < limit
      → unary (prim n guard limit) limit ts ≡ None → parse_expr n guard limit level ts ≡ None
  parse_expr_fails limit level ts lt e = parse_expr_is limit level ts lt ∙ rw e refl

  pub parse_expr_more : (limit level turns : ℕ) (ts rest : List NumberedToken) (left : Expr) → 0 < limit
      → turns ≡ length rest → unary (prim n guard limit) limit ts ≡ Some (left, rest)
      → parse_expr n guard limit level ts ≡ more (parse_expr n guard (limit - 1)) guard limit level turns 1 left rest
  parse_expr_more limit level turns ts rest left lt l e = parse_expr_is limit level ts lt ∙ rw (e, l) refl

-- ---- elements

pub element_zero : (n : TokenNames) (limit : ℕ) (ts : List NumberedToken) → limit ≡ 0 → element n limit ts ≡ None
unfolding element
element_zero n limit ts k = rw k refl

element_is : (n : TokenNames) (limit : ℕ) (ts : List NumberedToken) → 0 < limit
    → element n limit ts ≡ element_step (parse_expr n false limit top) (element n (limit - 1)) limit ts
    (match_ahead (pattern n (limit - 1)) ts)
unfolding element parse_expr
element_is n zero ts lt = absurd (omega arith)
element_is n (suc d) ts lt = let e : suc d - 1 ≡ d = omega arith in rw e refl

pub element_plain : (n : TokenNames) (limit : ℕ) (ts : List NumberedToken) → 0 < limit
    → match_ahead (pattern n (limit - 1)) ts ≡ None → element n limit ts ≡ parse_expr n false limit top ts
element_plain n limit ts lt m = element_is n limit ts lt ∙ rw m refl

pub element_fails : (n : TokenNames) (limit : ℕ) (ts next : List NumberedToken) (q : ExprPattern) → 0 < limit
    → match_ahead (pattern n (limit - 1)) ts ≡ Some (q, next) → element n (limit - 1) next ≡ None
    → element n limit ts ≡ None
element_fails n limit ts next q lt m e = element_is n limit ts lt ∙ rw (m, e) refl

-- the pattern is seen again where its tree has grown
pub element_match : (n : TokenNames) (limit : ℕ) (ts next rest : List NumberedToken) (q again : ExprPattern) (e : Expr)
    → again ≡ q → 0 < limit → match_ahead (pattern n (limit - 1)) ts ≡ Some (q, next)
    → element n (limit - 1) next ≡ Some (e, rest)
    → element n limit ts ≡ within limit (p.match again e) rest
element_match n limit ts next rest q again e same lt m f = element_is n limit ts lt ∙ rw (m, f, same) refl

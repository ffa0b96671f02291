-- How the logic stores patterns and expressions of the surface syntax: a number for the kind, then what is no part of
-- its own, then the parts.
use Rattle.std.specs.Prelude.{◌≡◌, ℕ, zero, suc, ℤ, pos, negsuc, List, [], ◌∷◌, refl}
use Rattle.std.proofs.Common.{sym, ap, ◌∙◌}
use base.Stored.{Gv, gnil, gnum, gcons, num, Coded}
use Rattle.std.specs.Coded.{code_by, coded×, coded_ℕ, coded_list}
use Rattle.pf_syntax.specs.SyntaxTree.{Export, Head, NodeTable, ExprArena}
use Rattle.pf_syntax.specs.Numbers.{number_of_operator, operator_of_number, operator_of_number-number_of_operator}
use Rattle.pf_syntax.specs.ExprPattern.{ExprPattern, ExprPatterns, no_expr_patterns, expr_pattern}
use Rattle.pf_syntax.specs.ExprPattern as s
use Rattle.pf_syntax.specs.Expr.{Expr, Exprs, Condition, Branches, no_exprs, expr, no_tests, tests, no_branches, branch}
use Rattle.pf_syntax.specs.Expr as p

-- ---- integers and texts

abbrev pub code_integer : ℤ → Gv
code_integer (pos n) = gcons (gnum 0) (gnum n)
code_integer (negsuc n) = gcons (gnum 1) (gnum n)

abbrev pub integer_of_sign : ℕ → ℕ → ℤ
integer_of_sign zero n = pos n
integer_of_sign (suc k) n = negsuc n

abbrev pub integer_decoded : Gv → ℤ
integer_decoded (gcons k n) = integer_of_sign (num k) (num n)
integer_decoded _ = pos 0

pub integer_decoded-code : (z : ℤ) → integer_decoded (code_integer z) ≡ z
integer_decoded-code (pos n) = refl
integer_decoded-code (negsuc n) = refl

abbrev pub coded_text : List ℕ → Gv
coded_text [] = gnil
coded_text (c ∷ cs) = gcons (gnum c) (coded_text cs)

abbrev pub text_decoded : Gv → List ℕ
text_decoded (gcons c cs) = num c ∷ text_decoded cs
text_decoded _ = []

pub text_decoded-code : (cs : List ℕ) → text_decoded (coded_text cs) ≡ cs
text_decoded-code [] = refl
text_decoded-code (c ∷ cs) = ap (λ xs. c ∷ xs) (text_decoded-code cs)

-- ---- patterns

abbrev mutual
  pub code_expr_pattern : ExprPattern → Gv
  code_expr_pattern (s.integer n) = gcons (gnum 0) (gcons (code_integer n) (gcons gnil gnil))
  code_expr_pattern (s.atom a) = gcons (gnum 1) (gcons (gnum a) (gcons gnil gnil))
  code_expr_pattern (s.text cs) = gcons (gnum 2) (gcons (coded_text cs) (gcons gnil gnil))
  code_expr_pattern (s.variable x at) = gcons (gnum 3) (gcons (gcons (gnum x) (gnum at)) (gcons gnil gnil))
  code_expr_pattern s.anything = gcons (gnum 4) (gcons gnil (gcons gnil gnil))
  code_expr_pattern (s.tuple ps) = gcons (gnum 5) (gcons gnil (gcons gnil (code_expr_patterns ps)))
  code_expr_pattern (s.list ps) = gcons (gnum 6) (gcons gnil (gcons gnil (code_expr_patterns ps)))
  code_expr_pattern (s.list_on ps q) = gcons (gnum 7) (gcons gnil (gcons (code_expr_pattern q) (code_expr_patterns ps)))

  pub code_expr_patterns : ExprPatterns → Gv
  code_expr_patterns no_expr_patterns = gnil
  code_expr_patterns (expr_pattern q ps) = gcons (code_expr_pattern q) (code_expr_patterns ps)

-- the first and the second of two
abbrev pub left : Gv → Gv
left (gcons a b) = a
left _ = gnil

abbrev pub right : Gv → Gv
right (gcons a b) = b
right _ = gnil

-- the pattern of kind number k, with these parts
abbrev pub expr_pattern_of_kind : ℕ → Gv → ExprPattern → ExprPatterns → ExprPattern
expr_pattern_of_kind zero h q ps = s.integer (integer_decoded h)
expr_pattern_of_kind (suc zero) h q ps = s.atom (num h)
expr_pattern_of_kind (suc (suc zero)) h q ps = s.text (text_decoded h)
expr_pattern_of_kind (suc (suc (suc zero))) h q ps = s.variable (num (left h)) (num (right h))
expr_pattern_of_kind (suc (suc (suc (suc zero)))) h q ps = s.anything
expr_pattern_of_kind (suc (suc (suc (suc (suc zero))))) h q ps = s.tuple ps
expr_pattern_of_kind (suc (suc (suc (suc (suc (suc zero)))))) h q ps = s.list ps
expr_pattern_of_kind (suc (suc (suc (suc (suc (suc (suc n))))))) h q ps = s.list_on ps q

abbrev mutual
  pub expr_pattern_decoded : Gv → ExprPattern
  expr_pattern_decoded (gcons k (gcons h (gcons l r))) = expr_pattern_of_kind (num k) h (expr_pattern_decoded l)
      (expr_patterns_decoded r)
  expr_pattern_decoded _ = s.anything

  pub expr_patterns_decoded : Gv → ExprPatterns
  expr_patterns_decoded (gcons a b) = expr_pattern (expr_pattern_decoded a) (expr_patterns_decoded b)
  expr_patterns_decoded _ = no_expr_patterns

mutual
  pub expr_pattern_decoded-code : (q : ExprPattern) → expr_pattern_decoded (code_expr_pattern q) ≡ q
  expr_pattern_decoded-code (s.integer n) = ap s.integer (integer_decoded-code n)
  expr_pattern_decoded-code (s.atom a) = refl
  expr_pattern_decoded-code (s.text cs) = ap s.text (text_decoded-code cs)
  expr_pattern_decoded-code (s.variable x at) = refl
  expr_pattern_decoded-code s.anything = refl
  expr_pattern_decoded-code (s.tuple ps) = ap s.tuple (expr_patterns_decoded-code ps)
  expr_pattern_decoded-code (s.list ps) = ap s.list (expr_patterns_decoded-code ps)
  expr_pattern_decoded-code (s.list_on ps q) = let x = expr_patterns_decoded-code ps in
      let y = expr_pattern_decoded-code q in cc

  pub expr_patterns_decoded-code : (ps : ExprPatterns) → expr_patterns_decoded (code_expr_patterns ps) ≡ ps
  expr_patterns_decoded-code no_expr_patterns = refl
  expr_patterns_decoded-code (expr_pattern q ps) = let x = expr_pattern_decoded-code q in
      let y = expr_patterns_decoded-code ps in cc

-- ---- expressions

abbrev mutual
  pub code_expr : Expr → Gv
  code_expr (p.integer n) = gcons (gnum 0) (gcons (code_integer n) (gcons gnil gnil))
  code_expr (p.atom a) = gcons (gnum 1) (gcons (gnum a) (gcons gnil gnil))
  code_expr (p.text cs) = gcons (gnum 2) (gcons (coded_text cs) (gcons gnil gnil))
  code_expr (p.variable x at) = gcons (gnum 3) (gcons (gcons (gnum x) (gnum at)) (gcons gnil gnil))
  code_expr (p.anonymous at) = gcons (gnum 4) (gcons (gnum at) (gcons gnil gnil))
  code_expr (p.parentheses a) = gcons (gnum 5) (gcons gnil (gcons (code_expr a) gnil))
  code_expr (p.tuple es) = gcons (gnum 6) (gcons gnil (gcons gnil (code_exprs es)))
  code_expr (p.list es) = gcons (gnum 7) (gcons gnil (gcons gnil (code_exprs es)))
  code_expr (p.list_on es t) = gcons (gnum 8) (gcons gnil (gcons (code_expr t) (code_exprs es)))
  code_expr (p.call f at es) = gcons (gnum 9) (gcons (gcons (gnum f) (gnum at)) (gcons gnil (code_exprs es)))
  code_expr (p.binary o a b) = gcons (gnum 10) (gcons (gnum (number_of_operator o)) (gcons (code_expr a) (code_expr b)))
  code_expr (p.negate a) = gcons (gnum 11) (gcons gnil (gcons (code_expr a) gnil))
  code_expr (p.and_also a b) = gcons (gnum 12) (gcons gnil (gcons (code_expr a) (code_expr b)))
  code_expr (p.or_else a b) = gcons (gnum 13) (gcons gnil (gcons (code_expr a) (code_expr b)))
  code_expr (p.send a b) = gcons (gnum 14) (gcons gnil (gcons (code_expr a) (code_expr b)))
  code_expr (p.match q a) = gcons (gnum 15) (gcons (code_expr_pattern q) (gcons (code_expr a) gnil))
  code_expr (p.case a bs) = gcons (gnum 16) (gcons gnil (gcons (code_expr a) (code_branches bs)))
  code_expr (p.if_expression bs) = gcons (gnum 17) (gcons gnil (gcons gnil (code_branches bs)))
  code_expr (p.receive bs) = gcons (gnum 18) (gcons gnil (gcons gnil (code_branches bs)))

  pub code_exprs : Exprs → Gv
  code_exprs no_exprs = gnil
  code_exprs (expr e es) = gcons (code_expr e) (code_exprs es)

  pub code_condition : Condition → Gv
  code_condition no_tests = gnil
  code_condition (tests es g) = gcons (code_exprs es) (code_condition g)

  pub code_branches : Branches → Gv
  code_branches no_branches = gnil
  code_branches (branch q g es bs) = gcons (gcons (code_expr_pattern q) (gcons (code_condition g) (code_exprs es)))
      (code_branches bs)

-- the expression of kind number k, with these parts
abbrev pub expr_of_kind : ℕ → Gv → Expr → Expr → Exprs → Branches → Expr
expr_of_kind zero h l r es bs = p.integer (integer_decoded h)
expr_of_kind (suc zero) h l r es bs = p.atom (num h)
expr_of_kind (suc (suc zero)) h l r es bs = p.text (text_decoded h)
expr_of_kind (suc (suc (suc zero))) h l r es bs = p.variable (num (left h)) (num (right h))
expr_of_kind (suc (suc (suc (suc zero)))) h l r es bs = p.anonymous (num h)
expr_of_kind (suc (suc (suc (suc (suc zero))))) h l r es bs = p.parentheses l
expr_of_kind (suc (suc (suc (suc (suc (suc zero)))))) h l r es bs = p.tuple es
expr_of_kind (suc (suc (suc (suc (suc (suc (suc zero))))))) h l r es bs = p.list es
expr_of_kind (suc (suc (suc (suc (suc (suc (suc (suc zero)))))))) h l r es bs = p.list_on es l
expr_of_kind (suc (suc (suc (suc (suc (suc (suc (suc (suc zero))))))))) h l r es bs =
    p.call (num (left h)) (num (right h)) es
expr_of_kind (suc (suc (suc (suc (suc (suc (suc (suc (suc (suc zero)))))))))) h l r es bs =
    p.binary (operator_of_number (num h)) l r
expr_of_kind (suc (suc (suc (suc (suc (suc (suc (suc (suc (suc (suc zero))))))))))) h l r es bs = p.negate l
expr_of_kind (suc (suc (suc (suc (suc (suc (suc (suc (suc (suc (suc (suc zero)))))))))))) h l r es bs = p.and_also l r
expr_of_kind (suc (suc (suc (suc (suc (suc (suc (suc (suc (suc (suc (suc (suc zero))))))))))))) h l r es
    bs = p.or_else l r
expr_of_kind (suc (suc (suc (suc (suc (suc (suc (suc (suc (suc (suc (suc (suc (suc zero)))))))))))))) h l r es
    bs = p.send l r
expr_of_kind (suc (suc (suc (suc (suc (suc (suc (suc (suc (suc (suc (suc (suc (suc (suc zero))))))))))))))) h l r es
    bs = p.match (expr_pattern_decoded h) l
expr_of_kind (suc (suc (suc (suc (suc (suc (suc (suc (suc (suc (suc (suc (suc (suc (suc (suc zero)))))))))))))))) h l r
    es bs = p.case l bs
expr_of_kind (suc (suc (suc (suc (suc (suc (suc (suc (suc (suc (suc (suc (suc (suc (suc (suc (suc zero)))))))))))))))))
    h l r es bs = p.if_expression bs
expr_of_kind
    (suc (suc (suc (suc (suc (suc (suc (suc (suc (suc (suc (suc (suc (suc (suc (suc (suc (suc n)))))))))))))))))) h l r
    es bs = p.receive bs

abbrev mutual
  pub expr_decoded : Gv → Expr
  expr_decoded (gcons k (gcons h (gcons l r))) = expr_of_kind (num k) h (expr_decoded l) (expr_decoded r)
      (exprs_decoded r) (branches_decoded r)
  expr_decoded _ = p.list no_exprs

  pub exprs_decoded : Gv → Exprs
  exprs_decoded (gcons a b) = expr (expr_decoded a) (exprs_decoded b)
  exprs_decoded _ = no_exprs

  pub condition_decoded : Gv → Condition
  condition_decoded (gcons es g) = tests (exprs_decoded es) (condition_decoded g)
  condition_decoded _ = no_tests

  pub branches_decoded : Gv → Branches
  branches_decoded (gcons (gcons q (gcons g es)) bs) = branch (expr_pattern_decoded q) (condition_decoded g)
      (exprs_decoded es) (branches_decoded bs)
  branches_decoded _ = no_branches

mutual
  pub expr_decoded-code : (e : Expr) → expr_decoded (code_expr e) ≡ e
  expr_decoded-code (p.integer n) = ap p.integer (integer_decoded-code n)
  expr_decoded-code (p.atom a) = refl
  expr_decoded-code (p.text cs) = ap p.text (text_decoded-code cs)
  expr_decoded-code (p.variable x at) = refl
  expr_decoded-code (p.anonymous at) = refl
  expr_decoded-code (p.parentheses a) = ap p.parentheses (expr_decoded-code a)
  expr_decoded-code (p.tuple es) = ap p.tuple (exprs_decoded-code es)
  expr_decoded-code (p.list es) = ap p.list (exprs_decoded-code es)
  expr_decoded-code (p.list_on es t) = let x = expr_decoded-code t in let y = exprs_decoded-code es in cc
  expr_decoded-code (p.call f at es) = ap (p.call f at) (exprs_decoded-code es)
  expr_decoded-code (p.binary o a b) = let x = operator_of_number-number_of_operator o in let y = expr_decoded-code a in
      let z = expr_decoded-code b in cc
  expr_decoded-code (p.negate a) = ap p.negate (expr_decoded-code a)
  expr_decoded-code (p.and_also a b) = let x = expr_decoded-code a in let y = expr_decoded-code b in cc
  expr_decoded-code (p.or_else a b) = let x = expr_decoded-code a in let y = expr_decoded-code b in cc
  expr_decoded-code (p.send a b) = let x = expr_decoded-code a in let y = expr_decoded-code b in cc
  expr_decoded-code (p.match q a) = let x = expr_pattern_decoded-code q in let y = expr_decoded-code a in cc
  expr_decoded-code (p.case a bs) = let x = expr_decoded-code a in let y = branches_decoded-code bs in cc
  expr_decoded-code (p.if_expression bs) = ap p.if_expression (branches_decoded-code bs)
  expr_decoded-code (p.receive bs) = ap p.receive (branches_decoded-code bs)

  pub exprs_decoded-code : (es : Exprs) → exprs_decoded (code_exprs es) ≡ es
  exprs_decoded-code no_exprs = refl
  exprs_decoded-code (expr e es) = let x = expr_decoded-code e in let y = exprs_decoded-code es in cc

  pub condition_decoded-code : (g : Condition) → condition_decoded (code_condition g) ≡ g
  condition_decoded-code no_tests = refl
  condition_decoded-code (tests es g) = let x = exprs_decoded-code es in let y = condition_decoded-code g in cc

  pub branches_decoded-code : (bs : Branches) → branches_decoded (code_branches bs) ≡ bs
  branches_decoded-code no_branches = refl
  branches_decoded-code (branch q g es bs) = let w = expr_pattern_decoded-code q in let x = condition_decoded-code g in
      let y = exprs_decoded-code es in let z = branches_decoded-code bs in cc

abbrev pub coded_expr_pattern : Coded ExprPattern
coded_expr_pattern =
    record {
      code = code_expr_pattern;
      inj = λ x y e. sym (expr_pattern_decoded-code x) ∙ ap expr_pattern_decoded e
          ∙ expr_pattern_decoded-code y;
    }

abbrev pub coded_expr_patterns : Coded ExprPatterns
coded_expr_patterns =
    record {
      code = code_expr_patterns;
      inj = λ x y e. sym (expr_patterns_decoded-code x) ∙ ap expr_patterns_decoded e
          ∙ expr_patterns_decoded-code y;
    }

abbrev pub coded_expr : Coded Expr
coded_expr =
    record { code = code_expr; inj = λ x y e. sym (expr_decoded-code x) ∙ ap expr_decoded e ∙ expr_decoded-code y }

abbrev pub coded_exprs : Coded Exprs
coded_exprs =
    record { code = code_exprs; inj = λ x y e. sym (exprs_decoded-code x) ∙ ap exprs_decoded e ∙ exprs_decoded-code y }

abbrev pub coded_condition : Coded Condition
coded_condition =
    record {
      code = code_condition;
      inj = λ x y e. sym (condition_decoded-code x) ∙ ap condition_decoded e
          ∙ condition_decoded-code y;
    }

-- ---- the module

abbrev pub coded_export : Coded Export
coded_export =
    code_by _ (coded× coded_ℕ (coded× coded_ℕ coded_ℕ)) (λ e. (e.name, (e.arity, e.offset)))
    (λ q. record { name = q.0; arity = q.1.0; offset = q.1.1 }) (λ _. refl)

abbrev pub coded_head : Coded Head
coded_head =
    code_by _ (coded× (coded× coded_ℕ coded_ℕ) (coded× coded_expr_patterns (coded× coded_condition coded_exprs)))
    (λ h. ((h.name, h.offset), (h.parameters, (h.condition, h.body))))
    (λ q. record { name = q.0.0; offset = q.0.1; parameters = q.1.0; condition = q.1.1.0; body = q.1.1.1 }) (λ _. refl)

abbrev pub coded_node_table : Coded NodeTable
coded_node_table =
    code_by _ (coded× (coded_list coded_expr_pattern) (coded_list coded_expr)) (λ b. (b.expr_patterns, b.exprs))
    (λ q. record { expr_patterns = q.0; exprs = q.1 }) (λ _. refl)

abbrev pub coded_expr_arena : Coded ExprArena
coded_expr_arena =
    code_by _ (coded× (coded× coded_ℕ (coded_list coded_export))
    (coded× coded_node_table (coded_list (coded_list coded_head))))
    (λ m. ((m.name, m.exports), (m.node_table, m.functions)))
    (λ q. record { name = q.0.0; exports = q.0.1; node_table = q.1.0; functions = q.1.1 }) (λ _. refl)

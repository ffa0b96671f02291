-- What the grammar derives is formed: matches occur in bodies alone, bodies, guards and functions aren't empty, and a
-- string is within the limits of a value.
use Rattle.std.proofs.Common.{◌≡◌, inl, inr, ℕ, ◌<◌, ◌≤◌, Bool, true, false, List, [], ◌∷◌, length, refl, sym, subst}
use Rattle.std.proofs.Common.{arith, IsTrue}
use Rattle.std.proofs.lemmas.List.Elements.{All-nil, All-cons}
use Rattle.pf_terms.specs.Value.{IsWithinLimits, nodes_in, depth_in}
use Rattle.pf_syntax.specs.declared.operator.Operator.TheVariants.{Plus, Minus, Times, Quotient, Remainder, Append}
use Rattle.pf_syntax.specs.declared.operator.Operator.TheVariants.{Equal, Unequal, Less, AtMost, Greater, AtLeast}
use Rattle.pf_syntax.specs.ExprPattern as s
use Rattle.pf_syntax.specs.ExprPattern.{ExprPattern, ExprPatterns, no_expr_patterns, expr_pattern}
use Rattle.pf_syntax.specs.Expr as p
use Rattle.pf_syntax.specs.Expr.{Expr, Exprs, Condition, Branches, no_exprs, expr, no_tests, tests, no_branches, branch}
use Rattle.pf_syntax.specs.SyntaxTree.{Head}
use Rattle.pf_syntax.specs.Naming.{characters, string}
use Rattle.pf_tokens.specs.declared.limits.TheConstants.{MOST_TEXT_CHARACTERS}
use Rattle.pf_tokens.specs.NumberedTokens.{NumberedToken}
use Rattle.pf_grammar.specs.Grammar.{TokenNames, binding_of, greatest_left, greatest_right, level_of, left_level}
use Rattle.pf_grammar.specs.Grammar.{right_level, top, element, Guarded, FrontIs}
use Rattle.pf_grammar.specs.declared.infix.Grouping.{Grouping}
use Rattle.pf_grammar.specs.declared.infix.Grouping.TheVariants.{Leftwards, Rightwards, Alone}
use Rattle.pf_grammar.specs.declared.infix.Infix.{Infix}
use Rattle.pf_grammar.specs.declared.infix.Infix.TheVariants.{Operator, AndAlso, OrElse, Send}
use Rattle.pf_grammar.specs.Grammar.{DerivesExprPattern, DerivesExprPatterns, Derives, DerivesAll, DerivesBody}
use Rattle.pf_grammar.specs.Grammar.{DerivesGuard, DerivesBranches, DerivesHead, DerivesHeads, DerivesFunction}
use Rattle.pf_grammar.specs.Grammar.{DerivesFunctions, DerivesTree}
use Rattle.pf_syntax.specs.ExprModule.{unguarded, Tree}
use Rattle.pf_rules.specs.Formed.{ExprPatternFormed, ExprPatternsFormed, ExprFormed, ExprsFormed, ConditionFormed}
use Rattle.pf_rules.specs.Formed.{BranchesFormed, HasFirst, HasAlternative, HeadFormed, FunctionFormed, AreFormed}

-- ---- strings

-- each character is a node, and none is deep
as_many_nodes : (cs : List ℕ) → nodes_in (characters cs) ≡ length cs
as_many_nodes [] = refl
as_many_nodes (c ∷ cs) = let e = as_many_nodes cs in omega (arith, e)

flat : (cs : List ℕ) → depth_in (characters cs) ≤ 1
flat [] = omega arith
flat (c ∷ cs) = let e = flat cs in omega (arith, e)

text_within : (cs : List ℕ) → length cs ≤ MOST_TEXT_CHARACTERS → IsWithinLimits (string cs)
text_within cs h = let many = as_many_nodes cs in let deep = flat cs in (omega (arith, h, many), omega (arith, deep))

-- ---- levels

-- no infix is as loose as a match
tight : (i : Infix) → level_of i < element
tight (Operator Plus) = omega arith
tight (Operator Minus) = omega arith
tight (Operator Times) = omega arith
tight (Operator Quotient) = omega arith
tight (Operator Remainder) = omega arith
tight (Operator Append) = omega arith
tight (Operator Equal) = omega arith
tight (Operator Unequal) = omega arith
tight (Operator Less) = omega arith
tight (Operator AtMost) = omega arith
tight (Operator Greater) = omega arith
tight (Operator AtLeast) = omega arith
tight AndAlso = omega arith
tight OrElse = omega arith
tight Send = omega arith

left_most : (g : Grouping) (level : ℕ) → greatest_left g level ≤ level
left_most Leftwards level = omega arith
left_most Rightwards level = omega arith
left_most Alone level = omega arith

right_most : (g : Grouping) (level : ℕ) → greatest_right g level ≤ level
right_most Leftwards level = omega arith
right_most Rightwards level = omega arith
right_most Alone level = omega arith

left_tight : (i : Infix) → element ≤ left_level i → IsTrue false
left_tight i h = let most = left_most (binding_of i).grouping (level_of i) in let k = tight i in
    absurd (omega (arith, h, most, k))

right_tight : (i : Infix) → element ≤ right_level i → IsTrue false
right_tight i h = let most = right_most (binding_of i).grouping (level_of i) in let k = tight i in
    absurd (omega (arith, h, most, k))

-- no whole expression is a match
whole_tight : element ≤ top → IsTrue false
whole_tight h = absurd (omega (arith, h))

zero_tight : element ≤ 0 → IsTrue false
zero_tight h = absurd (omega (arith, h))

module _ (n : TokenNames) where
  -- ---- patterns

  mutual
    pub expr_pattern_formed : (q : ExprPattern) (ts : List NumberedToken) → DerivesExprPattern n q ts
        → ExprPatternFormed q
    expr_pattern_formed (s.integer z) ts h = tt
    expr_pattern_formed (s.atom a) ts h = tt
    expr_pattern_formed (s.variable x at) ts h = tt
    expr_pattern_formed s.anything ts h = tt
    expr_pattern_formed (s.text cs) ts h = text_within cs h.0
    expr_pattern_formed (s.tuple qs) ts h = expr_patterns_formed qs h.4.0 h.4.4
    expr_pattern_formed (s.list qs) ts h = expr_patterns_formed qs h.4.0 h.4.4
    expr_pattern_formed (s.list_on qs q) ts h =
        let parts = h.1.4.4 in (expr_patterns_formed qs parts.0 parts.5, expr_pattern_formed q parts.2 parts.6)

    expr_patterns_formed : (qs : ExprPatterns) (ts : List NumberedToken) → DerivesExprPatterns n qs ts
        → ExprPatternsFormed qs
    expr_patterns_formed no_expr_patterns ts h = tt
    expr_patterns_formed (expr_pattern q no_expr_patterns) ts h = (expr_pattern_formed q ts h, tt)
    expr_patterns_formed (expr_pattern q (expr_pattern r qs)) ts h =
        (expr_pattern_formed q h.0 h.5, expr_patterns_formed (expr_pattern r qs) h.2 h.6)

  -- ---- expressions

  -- a guard that has an alternative, and is formed
  abbrev IsGuard : Condition → Type 0
  IsGuard c = HasAlternative c × ConditionFormed c

  unguarded_formed : (c : Condition) → c ≡ unguarded → IsGuard c
  unguarded_formed c e = subst IsGuard (sym e) (tt, (tt, tt))

  -- what is before the arrow of a clause, once its guard is formed
  guarded_formed : (c : Condition) (ts : List NumberedToken)
      → ((us : List NumberedToken) → DerivesGuard n c us → IsGuard c) → Guarded c (DerivesGuard n c) ts → IsGuard c
  guarded_formed c ts guard (inl h) = unguarded_formed c h.0
  guarded_formed c ts guard (inr h) = guard h.1 h.4

  front_formed : (choice : Bool) (q : ExprPattern) (c : Condition) (ts : List NumberedToken)
      → ((us : List NumberedToken) → DerivesGuard n c us → IsGuard c)
      → FrontIs choice q c (DerivesExprPattern n q) (DerivesGuard n c) ts → ExprPatternFormed q × IsGuard c
  front_formed false q c ts guard h = (expr_pattern_formed q h.0 h.3, guarded_formed c h.1 guard h.4)
  front_formed true q c ts guard h = (subst ExprPatternFormed (sym h.0) tt, guard ts h.1)

  mutual
    -- at a level below that of a match there is none
    expr_formed : (m g : Bool) (e : Expr) (level : ℕ) (ts : List NumberedToken) → (element ≤ level → IsTrue m)
        → Derives n g e level ts → ExprFormed m e
    expr_formed m g (p.integer z) level ts k h = tt
    expr_formed m g (p.atom a) level ts k h = tt
    expr_formed m g (p.text cs) level ts k h = text_within cs h.0
    expr_formed m g (p.variable x at) level ts k h = tt
    expr_formed m g (p.anonymous at) level ts k h = tt
    expr_formed m g (p.parentheses a) level ts k h = expr_formed false g a top h.4.0 whole_tight h.4.4
    expr_formed m g (p.tuple es) level ts k h = all_formed g es h.4.0 h.4.4
    expr_formed m g (p.list es) level ts k h = all_formed g es h.4.0 h.4.4
    expr_formed m g (p.list_on es e) level ts k h =
        let parts = h.1.4.4 in (all_formed g es parts.0 parts.5, expr_formed false g e top parts.2 whole_tight parts.6)
    expr_formed m g (p.call f at es) level ts k h = all_formed g es h.6.4.0 h.6.4.4
    expr_formed m g (p.binary o a b) level ts k h =
        let i = Operator o in (
          expr_formed false g a (left_level i) h.2.0 (left_tight i) h.2.5,
          expr_formed false g b (right_level i) h.2.2
              (right_tight i) h.2.6,
        )
    expr_formed m g (p.negate a) level ts k h = expr_formed false g a 0 h.1.1 zero_tight h.1.4
    expr_formed m g (p.and_also a b) level ts k h = (
      expr_formed false g a 5 h.2.0 (left_tight AndAlso) h.2.5,
      expr_formed false g b 6 h.2.2 (right_tight AndAlso) h.2.6,
    )
    expr_formed m g (p.or_else a b) level ts k h = (
      expr_formed false g a 6 h.2.0 (left_tight OrElse) h.2.5,
      expr_formed false g b 7 h.2.2 (right_tight OrElse) h.2.6,
    )
    expr_formed m g (p.send a b) level ts k h =
        (expr_formed false g a 7 h.2.0 (left_tight Send) h.2.5, expr_formed false g b 8 h.2.2 (right_tight Send) h.2.6)
    expr_formed m g (p.match q a) level ts k h =
        (k h.0, expr_pattern_formed q h.1.0 h.1.5, expr_formed true g a element h.1.2 (λ _. refl) h.1.6)
    expr_formed m g (p.case a bs) level ts k h =
        let parts = h.1.4.4 in (
          expr_formed false g a top parts.0 whole_tight parts.5,
          branches_formed false bs parts.2 parts.6,
        )
    expr_formed m g (p.if_expression bs) level ts k h = branches_formed true bs h.1.4.0 h.1.4.4
    expr_formed m g (p.receive bs) level ts k h = branches_formed false bs h.1.4.0 h.1.4.4

    all_formed : (g : Bool) (es : Exprs) (ts : List NumberedToken) → DerivesAll n g es ts → ExprsFormed false es
    all_formed g no_exprs ts h = tt
    all_formed g (expr e no_exprs) ts h = (expr_formed false g e top ts whole_tight h, tt)
    all_formed g (expr e (expr f es)) ts h =
        (expr_formed false g e top h.0 whole_tight h.5, all_formed g (expr f es) h.2 h.6)

    body_formed : (es : Exprs) (ts : List NumberedToken) → DerivesBody n es ts → HasFirst es × ExprsFormed true es
    body_formed no_exprs ts h = absurd h
    body_formed (expr e no_exprs) ts h = (tt, (expr_formed true false e element ts (λ _. refl) h, tt))
    body_formed (expr e (expr f es)) ts h =
        (tt, (expr_formed true false e element h.0 (λ _. refl) h.5, (body_formed (expr f es) h.2 h.6).1))

    guard_formed : (c : Condition) (ts : List NumberedToken) → DerivesGuard n c ts → IsGuard c
    guard_formed no_tests ts h = absurd h
    guard_formed (tests es no_tests) ts h = (tt, (all_formed true es ts h.1, tt))
    guard_formed (tests es (tests fs c)) ts h =
        let parts = h.1 in (tt, (all_formed true es parts.0 parts.5, (guard_formed (tests fs c) parts.2 parts.6).1))

    branches_formed : (choice : Bool) (bs : Branches) (ts : List NumberedToken) → DerivesBranches n choice bs ts
        → BranchesFormed bs
    branches_formed choice no_branches ts h = absurd h
    branches_formed choice (branch q c es no_branches) ts h =
        let front = front_formed choice q c h.0 (λ us d. guard_formed c us d) h.5 in
        let body = body_formed es h.2 h.6 in
        (front.0, front.1.0, front.1.1, body.0, body.1, tt)
    branches_formed choice (branch q c es (branch r d fs bs)) ts h =
        let one = h.5 in
        let front = front_formed choice q c one.0 (λ us d. guard_formed c us d) one.5 in
        let body = body_formed es one.2 one.6 in
        (front.0, front.1.0, front.1.1, body.0, body.1, branches_formed choice (branch r d fs bs) h.2 h.6)

  -- ---- functions

  head_formed : (h : Head) (ts : List NumberedToken) → DerivesHead n h ts → HeadFormed h
  head_formed h ts d =
      let front = d.parts.5 in
      let guard = guarded_formed h.condition front.1 (λ us k. guard_formed h.condition us k) front.4 in
      let body = body_formed h.body d.parts.2 d.parts.6 in
      (expr_patterns_formed h.parameters front.3.4.0 front.3.4.4, guard.0, guard.1, body.0, body.1)

  heads_formed : (hs : List Head) (ts : List NumberedToken) → DerivesHeads n hs ts → FunctionFormed hs
  heads_formed [] ts d = absurd d
  heads_formed (h ∷ []) ts d = All-cons HeadFormed h [] (head_formed h ts d) (All-nil HeadFormed)
  heads_formed (h ∷ i ∷ hs) ts d = All-cons HeadFormed h (i ∷ hs) (head_formed h d.0 d.5)
      (heads_formed (i ∷ hs) d.2 d.6)

  function_formed : (hs : List Head) (ts : List NumberedToken) → DerivesFunction n hs ts → FunctionFormed hs
  function_formed hs ts d = heads_formed hs d.0 d.4

  functions_formed : (fs : List (List Head)) (ts : List NumberedToken) → DerivesFunctions n fs ts → AreFormed fs
  functions_formed [] ts d = All-nil FunctionFormed
  functions_formed (f ∷ fs) ts d = All-cons FunctionFormed f fs (function_formed f d.0 d.3)
      (functions_formed fs d.1 d.4)

-- the functions of a module that is derived
pub tree_formed : (atoms : List (List ℕ)) (m : Tree) (ts : List NumberedToken) → DerivesTree atoms m ts
    → AreFormed m.functions
tree_formed atoms m ts d = functions_formed (record { atoms = atoms; own = m.name }) m.functions d.parts.1 d.parts.4

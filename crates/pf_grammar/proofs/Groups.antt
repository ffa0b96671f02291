-- Expressions with commas, bodies, guards and clauses, as lists with separators.
use Rattle.std.proofs.Common.{◌≡◌, ℕ, ◌≤◌, ◌<◌, max, List, [], ◌∷◌, length, Bool, true, false, refl, ap, arith}
use Rattle.pf_tokens.specs.declared.marks.TokenMark.TheVariants as marks
use Rattle.pf_syntax.specs.Naming.{arity_of}
use Rattle.pf_syntax.specs.ExprPattern.{ExprPattern, expr_pattern_depth}
use Rattle.pf_syntax.specs.Expr as p
use Rattle.pf_syntax.specs.Expr.{Expr, Exprs, Condition, Branches, no_exprs, expr, no_tests, tests, no_branches, branch}
use Rattle.pf_syntax.specs.Expr.{expr_depth, exprs_depth, condition_depth, branches_depth}
use Rattle.pf_tokens.specs.NumberedTokens.{mark, NumberedToken}
use Rattle.pf_grammar.specs.Grammar.{TokenNames, Apart, HasExpression, FrontIs, top, element, DerivesExprPattern}
use Rattle.pf_grammar.specs.Grammar.{Derives, DerivesAll, DerivesBody, DerivesGuard, DerivesBranches}
use Rattle.pf_grammar.specs.Parse.{ClauseFront, ParsedClause, exprs_of, condition_of, branches_of}
use Rattle.pf_grammar.proofs.Lists.{Separated, Several}

-- a tree is at least one deep
pub some_depth : (e : Expr) → 0 < expr_depth e
some_depth (p.integer z) = omega arith
some_depth _ = omega arith

-- an expression of at most this level, in a guard where the flag says so, derives the tokens, no deeper than this
abbrev pub Fits : TokenNames → Bool → ℕ → ℕ → Expr → List NumberedToken → Type 0
Fits n g level d e ts = Derives n g e level ts × (expr_depth e ≤ d)

pub expr_list : Exprs → List Expr
expr_list no_exprs = []
expr_list (expr e es) = e ∷ expr_list es

pub exprs_back : (es : Exprs) → exprs_of (expr_list es) ≡ es
unfolding expr_list
exprs_back no_exprs = refl
exprs_back (expr e es) = ap (expr e) (exprs_back es)

pub list_arity : (es : Exprs) → length (expr_list es) ≡ arity_of es
unfolding expr_list
list_arity no_exprs = refl
list_arity (expr e es) = omega (arith, list_arity es)

-- ---- expressions with commas

pub all_from : (n : TokenNames) (g : Bool) (d : ℕ) (es : List Expr) (ts : List NumberedToken)
    → Separated (mark marks.Comma) (Fits n g top d) es ts
    → DerivesAll n g (exprs_of es) ts × (exprs_depth (exprs_of es) ≤ d)
all_from n g d [] ts h = (h, omega arith)
all_from n g d (e ∷ []) ts h = (h.0, omega (arith, h.1))
all_from n g d (e ∷ f ∷ es) ts h =
    let one = h.5 in
    let more = all_from n g d (f ∷ es) h.2 h.6 in
    ((h.0, h.1, h.2, h.3, h.4, one.0, more.0), omega (arith, one.1, more.1))

pub all_to : (n : TokenNames) (g : Bool) (d : ℕ) (es : Exprs) (ts : List NumberedToken) → DerivesAll n g es ts
    → exprs_depth es ≤ d → Separated (mark marks.Comma) (Fits n g top d) (expr_list es) ts
unfolding expr_list
all_to n g d no_exprs ts h le = h
all_to n g d (expr e no_exprs) ts h le = (h, omega arith)
all_to n g d (expr e (expr f es)) ts h le = (
  h.0,
  h.1,
  h.2,
  h.3,
  h.4,
  (h.5, omega arith),
  all_to n g d (expr f es) h.2 h.6 (omega arith),
)

-- one at least
pub has_from : (es : List Expr) → (es ≡ [] → ⊥) → HasExpression (exprs_of es)
has_from [] h = absurd (h refl)
has_from (e ∷ es) h = tt

pub has_to : (es : Exprs) → HasExpression es → expr_list es ≡ [] → ⊥
unfolding expr_list
has_to no_exprs h = absurd h
has_to (expr e es) h = λ w. cc

-- one at least, no deeper than this
pub has_depth : (d : ℕ) (es : Exprs) → HasExpression es → exprs_depth es ≤ d → 0 < d
has_depth d no_exprs h le = absurd h
has_depth d (expr e es) h le = omega (arith, some_depth e, le)

-- ---- bodies

pub body_from : (n : TokenNames) (d : ℕ) (es : List Expr) (ts : List NumberedToken)
    → Several (mark marks.Comma) (Fits n false element d) es ts
    → DerivesBody n (exprs_of es) ts × (exprs_depth (exprs_of es) ≤ d) × (0 < d)
body_from n d [] ts h = absurd (h.1 refl)
body_from n d (e ∷ []) ts h = let one = h.0 in (one.0, omega (arith, one.1), omega (arith, one.1, some_depth e))
body_from n d (e ∷ f ∷ es) ts h =
    let a = h.0 in
    let one = a.5 in
    let more = body_from n d (f ∷ es) a.2 (a.6, λ w. cc) in
    ((a.0, a.1, a.2, a.3, a.4, one.0, more.0), omega (arith, one.1, more.1), more.2)

pub body_to : (n : TokenNames) (d : ℕ) (es : Exprs) (ts : List NumberedToken) → DerivesBody n es ts → exprs_depth es ≤ d
    → Several (mark marks.Comma) (Fits n false element d) (expr_list es) ts
unfolding expr_list
body_to n d no_exprs ts h le = absurd h
body_to n d (expr e no_exprs) ts h le = ((h, omega arith), λ w. cc)
body_to n d (expr e (expr f es)) ts h le =
    let more = body_to n d (expr f es) h.2 h.6 (omega arith) in
    ((h.0, h.1, h.2, h.3, h.4, (h.5, omega arith), more.0), λ w. cc)

-- ---- guards

-- an alternative of a guard: tests with commas between them
abbrev pub FitsTests : TokenNames → ℕ → List Expr → List NumberedToken → Type 0
FitsTests n d = Several (mark marks.Comma) (Fits n true top d)

pub tests_list : Condition → List (List Expr)
tests_list no_tests = []
tests_list (tests es c) = expr_list es ∷ tests_list c

pub condition_back : (c : Condition) → condition_of (tests_list c) ≡ c
unfolding tests_list
condition_back no_tests = refl
condition_back (tests es c) = let one = exprs_back es in let more = condition_back c in rw (one, more) refl

-- one alternative
tests_from : (n : TokenNames) (d : ℕ) (es : List Expr) (ts : List NumberedToken) → FitsTests n d es ts
    → (HasExpression (exprs_of es) × DerivesAll n true (exprs_of es) ts) × (exprs_depth (exprs_of es) ≤ d)
tests_from n d es ts h = let all = all_from n true d es ts h.0 in ((has_from es h.1, all.0), all.1)

tests_to : (n : TokenNames) (d : ℕ) (es : Exprs) (ts : List NumberedToken) → HasExpression es → DerivesAll n true es ts
    → exprs_depth es ≤ d → FitsTests n d (expr_list es) ts
tests_to n d es ts has h le = (all_to n true d es ts h le, has_to es has)

pub guard_from : (n : TokenNames) (d : ℕ) (ess : List (List Expr)) (ts : List NumberedToken)
    → Several (mark marks.Semicolon) (FitsTests n d) ess ts
    → DerivesGuard n (condition_of ess) ts × (condition_depth (condition_of ess) ≤ d) × (0 < d)
guard_from n d [] ts h = absurd (h.1 refl)
guard_from n d (es ∷ []) ts h = let one = tests_from n d es ts h.0 in let all = one.0 in
    (all, omega (arith, one.1), has_depth d (exprs_of es) all.0 one.1)
guard_from n d (es ∷ fs ∷ ess) ts h =
    let a = h.0 in
    let one = tests_from n d es a.0 a.5 in
    let all = one.0 in
    let more = guard_from n d (fs ∷ ess) a.2 (a.6, λ w. cc) in
    ((all.0, (a.0, a.1, a.2, a.3, a.4, all.1, more.0)), omega (arith, one.1, more.1), more.2)

pub guard_to : (n : TokenNames) (d : ℕ) (c : Condition) (ts : List NumberedToken) → DerivesGuard n c ts
    → condition_depth c ≤ d → Several (mark marks.Semicolon) (FitsTests n d) (tests_list c) ts
unfolding tests_list
guard_to n d no_tests ts h le = absurd h
guard_to n d (tests es no_tests) ts h le = (tests_to n d es ts h.0 h.1 (omega arith), λ w. cc)
guard_to n d (tests es (tests fs c)) ts h le =
    let a = h.1 in
    let more = guard_to n d (tests fs c) a.2 a.6 (omega arith) in
    ((a.0, a.1, a.2, a.3, a.4, tests_to n d es a.0 h.0 a.5 (omega arith), more.0), λ w. cc)

-- ---- clauses

-- what is before the arrow of a clause, no deeper than this
abbrev pub FitsFront : TokenNames → Bool → ℕ → ClauseFront → List NumberedToken → Type 0
FitsFront n choice d f ts = FrontIs choice f.0 f.1 (DerivesExprPattern n f.0) (DerivesGuard n f.1) ts
    × (expr_pattern_depth f.0 ≤ d) × (condition_depth f.1 ≤ d)

-- a clause derives the tokens, its parts no deeper than this
abbrev pub FitsClause : TokenNames → Bool → ℕ → ParsedClause → List NumberedToken → Type 0
FitsClause n choice d c ts = Apart (mark marks.Arrow) (FitsFront n choice d c.0)
    (Several (mark marks.Comma) (Fits n false element d) c.1) ts

pub clause_list : Branches → List ParsedClause
clause_list no_branches = []
clause_list (branch q c es bs) = ((q, c), expr_list es) ∷ clause_list bs

-- one clause, by what is before the arrow and its body
clause_from : (n : TokenNames) (choice : Bool) (d : ℕ) (c : ParsedClause) (ts : List NumberedToken)
    → FitsClause n choice d c ts → Apart (mark marks.Arrow)
    (FrontIs choice c.0.0 c.0.1 (DerivesExprPattern n c.0.0) (DerivesGuard n c.0.1)) (DerivesBody n (exprs_of c.1)) ts
    × (max (expr_pattern_depth c.0.0) (max (condition_depth c.0.1) (exprs_depth (exprs_of c.1))) ≤ d)
clause_from n choice d c ts h =
    let f = h.5 in
    let b = body_from n d c.1 h.2 h.6 in
    ((h.0, h.1, h.2, h.3, h.4, f.0, b.0), omega (arith, f.1, f.2, b.1))

clause_to : (n : TokenNames) (choice : Bool) (d : ℕ) (q : ExprPattern) (c : Condition) (es : Exprs)
    (ts : List NumberedToken) → Apart (mark marks.Arrow)
    (FrontIs choice q c (DerivesExprPattern n q) (DerivesGuard n c)) (DerivesBody n es) ts
    → max (expr_pattern_depth q) (max (condition_depth c) (exprs_depth es)) ≤ d
    → FitsClause n choice d ((q, c), expr_list es) ts
clause_to n choice d q c es ts h le = (
  h.0,
  h.1,
  h.2,
  h.3,
  h.4,
  (h.5, omega (arith, le), omega (arith, le)),
  body_to n d es h.2 h.6 (omega (arith, le)),
)

pub branches_from : (n : TokenNames) (choice : Bool) (d : ℕ) (cs : List ParsedClause) (ts : List NumberedToken)
    → Several (mark marks.Semicolon) (FitsClause n choice d) cs ts
    → DerivesBranches n choice (branches_of cs) ts × (branches_depth (branches_of cs) ≤ d)
branches_from n choice d [] ts h = absurd (h.1 refl)
branches_from n choice d (c ∷ []) ts h = let one = clause_from n choice d c ts h.0 in (one.0, omega (arith, one.1))
branches_from n choice d (c ∷ b ∷ cs) ts h =
    let a = h.0 in
    let one = clause_from n choice d c a.0 a.5 in
    let more = branches_from n choice d (b ∷ cs) a.2 (a.6, λ w. cc) in
    ((a.0, a.1, a.2, a.3, a.4, one.0, more.0), omega (arith, one.1, more.1))

pub branches_to : (n : TokenNames) (choice : Bool) (d : ℕ) (bs : Branches) (ts : List NumberedToken)
    → DerivesBranches n choice bs ts → branches_depth bs ≤ d
    → Several (mark marks.Semicolon) (FitsClause n choice d) (clause_list bs) ts
unfolding clause_list
branches_to n choice d no_branches ts h le = absurd h
branches_to n choice d (branch q c es no_branches) ts h le =
    (clause_to n choice d q c es ts h (omega (arith, le)), λ w. cc)
branches_to n choice d (branch q c es (branch r e fs bs)) ts h le =
    let more = branches_to n choice d (branch r e fs bs) h.2 h.6 (omega (arith, le)) in
    ((h.0, h.1, h.2, h.3, h.4, clause_to n choice d q c es h.0 h.5 (omega (arith, le)), more.0), λ w. cc)

pub branches_back : (bs : Branches) → branches_of (clause_list bs) ≡ bs
unfolding clause_list
branches_back no_branches = refl
branches_back (branch q c es bs) = let body = exprs_back es in let more = branches_back bs in rw (body, more) refl

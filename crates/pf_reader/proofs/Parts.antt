-- Parts of expressions, a step at a time.
use Rattle.std.proofs.Common.{◌≡◌, ℕ, List, Bool, true, false, Some, None, refl, length}
use Rattle.pf_tokens.specs.declared.marks.TokenMark.{TokenMark}
use Rattle.pf_tokens.specs.declared.marks.TokenMark.TheVariants as marks
use Rattle.pf_tokens.specs.declared.words.Reserved.TheVariants as words
use Rattle.pf_syntax.specs.Expr as p
use Rattle.pf_syntax.specs.Expr.{Expr, Exprs, Condition, Branches}
use Rattle.pf_tokens.specs.NumberedTokens.{NumberedToken, mark, reserved}
use Rattle.pf_grammar.specs.Grammar.{TokenNames, call_is_there}
use Rattle.pf_grammar.specs.Parse.{Parse, ParsedClause, ClauseFront, Readers, after_kind, body_parse, branches}
use Rattle.pf_grammar.specs.Parse.{branches_of, call_parse_step, case_of, clause, condition_of, front, guard, items}
use Rattle.pf_grammar.specs.Parse.{list, marked, guard_tests, until, exprs_of}

-- ---- lists

module _ (inner : Parse Expr) (ts r1 r2 : List NumberedToken) (es : List Expr) (all : Exprs) (row : all ≡ exprs_of es)
    (none : after_kind (mark marks.CloseBracket) ts ≡ None) (read : items (mark marks.Comma) inner (length ts) ts
    ≡ Some (es, r1)) where
  pub list_plain : after_kind (mark marks.Bar) r1 ≡ None → after_kind (mark marks.CloseBracket) r1 ≡ Some r2
      → list inner ts ≡ Some (p.list all, r2)
  list_plain b c = rw (none, read, b, c, row) refl

  pub list_on : (r3 r4 : List NumberedToken) (e : Expr) → after_kind (mark marks.Bar) r1 ≡ Some r2
      → inner r2 ≡ Some (e, r3) → after_kind (mark marks.CloseBracket) r3 ≡ Some r4
      → list inner ts ≡ Some (p.list_on all e, r4)
  list_on r3 r4 e b i c = rw (none, read, b, i, c, row) refl

pub tuple_is : (inner : Parse Expr) (first : TokenMark) (ts rest : List NumberedToken) (es : List Expr) (all : Exprs)
    → first ≡ marks.OpenBrace → all ≡ exprs_of es → until (mark marks.CloseBrace) inner ts ≡ Some (es, rest)
    → marked inner first ts ≡ Some (p.tuple all, rest)
tuple_is inner first ts rest es all f row read = rw (f, read, row) refl

-- ---- calls

module _ (n : TokenNames) (in_guard : Bool) (inner : Parse Expr) (a at arity : ℕ) (ts next rest : List NumberedToken)
    (es : List Expr) (opens : after_kind (mark marks.OpenParenthesis) ts ≡ Some next)
    (read : until (mark marks.CloseParenthesis) inner next ≡ Some (es, rest)) (count : length es ≡ arity) where
  pub call_is : (all : Exprs) → all ≡ exprs_of es → call_is_there n in_guard a arity ≡ true
      → call_parse_step n in_guard inner a at ts (after_kind (mark marks.OpenParenthesis) ts)
      ≡ Some (p.call a at all, rest)
  call_is all row s = rw (opens, read, count, s, row) refl

  pub call_refused : call_is_there n in_guard a arity ≡ false
      → call_parse_step n in_guard inner a at ts (after_kind (mark marks.OpenParenthesis) ts) ≡ None
  call_refused s = rw (opens, read, count, s) refl

-- ---- guards

pub guard_is : (test : Parse Expr) (ts rest : List NumberedToken) (ess : List (List Expr)) (c : Condition)
    → c ≡ condition_of ess → items (mark marks.Semicolon) (guard_tests test) (length ts) ts ≡ Some (ess, rest)
    → guard test ts ≡ Some (c, rest)
guard_is test ts rest ess c row read = rw (read, row) refl

pub guard_fails : (test : Parse Expr) (ts : List NumberedToken)
    → items (mark marks.Semicolon) (guard_tests test) (length ts) ts ≡ None → guard test ts ≡ None
guard_fails test ts read = rw read refl

-- ---- clauses

-- what is before the arrow is seen again where its tree has grown
pub clause_is : (r : Readers) (choice : Bool) (ts r1 r2 r3 : List NumberedToken) (f again : ClauseFront)
    (es : List Expr) → again ≡ f → front r choice ts ≡ Some (f, r1) → after_kind (mark marks.Arrow) r1 ≡ Some r2
    → body_parse r.elements r2 ≡ Some (es, r3)
    → clause r choice ts ≡ Some ((again, es), r3)
clause_is r choice ts r1 r2 r3 f again es same g h k = rw (g, h, k, same) refl

pub branches_is : (r : Readers) (choice : Bool) (ts r1 r2 : List NumberedToken) (cs : List ParsedClause) (bs : Branches)
    → bs ≡ branches_of cs → items (mark marks.Semicolon) (clause r choice) (length ts) ts ≡ Some (cs, r1)
    → after_kind (reserved words.End) r1 ≡ Some r2 → branches r choice ts ≡ Some (bs, r2)
branches_is r choice ts r1 r2 cs bs row read ends = rw (read, ends, row) refl

-- the subject is seen again where its tree has grown
pub case_is : (r : Readers) (inner : Parse Expr) (ts r1 r2 r3 : List NumberedToken) (e again : Expr) (bs : Branches)
    → again ≡ e → inner ts ≡ Some (e, r1) → after_kind (reserved words.Of) r1 ≡ Some r2
    → branches r false r2 ≡ Some (bs, r3) → case_of r inner ts ≡ Some (p.case again bs, r3)
case_is r inner ts r1 r2 r3 e again bs same f g h = rw (f, g, h, same) refl

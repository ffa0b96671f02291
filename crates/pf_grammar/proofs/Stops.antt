-- What ends an expression of a level, how expressions begin, and patterns as expressions.
use Rattle.std.proofs.Common.{◌≡◌, ◌⊎◌, ℕ, suc, ◌≤◌, ◌<◌, List, [], ◌∷◌, ◌++◌, Bool, true, false, Option, Some, None}
use Rattle.std.proofs.Common.{refl, ap, ◌∙◌, arith, inl, inr}
use Rattle.std.specs.Prelude.{ℤ, pos, neg_ℤ, IsTrue}
use Rattle.std.proofs.lemmas.Bool.{cases_lt}
use Rattle.pf_tokens.specs.declared.marks.TokenMark.TheVariants as marks
use Rattle.pf_tokens.specs.declared.words.Reserved.TheVariants as words
use Rattle.pf_syntax.specs.ExprPattern as s
use Rattle.pf_syntax.specs.ExprPattern.{ExprPattern, ExprPatterns, no_expr_patterns, expr_pattern, expr_pattern_depth}
use Rattle.pf_syntax.specs.ExprPattern.{expr_patterns_depth}
use Rattle.pf_syntax.specs.Expr as p
use Rattle.pf_syntax.specs.Expr.{Expr, Exprs, no_exprs, expr, expr_depth, exprs_depth}
use Rattle.pf_tokens.specs.NumberedTokens.{NumberedKind, integer, atom, variable, anonymous, text, own_module, mark}
use Rattle.pf_tokens.specs.NumberedTokens.{reserved, NumberedToken}
use Rattle.pf_grammar.specs.Grammar.{TokenNames, IsAtom, IsOne, After, Apart, HasPattern, HasExpression, infix_of}
use Rattle.pf_grammar.specs.Grammar.{level_of, left_level, right_level, infix_is_there, top, DerivesExprPattern}
use Rattle.pf_grammar.specs.Grammar.{DerivesExprPatterns, Derives, DerivesAll}
use Rattle.pf_grammar.specs.declared.infix.Infix.{Infix}
use Rattle.pf_grammar.specs.declared.infix.Infix.TheVariants.{Operator, AndAlso, OrElse, Send}
use Rattle.pf_grammar.specs.Parse.{is, after_kind, infix_fits, infix_ahead}
use Rattle.pf_grammar.proofs.Single.{is_same, first_no, level_low, left_most, right_most, one_side, one_right}
use Rattle.pf_grammar.proofs.Single.{infix_after, infix_level, infix_none}
use Rattle.pf_grammar.proofs.Lists.{Opens}
use Rattle.pf_grammar.proofs.Sound.{up}

-- ---- what ends an expression

-- the infix that comes first
abbrev pub infix_first : List NumberedToken → Option Infix
infix_first [] = None
infix_first (t ∷ ts) = infix_of t.kind

-- an infix that comes first and is allowed binds less tightly than this level; and no `(` comes first
pub record Stops (g : Bool) (level : ℕ) (rest : List NumberedToken) : Type 0 where
  pub no_infix : (i : Infix) → infix_first rest ≡ Some i → IsTrue (infix_is_there g i) → level < level_of i
  pub no_call : after_kind (mark marks.OpenParenthesis) rest ≡ None

-- what ends an expression of a level ends one of a level below it
pub stops_below : (g : Bool) (low high : ℕ) (rest : List NumberedToken) → low ≤ high → Stops g high rest
    → Stops g low rest
stops_below g low high rest le stops = record {
  no_infix = λ i e may. let lt = stops.no_infix i e may in
      omega (arith, lt);
  no_call = stops.no_call;
}

-- an infix ends what binds more tightly
pub stops_infix : (g : Bool) (level : ℕ) (i : Infix) (t : NumberedToken) (ts : List NumberedToken)
    → infix_of t.kind ≡ Some i → level < level_of i → Stops g level (t ∷ ts)
stops_infix g level i t ts e lt = record {
  no_infix = λ j f may. let same : i ≡ j = one_infix (e) f in rw (← same) lt;
  no_call = infix_after (mark marks.OpenParenthesis) i t ts e refl;
}
  where
    one_infix : {o : Option Infix} {k j : Infix} → o ≡ Some k → o ≡ Some j → k ≡ j
    one_infix e f = cc

-- a kind of token that is no infix and no `(` ends each expression
pub stops_kind : (g : Bool) (level : ℕ) (kind : NumberedKind) (t : NumberedToken) (ts : List NumberedToken)
    → t.kind ≡ kind → infix_of kind ≡ None → is (mark marks.OpenParenthesis) kind ≡ false → Stops g level (t ∷ ts)
stops_kind g level kind t ts e a b = record {
  no_infix = λ i f may.
      absurd (let none : infix_of t.kind ≡ None = ap infix_of e ∙ a in cc);
  no_call = rw (e, b) refl;
}

-- where an expression ends, no infix is taken
pub stops_ahead : (g : Bool) (floor level : ℕ) (rest : List NumberedToken) → Stops g level rest
    → infix_ahead g floor level rest ≡ None
stops_ahead g floor level [] stops = refl
stops_ahead g floor level (t ∷ ts) stops = of_infix (infix_of t.kind) refl
  where
    may_be_there : (i : Infix) (b : Bool) → infix_of t.kind ≡ Some i → infix_is_there g i ≡ b
        → infix_ahead g floor level (t ∷ ts) ≡ None
    may_be_there i true e f = infix_level g floor level i t ts e (stops.no_infix i e f)
    may_be_there i false e f = let fits : infix_fits g floor level i ≡ false = first_no _ _ (first_no _ _ f) in
        rw (e, fits) refl

    of_infix : (o : Option Infix) → infix_of t.kind ≡ o → infix_ahead g floor level (t ∷ ts) ≡ None
    of_infix None e = infix_none g floor level t ts e
    of_infix (Some i) e = may_be_there i (infix_is_there g i) e refl

-- an infix ends the right operand of its left operand
pub spine_stops : (i j : Infix) → level_of j ≤ left_level i → right_level j < level_of i
spine_stops i j le =
    elim (cases_lt (level_of j) (level_of i)) [
      | inl lt ↦ omega (arith, lt, right_most j)
      | inr ge ↦
          let same : level_of j ≡ level_of i = omega (arith, ge, le, left_most i) in
          let right = one_right j i same in
          omega (arith, le, same, right, one_side i)
    ]

-- ---- how an expression begins

-- the kinds of tokens that begin an expression, a minus among them where the flag says so
abbrev pub begins_one : Bool → NumberedKind → Bool
begins_one negative (integer k) = true
begins_one negative (atom a) = true
begins_one negative (variable x) = true
begins_one negative anonymous = true
begins_one negative (text cs) = true
begins_one negative own_module = true
begins_one negative (mark marks.OpenParenthesis) = true
begins_one negative (mark marks.OpenBrace) = true
begins_one negative (mark marks.OpenBracket) = true
begins_one negative (mark marks.Minus) = negative
begins_one negative (reserved words.Case) = true
begins_one negative (reserved words.If) = true
begins_one negative (reserved words.Receive) = true
begins_one negative _ = false

-- the tokens begin with one of these
pub record Starts (negative : Bool) (front : List NumberedToken) : Type 0 where
  pub first : NumberedToken
  pub others : List NumberedToken
  pub whole : front ≡ first ∷ others
  pub begins : begins_one negative first.kind ≡ true

-- what begins with one of these doesn't begin with another kind of token
pub starts_opens : (negative : Bool) (s : NumberedKind) (front : List NumberedToken) → begins_one negative s ≡ false
    → Starts negative front → Opens s front
starts_opens negative s front non d = record {
  first = d.first;
  others = d.others;
  whole = d.whole;
  differs =
      differs (is s d.first.kind) refl;
}
  where
    differs : (b : Bool) → is s d.first.kind ≡ b → b ≡ false
    differs false e = refl
    differs true e = absurd (let same = is_same s d.first.kind e in let begins = d.begins in
        let f = ap (begins_one negative) same in cc)

-- with a minus among them, more kinds of tokens begin
starts_more : (front : List NumberedToken) → Starts false front → Starts true front
starts_more front d = record {
  first = d.first;
  others = d.others;
  whole = d.whole;
  begins =
      more d.first.kind d.begins;
}
  where
    more : (k : NumberedKind) → begins_one false k ≡ true → begins_one true k ≡ true
    more (mark marks.Minus) e = refl
    more (mark _) e = e
    more _ e = e

starts_on : (negative : Bool) (front more whole : List NumberedToken) → whole ≡ front ++ more → Starts negative front
    → Starts negative whole
starts_on negative front more whole e d = record {
  first = d.first;
  others = d.others ++ more;
  whole =
      e ∙ ap (λ (l : List NumberedToken). l ++ more) d.whole;
  begins = d.begins;
}

starts_with : (negative : Bool) (kind : NumberedKind) (t : NumberedToken) (more whole : List NumberedToken)
    → whole ≡ t ∷ more → t.kind ≡ kind → begins_one negative kind ≡ true → Starts negative whole
starts_with negative kind t more whole e f b = record { first = t; others = more; whole = e; begins = rw (f, b) refl }

starts_atom : (n : TokenNames) (negative : Bool) (a : ℕ) (t : NumberedToken) (more whole : List NumberedToken)
    → whole ≡ t ∷ more → IsAtom n a t → Starts negative whole
starts_atom n negative a t more whole e (inl h) = starts_with negative (atom a) t more whole e h.0 refl
starts_atom n negative a t more whole e (inr h) = starts_with negative own_module t more whole e h.0 refl

-- a part that no infix opens doesn't begin with a minus
pub part_starts : (n : TokenNames) (g : Bool) (e : Expr) (front : List NumberedToken) → Derives n g e 0 front
    → Starts false front
part_starts n g (p.integer z) front h = let i = h.2 in starts_with false (integer h.0) i.0 [] front i.2 i.1 refl
part_starts n g (p.atom a) front h = starts_atom n false a h.0 [] front h.2 h.1
part_starts n g (p.text cs) front h = let i = h.1 in starts_with false (text cs) i.0 [] front i.2 i.1 refl
part_starts n g (p.variable x at) front h = starts_with false (variable x) h.0 [] front h.3 h.1 refl
part_starts n g (p.anonymous at) front h = starts_with false anonymous h.0 [] front h.3 h.1 refl
part_starts n g (p.parentheses a) front h = starts_with false (mark marks.OpenParenthesis) h.0 h.1 front h.3 h.2 refl
part_starts n g (p.tuple es) front h = starts_with false (mark marks.OpenBrace) h.0 h.1 front h.3 h.2 refl
part_starts n g (p.list es) front h = starts_with false (mark marks.OpenBracket) h.0 h.1 front h.3 h.2 refl
part_starts n g (p.list_on es a) front h = let b = h.1 in
    starts_with false (mark marks.OpenBracket) b.0 b.1 front b.3 b.2 refl
part_starts n g (p.call f at es) front h = starts_atom n false f h.0 h.1 front h.4 h.2
part_starts n g (p.negate a) front h = absurd (omega (arith, h.0))
part_starts n g (p.binary o a b) front h = absurd (omega (arith, h.0, level_low (Operator o)))
part_starts n g (p.and_also a b) front h = absurd (omega (arith, h.0, level_low AndAlso))
part_starts n g (p.or_else a b) front h = absurd (omega (arith, h.0, level_low OrElse))
part_starts n g (p.send a b) front h = absurd (omega (arith, h.0, level_low Send))
part_starts n g (p.match q a) front h = absurd (omega (arith, h.0))
part_starts n g (p.case a bs) front h = let b = h.1 in
    starts_with false (reserved words.Case) b.0 b.1 front b.3 b.2 refl
part_starts n g (p.if_expression bs) front h = let b = h.1 in
    starts_with false (reserved words.If) b.0 b.1 front b.3 b.2 refl
part_starts n g (p.receive bs) front h = let b = h.1 in
    starts_with false (reserved words.Receive) b.0 b.1 front b.3 b.2 refl

integer_starts : (z : ℤ) (front : List NumberedToken) (k : ℕ)
    → ((z ≡ pos k) × IsOne (integer k) front)
    ⊎ ((z ≡ neg_ℤ (pos k)) × After (mark marks.Minus) (IsOne (integer k)) front) → Starts true front
integer_starts z front k (inl h) = let i = h.1 in starts_with true (integer k) i.0 [] front i.2 i.1 refl
integer_starts z front k (inr h) = let b = h.1 in starts_with true (mark marks.Minus) b.0 b.1 front b.3 b.2 refl

pub pattern_starts : (n : TokenNames) (q : ExprPattern) (front : List NumberedToken) → DerivesExprPattern n q front
    → Starts true front
pattern_starts n (s.integer z) front h = integer_starts z front h.0 h.1
pattern_starts n (s.atom a) front h = starts_atom n true a h.0 [] front h.2 h.1
pattern_starts n (s.text cs) front h = let i = h.1 in starts_with true (text cs) i.0 [] front i.2 i.1 refl
pattern_starts n (s.variable x at) front h = starts_with true (variable x) h.0 [] front h.3 h.1 refl
pattern_starts n s.anything front h = starts_with true anonymous h.0 [] front h.2 h.1 refl
pattern_starts n (s.tuple qs) front h = starts_with true (mark marks.OpenBrace) h.0 h.1 front h.3 h.2 refl
pattern_starts n (s.list qs) front h = starts_with true (mark marks.OpenBracket) h.0 h.1 front h.3 h.2 refl
pattern_starts n (s.list_on qs q) front h = let b = h.1 in
    starts_with true (mark marks.OpenBracket) b.0 b.1 front b.3 b.2 refl

pub expression_starts : (n : TokenNames) (g : Bool) (e : Expr) (level : ℕ) (front : List NumberedToken)
    → Derives n g e level front → Starts true front
expression_starts n g (p.negate a) level front h = let b = h.1 in
    starts_with true (mark marks.Minus) b.0 b.1 front b.3 b.2 refl
expression_starts n g (p.binary o a b) level front h = let q = h.2 in
    starts_on true q.0 (q.1 ∷ q.2) front q.4 (expression_starts n g a (left_level (Operator o)) q.0 q.5)
expression_starts n g (p.and_also a b) level front h = let q = h.2 in
    starts_on true q.0 (q.1 ∷ q.2) front q.4 (expression_starts n g a (left_level AndAlso) q.0 q.5)
expression_starts n g (p.or_else a b) level front h = let q = h.2 in
    starts_on true q.0 (q.1 ∷ q.2) front q.4 (expression_starts n g a (left_level OrElse) q.0 q.5)
expression_starts n g (p.send a b) level front h = let q = h.2 in
    starts_on true q.0 (q.1 ∷ q.2) front q.4 (expression_starts n g a (left_level Send) q.0 q.5)
expression_starts n g (p.match q a) level front h = let b = h.1 in
    starts_on true b.0 (b.1 ∷ b.2) front b.4 (pattern_starts n q b.0 b.5)
expression_starts n g (p.integer z) level front h = starts_more front (part_starts n g (p.integer z) front h)
expression_starts n g e level front h = starts_more front (part_starts n g e front h)

-- ---- patterns are expressions

integer_expression : (n : TokenNames) (g : Bool) (z : ℤ) (ts : List NumberedToken) (k : ℕ)
    → ((z ≡ pos k) × IsOne (integer k) ts) ⊎ ((z ≡ neg_ℤ (pos k)) × After (mark marks.Minus) (IsOne (integer k)) ts)
    → (e : Expr) × Derives n g e 1 ts × (expr_depth e ≤ 2)
integer_expression n g z ts k (inl h) = (p.integer z, (k, h.0, h.1), omega arith)
integer_expression n g z ts k (inr h) = let b = h.1 in
    (p.negate (p.integer (pos k)), (omega arith, (b.0, b.1, b.2, b.3, (k, refl, b.4))), omega arith)

-- one expression and some more
all_with : (n : TokenNames) (g : Bool) (e : Expr) (es : Exprs) (ts : List NumberedToken) → HasExpression es
    → Apart (mark marks.Comma) (Derives n g e top) (DerivesAll n g es) ts → DerivesAll n g (expr e es) ts
all_with n g e no_exprs ts has h = absurd has
all_with n g e (expr f es) ts has h = h

mutual
  pub pattern_expression : (n : TokenNames) (g : Bool) (q : ExprPattern) (ts : List NumberedToken)
      → DerivesExprPattern n q ts → (e : Expr) × Derives n g e 1 ts × (expr_depth e ≤ suc (expr_pattern_depth q))
  pattern_expression n g (s.integer z) ts h = integer_expression n g z ts h.0 h.1
  pattern_expression n g (s.atom a) ts h = (p.atom a, h, omega arith)
  pattern_expression n g (s.text cs) ts h = (p.text cs, h, omega arith)
  pattern_expression n g (s.variable x at) ts h = (p.variable x at, h, omega arith)
  pattern_expression n g s.anything ts h = (p.anonymous h.0.at, (h.0, h.1, refl, h.2), omega arith)
  pattern_expression n g (s.tuple qs) ts h =
      let b = h.4 in
      let es = patterns_expressions n g qs b.0 b.4 in
      (p.tuple es.0, (h.0, h.1, h.2, h.3, (b.0, b.1, b.2, b.3, es.1)), omega (arith, es.2))
  pattern_expression n g (s.list qs) ts h =
      let b = h.4 in
      let es = patterns_expressions n g qs b.0 b.4 in
      (p.list es.0, (h.0, h.1, h.2, h.3, (b.0, b.1, b.2, b.3, es.1)), omega (arith, es.2))
  pattern_expression n g (s.list_on qs q) ts h =
      let k = h.1 in
      let b = k.4 in
      let c = b.4 in
      let es = patterns_expressions n g qs c.0 c.5 in
      let e = pattern_expression n g q c.2 c.6 in (
        p.list_on es.0 e.0,
        (
          es.3 h.0,
          (
            k.0,
            k.1,
            k.2,
            k.3,
            (b.0, b.1, b.2, b.3, (c.0, c.1, c.2, c.3, c.4, es.1, up n g e.0 1 top c.2 (omega arith) e.1)),
          ),
        ),
        omega (arith, es.2, e.2),
      )

  patterns_expressions : (n : TokenNames) (g : Bool) (qs : ExprPatterns) (ts : List NumberedToken)
      → DerivesExprPatterns n qs ts → (es : Exprs) × DerivesAll n g es ts
      × (exprs_depth es ≤ suc (expr_patterns_depth qs)) × (HasPattern qs → HasExpression es)
  patterns_expressions n g no_expr_patterns ts h = (no_exprs, h, omega arith, λ h. h)
  patterns_expressions n g (expr_pattern q no_expr_patterns) ts h =
      let e = pattern_expression n g q ts h in
      (expr e.0 no_exprs, up n g e.0 1 top ts (omega arith) e.1, omega (arith, e.2), λ h. tt)
  patterns_expressions n g (expr_pattern q (expr_pattern r qs)) ts h =
      let e = pattern_expression n g q h.0 h.5 in
      let more = patterns_expressions n g (expr_pattern r qs) h.2 h.6 in
      let has = more.3 tt in (
        expr e.0 more.0,
        all_with n g e.0 more.0 ts has (
          h.0,
          h.1,
          h.2,
          h.3,
          h.4,
          up n g e.0 1 top h.0 (omega arith) e.1,
          more.1,
        ),
        omega (arith, e.2, more.2),
        λ h. tt,
      )

-- Guards, bodies and clauses that derive tokens are read, where the expressions in them are.
use Rattle.std.proofs.Common.{◌≡◌, ℕ, ◌≤◌, ◌<◌, List, [], ◌∷◌, ◌++◌, length, Bool, true, false, Some, None, refl, ap}
use Rattle.std.proofs.Common.{◌∙◌, arith, append_assoc, inl, inr}
use Rattle.std.proofs.lemmas.List.{length-append}
use Rattle.pf_tokens.specs.declared.marks.TokenMark.TheVariants as marks
use Rattle.pf_tokens.specs.declared.words.Reserved.TheVariants as words
use Rattle.pf_syntax.specs.Expr.{Expr, Condition, Branches, condition_depth, branches_depth}
use Rattle.pf_tokens.specs.NumberedTokens.{NumberedKind, mark, reserved, NumberedToken}
use Rattle.pf_grammar.specs.Grammar.{TokenNames, Guarded, top, element as body_level, infix_of, DerivesGuard}
use Rattle.pf_grammar.specs.Grammar.{DerivesBranches}
use Rattle.pf_grammar.specs.Parse.{ParsedClause, is, after_kind, guard_tests, guard, when, when_step, front as front_of}
use Rattle.pf_grammar.specs.Parse.{body_parse, clause, branches, readers, parse_expr, element}
use Rattle.pf_grammar.proofs.Single.{after_here, after_none}
use Rattle.pf_grammar.proofs.Lists.{CompleteFor, Several, opens_length, items_complete}
use Rattle.pf_grammar.proofs.Patterns.{pattern_complete}
use Rattle.pf_grammar.proofs.Groups.{Fits, FitsTests, FitsFront, FitsClause, tests_list, condition_back, guard_to}
use Rattle.pf_grammar.proofs.Groups.{clause_list, branches_to, branches_back}
use Rattle.pf_grammar.proofs.Stops.{Stops, stops_kind, starts_opens, expression_starts}

-- ---- what ends the parts of a clause

-- an element of a body
abbrev pub ElementEnds : List NumberedToken → Type 0
ElementEnds rest = Stops false top rest × (after_kind (mark marks.Match) rest ≡ None)

-- a body, and the clause with it
abbrev pub ClauseEnds : List NumberedToken → Type 0
ClauseEnds rest = ElementEnds rest × (after_kind (mark marks.Comma) rest ≡ None)

-- the tests of an alternative
abbrev pub TestsEnd : List NumberedToken → Type 0
TestsEnd rest = Stops true top rest × (after_kind (mark marks.Comma) rest ≡ None)

-- a guard
pub record ArrowAhead (rest : List NumberedToken) : Type 0 where
  pub arrow : NumberedToken
  pub after : List NumberedToken
  pub arrow_is : arrow.kind ≡ mark marks.Arrow
  pub whole : rest ≡ arrow ∷ after

pub element_ends : (kind : NumberedKind) (t : NumberedToken) (ts : List NumberedToken) → t.kind ≡ kind
    → infix_of kind ≡ None → is (mark marks.OpenParenthesis) kind ≡ false → is (mark marks.Match) kind ≡ false
    → ElementEnds (t ∷ ts)
element_ends kind t ts e a b c = (stops_kind false top kind t ts e a b, after_none (mark marks.Match) kind t ts e c)

pub clause_ends : (kind : NumberedKind) (t : NumberedToken) (ts : List NumberedToken) → t.kind ≡ kind
    → infix_of kind ≡ None → is (mark marks.OpenParenthesis) kind ≡ false → is (mark marks.Match) kind ≡ false
    → is (mark marks.Comma) kind ≡ false → ClauseEnds (t ∷ ts)
clause_ends kind t ts e a b c d = (element_ends kind t ts e a b c, after_none (mark marks.Comma) kind t ts e d)

tests_end : (kind : NumberedKind) (t : NumberedToken) (ts : List NumberedToken) → t.kind ≡ kind → infix_of kind ≡ None
    → is (mark marks.OpenParenthesis) kind ≡ false → is (mark marks.Comma) kind ≡ false → TestsEnd (t ∷ ts)
tests_end kind t ts e a b c = (stops_kind true top kind t ts e a b, after_none (mark marks.Comma) kind t ts e c)

-- another kind of token isn't ahead
arrow_other : (s : NumberedKind) (rest : List NumberedToken) → ArrowAhead rest → is s (mark marks.Arrow) ≡ false
    → after_kind s rest ≡ None
arrow_other s rest a non = ap (after_kind s) a.whole ∙ after_none s (mark marks.Arrow) a.arrow a.after a.arrow_is non

arrow_tests : (rest : List NumberedToken) → ArrowAhead rest → TestsEnd rest
arrow_tests rest a = let w = a.whole in rw w (tests_end (mark marks.Arrow) a.arrow a.after a.arrow_is refl refl refl)

-- ---- what derives a part is some tokens

pub fits_some : (n : TokenNames) (g : Bool) (level d : ℕ) (e : Expr) (front : List NumberedToken)
    → Fits n g level d e front → 0 < length front
fits_some n g level d e front h = opens_length (mark marks.CloseParenthesis) front
    (starts_opens true (mark marks.CloseParenthesis) front refl (expression_starts n g e level front h.0))

several_some : (A : Type 0) (s : NumberedKind) (P : A → List NumberedToken → Type 0)
    → ((x : A) (front : List NumberedToken) → P x front → 0 < length front) → (xs : List A) (front : List NumberedToken)
    → Several s P xs front → 0 < length front
several_some A s P some [] front h = absurd (h.1 refl)
several_some A s P some (x ∷ []) front h = some x front h.0
several_some A s P some (x ∷ y ∷ xs) front h = let a = h.0 in let w = ap length a.4 in
    omega (arith, w, length-append a.0 (a.1 ∷ a.2))

tests_some : (n : TokenNames) (d : ℕ) (es : List Expr) (front : List NumberedToken) → FitsTests n d es front
    → 0 < length front
tests_some n d = several_some Expr (mark marks.Comma) (Fits n true top d) (fits_some n true top d)

pub clause_some : (n : TokenNames) (choice : Bool) (d : ℕ) (c : ParsedClause) (front : List NumberedToken)
    → FitsClause n choice d c front → 0 < length front
clause_some n choice d c front h = let w = ap length h.4 in omega (arith, w, length-append h.0 (h.1 ∷ h.2))

-- ---- what reads expressions and elements no deeper than a limit

abbrev pub ExpressionsRead : TokenNames → ℕ → Type 0
ExpressionsRead n d = (g : Bool) (level : ℕ) → 1 ≤ level → level ≤ top
    → CompleteFor (parse_expr n g d level) (Fits n g level d) (Stops g level)

abbrev pub ElementsRead : TokenNames → ℕ → Type 0
ElementsRead n d = CompleteFor (element n d) (Fits n false body_level d) ElementEnds

module _ (n : TokenNames) (d : ℕ) (parse_exprs : ExpressionsRead n d) where
  tests_complete : CompleteFor (guard_tests (parse_expr n true d top)) (FitsTests n d) TestsEnd
  tests_complete es front rest h ends =
      items_complete Expr (mark marks.Comma) (Fits n true top d) (parse_expr n true d top) (Stops true top) refl
      (parse_exprs true top (omega arith) (omega arith)) (fits_some n true top d)
      (λ t ts e. stops_kind true top (mark marks.Comma) t ts e refl refl) es front rest (length (front ++ rest)) h
      ends.0 ends.1 (omega (arith, length-append front rest))

  guard_complete : (c : Condition) (front rest : List NumberedToken) → DerivesGuard n c front → condition_depth c ≤ d
      → ArrowAhead rest → guard (parse_expr n true d top) (front ++ rest) ≡ Some (c, rest)
  guard_complete c front rest h le ahead =
      let listed = items_complete (List Expr) (mark marks.Semicolon) (FitsTests n d)
      (guard_tests (parse_expr n true d top)) TestsEnd refl tests_complete (tests_some n d)
      (λ t ts e. tests_end (mark marks.Semicolon) t ts e refl refl refl) (tests_list c) front rest
      (length (front ++ rest)) (guard_to n d c front h le) (arrow_tests rest ahead)
      (arrow_other (mark marks.Semicolon) rest ahead refl) (omega (arith, length-append front rest)) in
      let back = condition_back c in
      rw (listed, back) refl

  pub when_complete : (c : Condition) (front rest : List NumberedToken) → Guarded c (DerivesGuard n c) front
      → condition_depth c ≤ d → ArrowAhead rest → when (parse_expr n true d top) (front ++ rest) ≡ Some (c, rest)
  when_complete c front rest (inl h) le ahead =
      let bare = h.0 in
      let w = h.1 in
      let non = arrow_other (reserved words.When) rest ahead refl in
      rw (w, non, bare) refl
  when_complete c front rest (inr h) le ahead =
      let regroup : front ++ rest ≡ h.0 ∷ (h.1 ++ rest) = ap (λ (l : List NumberedToken). l ++ rest) h.3 in
      let word = after_here (reserved words.When) h.0 (h.1 ++ rest) refl h.2 in
      ap (when (parse_expr n true d top)) regroup ∙ ap (when_step (parse_expr n true d top) (h.0 ∷ (h.1 ++ rest))) word
      ∙ guard_complete c h.1 rest h.4 le ahead

  front_complete : (choice : Bool) → CompleteFor (front_of (readers n d) choice) (FitsFront n choice d) ArrowAhead
  front_complete false f front rest h ahead =
      let k = h.0 in
      let regroup : front ++ rest ≡ k.0 ++ (k.1 ++ rest) = ap (λ (l : List NumberedToken). l ++ rest) k.2
      ∙ append_assoc k.0 k.1 rest in
      let one = pattern_complete n d f.0 k.0 (k.1 ++ rest) (k.3, h.1) tt in
      let more = when_complete f.1 k.1 rest k.4 h.2 ahead in
      ap (front_of (readers n d) false) regroup ∙ rw (one, more) refl
  front_complete true f front rest h ahead =
      let k = h.0 in
      let anything = k.0 in
      let more = guard_complete f.1 front rest k.1 h.2 ahead in
      rw (more, anything) refl

module _ (n : TokenNames) (d : ℕ) (elements : ElementsRead n d) where
  pub body_complete : CompleteFor (body_parse (element n d))
      (Several (mark marks.Comma) (Fits n false body_level d)) ClauseEnds
  body_complete es front rest h ends =
      items_complete Expr (mark marks.Comma) (Fits n false body_level d) (element n d) ElementEnds refl elements
      (fits_some n false body_level d) (λ t ts e. element_ends (mark marks.Comma) t ts e refl refl refl)
      es front rest (length (front ++ rest)) h ends.0 ends.1 (omega (arith, length-append front rest))

module _ (n : TokenNames) (d : ℕ) (parse_exprs : ExpressionsRead n d) (elements : ElementsRead n d) where
  clause_complete : (choice : Bool) → CompleteFor (clause (readers n d) choice) (FitsClause n choice d) ClauseEnds
  clause_complete choice c front rest h ends =
      let after = h.1 ∷ (h.2 ++ rest) in
      let regroup : front ++ rest ≡ h.0 ++ after = ap (λ (l : List NumberedToken). l ++ rest) h.4 ∙ append_assoc h.0
      (h.1 ∷ h.2) rest in
      let one = front_complete n d parse_exprs choice c.0 h.0 after h.5
      (record { arrow = h.1; after = h.2 ++ rest; arrow_is = h.3; whole = refl }) in
      let arrow = after_here (mark marks.Arrow) h.1 (h.2 ++ rest) refl h.3 in
      let es = body_complete n d elements c.1 h.2 rest h.6 ends in
      ap (clause (readers n d) choice) regroup ∙ rw (one, arrow, es) refl

  -- clauses, and the `end` after them
  pub branches_complete : (choice : Bool) (bs : Branches) (front rest : List NumberedToken) (t : NumberedToken)
      → t.kind ≡ reserved words.End → DerivesBranches n choice bs front → branches_depth bs ≤ d
      → branches (readers n d) choice (front ++ t ∷ rest) ≡ Some (bs, rest)
  branches_complete choice bs front rest t e h le =
      let after = t ∷ rest in
      let cs = branches_to n choice d bs front h le in
      let listed = items_complete ParsedClause (mark marks.Semicolon) (FitsClause n choice d)
      (clause (readers n d) choice) ClauseEnds refl (clause_complete choice) (clause_some n choice d)
      (λ u ts f. clause_ends (mark marks.Semicolon) u ts f refl refl refl refl) (clause_list bs) front after
      (length (front ++ after)) cs (clause_ends (reserved words.End) t rest e refl refl refl refl)
      (after_none (mark marks.Semicolon) (reserved words.End) t rest e refl)
      (omega (arith, length-append front after)) in
      let end_word = after_here (reserved words.End) t rest refl e in
      let back = branches_back bs in
      rw (listed, end_word, back) refl

-- Reading tokens from left to right: a tree and the tokens after it, or none.
use Rattle.std.specs.Prelude.{ℕ, zero, suc, ◌-◌, pos, neg_ℤ, List, [], ◌∷◌, ◌++◌, length, Bool, true, false, Option}
use Rattle.std.specs.Prelude.{Some, None, option_and_then, ◌&&◌, nat_eq, nat_le, if◌then◌else◌, codes}
use Rattle.std.specs.Str.{bytes_eq}
use Rattle.pf_terms.specs.Atoms.{name_of}
use Rattle.pf_tokens.specs.declared.marks.TokenMark.{TokenMark}
use Rattle.pf_tokens.specs.declared.marks.TokenMark.TheVariants as marks
use Rattle.pf_tokens.specs.declared.words.Reserved.{Reserved}
use Rattle.pf_tokens.specs.declared.words.Reserved.TheVariants as words
use Rattle.pf_syntax.specs.ExprPattern as s
use Rattle.pf_syntax.specs.ExprPattern.{ExprPattern, ExprPatterns, no_expr_patterns, expr_pattern}
use Rattle.pf_syntax.specs.Expr as p
use Rattle.pf_syntax.specs.Expr.{Expr, Exprs, Condition, Branches, no_exprs, expr, no_tests, tests, no_branches, branch}
use Rattle.pf_syntax.specs.Expr.{expr_depth}
use Rattle.pf_syntax.specs.SyntaxTree.{Export, Head}
use Rattle.pf_tokens.specs.declared.limits.TheConstants.{MOST_NAME_BYTES, MOST_TREE_DEPTH, MOST_TEXT_CHARACTERS}
use Rattle.pf_tokens.specs.NumberedTokens.{NumberedKind, integer, atom, variable, anonymous, text, own_module, dot}
use Rattle.pf_tokens.specs.NumberedTokens.{mark, reserved, NumberedToken}
use Rattle.pf_syntax.specs.Forms.{may_be_there}
use Rattle.pf_syntax.specs.declared.forms.Form.TheVariants.{Deciding, Choosing, Receiving}
use Rattle.pf_grammar.specs.Grammar.{TokenNames, infix_of, level_of, left_level, right_level, infix_is_there}
use Rattle.pf_grammar.specs.Grammar.{call_is_there}
use Rattle.pf_grammar.specs.Grammar.{top, unguarded, Tree}
use Rattle.pf_grammar.specs.declared.infix.Infix.{Infix}
use Rattle.pf_grammar.specs.declared.infix.Infix.TheVariants.{Operator, AndAlso, OrElse, Send}

infixl 10 ◌>>=◌
abbrev pub ◌>>=◌ : {A B : Type 0} → Option A → (A → Option B) → Option B
o >>= f = option_and_then f o

abbrev pub Parse : Type 0 → Type 0
Parse A = List NumberedToken → Option (A × List NumberedToken)

-- ---- single tokens

-- a number for each mark, reserved word and kind of token without a value
abbrev pub mark_code : TokenMark → ℕ
mark_code marks.ExactlyEqual = 0
mark_code marks.ExactlyUnequal = 1
mark_code marks.Arrow = 2
mark_code marks.Append = 3
mark_code marks.Equal = 4
mark_code marks.Unequal = 5
mark_code marks.AtMost = 6
mark_code marks.AtLeast = 7
mark_code marks.Subtract = 8
mark_code marks.Generator = 9
mark_code marks.OpenParenthesis = 10
mark_code marks.CloseParenthesis = 11
mark_code marks.OpenBrace = 12
mark_code marks.CloseBrace = 13
mark_code marks.OpenBracket = 14
mark_code marks.CloseBracket = 15
mark_code marks.Comma = 16
mark_code marks.Semicolon = 17
mark_code marks.Bar = 18
mark_code marks.Match = 19
mark_code marks.Send = 20
mark_code marks.Plus = 21
mark_code marks.Minus = 22
mark_code marks.Times = 23
mark_code marks.Slash = 24
mark_code marks.Less = 25
mark_code marks.Greater = 26

abbrev pub reserved_code : Reserved → ℕ
reserved_code words.After = 0
reserved_code words.And = 1
reserved_code words.Andalso = 2
reserved_code words.Band = 3
reserved_code words.Begin = 4
reserved_code words.Bnot = 5
reserved_code words.Bor = 6
reserved_code words.Bsl = 7
reserved_code words.Bsr = 8
reserved_code words.Bxor = 9
reserved_code words.Case = 10
reserved_code words.Catch = 11
reserved_code words.Cond = 12
reserved_code words.Div = 13
reserved_code words.End = 14
reserved_code words.Fun = 15
reserved_code words.If = 16
reserved_code words.Let = 17
reserved_code words.Not = 18
reserved_code words.Of = 19
reserved_code words.Or = 20
reserved_code words.Orelse = 21
reserved_code words.Receive = 22
reserved_code words.Rem = 23
reserved_code words.Try = 24
reserved_code words.When = 25
reserved_code words.Xor = 26

-- the first kind of token, a mark, a reserved word or the dot, is the second
abbrev pub is : NumberedKind → NumberedKind → Bool
is (mark m) (mark k) = nat_eq (mark_code m) (mark_code k)
is (reserved r) (reserved q) = nat_eq (reserved_code r) (reserved_code q)
is dot dot = true
is _ _ = false

-- what follows a kind of token, where it comes first
abbrev pub after_kind : NumberedKind → List NumberedToken → Option (List NumberedToken)
after_kind s [] = None
after_kind s (t ∷ ts) = if is s t.kind then Some ts else None

-- the atom that a kind of token is
abbrev pub atom_in : TokenNames → NumberedKind → Option ℕ
atom_in n (atom a) = if nat_le (length (name_of n.atoms a)) MOST_NAME_BYTES then Some a else None
atom_in n own_module = Some n.own
atom_in n _ = None

-- a name and its offset
abbrev pub name_with_offset : TokenNames → List NumberedToken → Option ((ℕ × ℕ) × List NumberedToken)
name_with_offset n [] = None
name_with_offset n (t ∷ ts) = atom_in n t.kind >>= λ a. Some ((a, t.at), ts)

-- an integer that comes first
abbrev pub number_kind : NumberedKind → List NumberedToken → Option (ℕ × List NumberedToken)
number_kind (integer k) ts = Some (k, ts)
number_kind _ ts = None

abbrev pub number : Parse ℕ
number [] = None
number (t ∷ ts) = number_kind t.kind ts

-- what follows an atom of these bytes
abbrev pub follows_word : List (List ℕ) → List ℕ → NumberedKind → Bool
follows_word atoms bytes (atom a) = bytes_eq (name_of atoms a) bytes
follows_word atoms bytes _ = false

abbrev pub word_parse : List (List ℕ) → List ℕ → List NumberedToken → Option (List NumberedToken)
word_parse atoms bytes [] = None
word_parse atoms bytes (t ∷ ts) = if follows_word atoms bytes t.kind then Some ts else None

-- ---- lists with separators

abbrev pub items_step : {A : Type 0} → Parse (List A) → A → List NumberedToken → Option (List NumberedToken)
    → Option (List A × List NumberedToken)
items_step go x ts None = Some (x ∷ [], ts)
items_step go x ts (Some rest) = go rest >>= λ more. Some (x ∷ more.0, more.1)

-- items with this kind of token between them; the number bounds the turns, and as many as there are tokens are always
-- enough
unfoldable pub items : {A : Type 0} → NumberedKind → Parse A → ℕ → Parse (List A)
items s item zero ts = None
items s item (suc n) ts = item ts >>= λ x. items_step (items s item n) x.0 x.1 (after_kind s x.1)

-- items with commas between them, or none, before a kind of token that is read too
abbrev pub until_step : {A : Type 0} → NumberedKind → Parse A → List NumberedToken → Option (List NumberedToken)
    → Option (List A × List NumberedToken)
until_step last item ts (Some rest) = Some ([], rest)
until_step last item ts None = items (mark marks.Comma) item (length ts) ts >>= λ x. after_kind last x.1 >>= λ rest.
    Some (x.0, rest)

abbrev pub until : {A : Type 0} → NumberedKind → Parse A → Parse (List A)
until last item ts = until_step last item ts (after_kind last ts)

abbrev pub expr_patterns_of : List ExprPattern → ExprPatterns
expr_patterns_of [] = no_expr_patterns
expr_patterns_of (q ∷ qs) = expr_pattern q (expr_patterns_of qs)

abbrev pub exprs_of : List Expr → Exprs
exprs_of [] = no_exprs
exprs_of (e ∷ es) = expr e (exprs_of es)

-- items with commas between them, between brackets whose first one is read: with a bar and a last item after them, or
-- without
abbrev pub Listed : Type 0 → Type 0
Listed A = List A × Option A

abbrev pub tail_step : {A : Type 0} → Parse A → List A → List NumberedToken → Option (List NumberedToken)
    → Option (Listed A × List NumberedToken)
tail_step item xs ts None = after_kind (mark marks.CloseBracket) ts >>= λ rest. Some ((xs, None), rest)
tail_step item xs ts (Some rest) = item rest >>= λ y. after_kind (mark marks.CloseBracket) y.1 >>= λ after_first_form.
    Some ((xs, Some y.0), after_first_form)

abbrev pub listed_step : {A : Type 0} → Parse A → List NumberedToken → Option (List NumberedToken)
    → Option (Listed A × List NumberedToken)
listed_step item ts (Some rest) = Some (([], None), rest)
listed_step item ts None = items (mark marks.Comma) item (length ts) ts >>= λ x.
    tail_step item x.0 x.1 (after_kind (mark marks.Bar) x.1)

abbrev pub listed : {A : Type 0} → Parse A → Parse (Listed A)
listed item ts = listed_step item ts (after_kind (mark marks.CloseBracket) ts)

-- ---- patterns

abbrev pub atom_expr_pattern : Option ℕ → List NumberedToken → Option (ExprPattern × List NumberedToken)
atom_expr_pattern None ts = None
atom_expr_pattern (Some a) ts = Some (s.atom a, ts)

-- a string that is within the limits of values
abbrev pub is_short : List ℕ → Bool
is_short cs = nat_le (length cs) MOST_TEXT_CHARACTERS

-- an integer after a minus
abbrev pub negative : List NumberedToken → Option (ExprPattern × List NumberedToken)
negative ts = number ts >>= λ k. Some (s.integer (neg_ℤ (pos k.0)), k.1)

abbrev pub tuple_expr_pattern : Parse ExprPattern → List NumberedToken → Option (ExprPattern × List NumberedToken)
tuple_expr_pattern inner ts = until (mark marks.CloseBrace) inner ts >>= λ x. Some (s.tuple (expr_patterns_of x.0), x.1)

abbrev pub listed_expr_pattern : Listed ExprPattern → ExprPattern
listed_expr_pattern (qs, None) = s.list (expr_patterns_of qs)
listed_expr_pattern (qs, Some q) = s.list_on (expr_patterns_of qs) q

abbrev pub list_expr_pattern : Parse ExprPattern → List NumberedToken → Option (ExprPattern × List NumberedToken)
list_expr_pattern inner ts = listed inner ts >>= λ x. Some (listed_expr_pattern x.0, x.1)

abbrev pub marked_expr_pattern : Parse ExprPattern → TokenMark → List NumberedToken
    → Option (ExprPattern × List NumberedToken)
marked_expr_pattern inner marks.Minus ts = negative ts
marked_expr_pattern inner marks.OpenBrace ts = tuple_expr_pattern inner ts
marked_expr_pattern inner marks.OpenBracket ts = list_expr_pattern inner ts
marked_expr_pattern inner _ ts = None

abbrev pub expr_pattern_kind : TokenNames → Parse ExprPattern → NumberedKind → ℕ → List NumberedToken
    → Option (ExprPattern × List NumberedToken)
expr_pattern_kind n inner (integer k) at ts = Some (s.integer (pos k), ts)
expr_pattern_kind n inner (text cs) at ts = if is_short cs then Some (s.text cs, ts) else None
expr_pattern_kind n inner (variable x) at ts = Some (s.variable x at, ts)
expr_pattern_kind n inner anonymous at ts = Some (s.anything, ts)
expr_pattern_kind n inner (mark m) at ts = marked_expr_pattern inner m ts
expr_pattern_kind n inner kind at ts = atom_expr_pattern (atom_in n kind) ts

abbrev pub pattern_with : TokenNames → Parse ExprPattern → Parse ExprPattern
pattern_with n inner [] = None
pattern_with n inner (t ∷ ts) = expr_pattern_kind n inner t.kind t.at ts

-- a pattern no deeper than the limit
unfoldable pub pattern : TokenNames → ℕ → Parse ExprPattern
pattern n zero ts = None
pattern n (suc d) ts = pattern_with n (pattern n d) ts

-- ---- infixes and their operands

-- the infix that comes first, where it is allowed, a left operand of the level `floor` may have it, and it is of at
-- most this level; and what follows it
abbrev pub infix_fits : Bool → ℕ → ℕ → Infix → Bool
infix_fits guard floor level i = infix_is_there guard i && nat_le floor (left_level i) && nat_le (level_of i) level

abbrev pub infix_ahead : Bool → ℕ → ℕ → List NumberedToken → Option (Infix × List NumberedToken)
infix_ahead guard floor level [] = None
infix_ahead guard floor level (t ∷ ts) = infix_of t.kind >>= λ i. if infix_fits guard floor level i then
    Some (i, ts) else None

abbrev pub joined_exprs : Infix → Expr → Expr → Expr
joined_exprs (Operator o) a b = p.binary o a b
joined_exprs AndAlso a b = p.and_also a b
joined_exprs OrElse a b = p.or_else a b
joined_exprs Send a b = p.send a b

-- a tree, where it is no deeper than the limit
abbrev pub within : ℕ → Expr → List NumberedToken → Option (Expr × List NumberedToken)
within limit e ts = if nat_le (expr_depth e) limit then Some (e, ts) else None

-- After a left operand: infixes of at most this level, each with its right operand, which `deeper` reads. What has been
-- read is the left operand of the next infix; `floor` is its level. The number of tokens bounds the turns
abbrev pub more_step : (ℕ → Parse Expr) → ℕ → (ℕ → Expr → Parse Expr) → Expr → List NumberedToken
    → Option (Infix × List NumberedToken) → Option (Expr × List NumberedToken)
more_step deeper limit go left ts None = Some (left, ts)
more_step deeper limit go left ts (Some i) =
    deeper (right_level i.0) i.1 >>= λ right. within limit (joined_exprs i.0 left right.0) right.1 >>= λ x.
    go (level_of i.0) x.0 x.1

unfoldable pub more : (ℕ → Parse Expr) → Bool → ℕ → ℕ → ℕ → ℕ → Expr → Parse Expr
more deeper guard limit level zero floor left ts = Some (left, ts)
more deeper guard limit level (suc turns) floor left ts =
    more_step deeper limit (more deeper guard limit level turns) left ts (infix_ahead guard floor level ts)

-- a part, after a minus or not
abbrev pub unary_step : Parse Expr → ℕ → List NumberedToken → Option (List NumberedToken)
    → Option (Expr × List NumberedToken)
unary_step prim limit ts None = prim ts
unary_step prim limit ts (Some rest) = prim rest >>= λ x. within limit (p.negate x.0) x.1

abbrev pub unary : Parse Expr → ℕ → Parse Expr
unary prim limit ts = unary_step prim limit ts (after_kind (mark marks.Minus) ts)

-- an expression of at most this level, which is 1 at least
abbrev pub level_with : Parse Expr → (ℕ → Parse Expr) → Bool → ℕ → ℕ → Parse Expr
level_with prim deeper guard limit level ts = unary prim limit ts >>= λ x.
    more deeper guard limit level (length x.1) 1 x.0 x.1

-- ---- clauses

-- the alternatives of a guard, and the tests of each
abbrev pub guard_tests : Parse Expr → Parse (List Expr)
guard_tests test ts = items (mark marks.Comma) test (length ts) ts

abbrev pub condition_of : List (List Expr) → Condition
condition_of [] = no_tests
condition_of (es ∷ ess) = tests (exprs_of es) (condition_of ess)

abbrev pub guard : Parse Expr → Parse Condition
guard test ts = items (mark marks.Semicolon) (guard_tests test) (length ts) ts >>= λ x. Some (condition_of x.0, x.1)

abbrev pub when_step : Parse Expr → List NumberedToken → Option (List NumberedToken)
    → Option (Condition × List NumberedToken)
when_step test ts None = Some (unguarded, ts)
when_step test ts (Some rest) = guard test rest

abbrev pub when : Parse Expr → Parse Condition
when test ts = when_step test ts (after_kind (reserved words.When) ts)

-- how the parts of an expression are read: patterns, tests of guards, elements of bodies
pub record Readers : Type 0 where
  pub patterns : Parse ExprPattern
  pub tests : Parse Expr
  pub elements : Parse Expr

-- what is before the arrow of a clause: in an `if`, where the flag says so, a guard alone
abbrev pub ClauseFront : Type 0
ClauseFront = ExprPattern × Condition

abbrev pub front : Readers → Bool → Parse ClauseFront
front r false ts = r.patterns ts >>= λ q. when r.tests q.1 >>= λ c. Some ((q.0, c.0), c.1)
front r true ts = guard r.tests ts >>= λ c. Some ((s.anything, c.0), c.1)

abbrev pub body_parse : Parse Expr → Parse (List Expr)
body_parse element ts = items (mark marks.Comma) element (length ts) ts

abbrev pub ParsedClause : Type 0
ParsedClause = ClauseFront × List Expr

abbrev pub clause : Readers → Bool → Parse ParsedClause
clause r choice ts = front r choice ts >>= λ f. after_kind (mark marks.Arrow) f.1 >>= λ rest.
    body_parse r.elements rest >>= λ es. Some ((f.0, es.0), es.1)

abbrev pub branches_of : List ParsedClause → Branches
branches_of [] = no_branches
branches_of (c ∷ cs) = branch c.0.0 c.0.1 (exprs_of c.1) (branches_of cs)

-- clauses up to `end`, which is read too
abbrev pub branches : Readers → Bool → Parse Branches
branches r choice ts =
    items (mark marks.Semicolon) (clause r choice) (length ts) ts >>= λ cs.
    after_kind (reserved words.End) cs.1 >>= λ rest. Some (branches_of cs.0, rest)

-- ---- parts. Expressions in them are read by `inner`

abbrev pub call_after : TokenNames → Bool → ℕ → ℕ → List Expr → List NumberedToken → Option (Expr × List NumberedToken)
call_after n guard a at es ts = if call_is_there n guard a (length es) then
    Some (p.call a at (exprs_of es), ts) else None

abbrev pub call_parse_step : TokenNames → Bool → Parse Expr → ℕ → ℕ → List NumberedToken → Option (List NumberedToken)
    → Option (Expr × List NumberedToken)
call_parse_step n guard inner a at ts None = Some (p.atom a, ts)
call_parse_step n guard inner a at ts (Some rest) = until (mark marks.CloseParenthesis) inner rest >>= λ x.
    call_after n guard a at x.0 x.1

abbrev pub atom_or_call : TokenNames → Bool → Parse Expr → Option ℕ → ℕ → List NumberedToken
    → Option (Expr × List NumberedToken)
atom_or_call n guard inner None at ts = None
atom_or_call n guard inner (Some a) at ts = call_parse_step n guard inner a at ts
    (after_kind (mark marks.OpenParenthesis) ts)

abbrev pub parenthesized : Parse Expr → Parse Expr
parenthesized inner ts = inner ts >>= λ x. after_kind (mark marks.CloseParenthesis) x.1 >>= λ rest.
    Some (p.parentheses x.0, rest)

abbrev pub tuple : Parse Expr → Parse Expr
tuple inner ts = until (mark marks.CloseBrace) inner ts >>= λ x. Some (p.tuple (exprs_of x.0), x.1)

abbrev pub listed_expression : Listed Expr → Expr
listed_expression (es, None) = p.list (exprs_of es)
listed_expression (es, Some e) = p.list_on (exprs_of es) e

abbrev pub list : Parse Expr → Parse Expr
list inner ts = listed inner ts >>= λ x. Some (listed_expression x.0, x.1)

abbrev pub marked : Parse Expr → TokenMark → Parse Expr
marked inner marks.OpenParenthesis ts = parenthesized inner ts
marked inner marks.OpenBrace ts = tuple inner ts
marked inner marks.OpenBracket ts = list inner ts
marked inner _ ts = None

abbrev pub case_of : Readers → Parse Expr → Parse Expr
case_of r inner ts = inner ts >>= λ x. after_kind (reserved words.Of) x.1 >>= λ rest. branches r false rest >>= λ bs.
    Some (p.case x.0 bs.0, bs.1)

abbrev pub if_of : Readers → Parse Expr
if_of r ts = branches r true ts >>= λ bs. Some (p.if_expression bs.0, bs.1)

abbrev pub receive_parse : Readers → Parse Expr
receive_parse r ts = branches r false ts >>= λ bs. Some (p.receive bs.0, bs.1)

abbrev pub reserved_parse : Readers → Bool → Parse Expr → Reserved → Parse Expr
reserved_parse r guard inner words.Case ts = if may_be_there guard Deciding then case_of r inner ts else None
reserved_parse r guard inner words.If ts = if may_be_there guard Choosing then if_of r ts else None
reserved_parse r guard inner words.Receive ts = if may_be_there guard Receiving then receive_parse r ts else None
reserved_parse r guard inner _ ts = None

abbrev pub prim_kind : TokenNames → Readers → Bool → Parse Expr → NumberedKind → ℕ → Parse Expr
prim_kind n r guard inner (integer k) at ts = Some (p.integer (pos k), ts)
prim_kind n r guard inner (text cs) at ts = if is_short cs then Some (p.text cs, ts) else None
prim_kind n r guard inner (variable x) at ts = Some (p.variable x at, ts)
prim_kind n r guard inner anonymous at ts = Some (p.anonymous at, ts)
prim_kind n r guard inner (mark m) at ts = marked inner m ts
prim_kind n r guard inner (reserved w) at ts = reserved_parse r guard inner w ts
prim_kind n r guard inner kind at ts = atom_or_call n guard inner (atom_in n kind) at ts

abbrev pub prim_with : TokenNames → Readers → Bool → Parse Expr → Parse Expr
prim_with n r guard inner [] = None
prim_with n r guard inner (t ∷ ts) = prim_kind n r guard inner t.kind t.at ts

-- ---- expressions and elements, no deeper than the limit

-- a pattern before `=`, and what follows both
abbrev pub match_ahead : Parse ExprPattern → Parse ExprPattern
match_ahead pat ts = pat ts >>= λ q. after_kind (mark marks.Match) q.1 >>= λ rest. Some (q.0, rest)

abbrev pub element_step : Parse Expr → Parse Expr → ℕ → List NumberedToken → Option (ExprPattern × List NumberedToken)
    → Option (Expr × List NumberedToken)
element_step parse_expr element limit ts None = parse_expr ts
element_step parse_expr element limit ts (Some q) = element q.1 >>= λ x. within limit (p.match q.0 x.0) x.1

-- an expression, where those in it are read by `deeper`, by their levels
abbrev pub parse_expr_with : TokenNames → Readers → Bool → (ℕ → Parse Expr) → ℕ → ℕ → Parse Expr
parse_expr_with n r guard deeper = level_with (prim_with n r guard (deeper top)) deeper guard

unfoldable mutual
  -- an expression of at most this level, in a guard where the flag says so
  pub parse_expr : TokenNames → Bool → ℕ → ℕ → Parse Expr
  parse_expr n guard zero level ts = None
  parse_expr n guard (suc d) level ts =
      parse_expr_with n (record { patterns = pattern n d; tests = parse_expr n true d top; elements = element n d })
      guard (parse_expr n guard d) (suc d) level ts

  -- an element of a body
  pub element : TokenNames → ℕ → Parse Expr
  element n zero ts = None
  element n (suc d) ts =
      element_step
      (parse_expr_with n (record { patterns = pattern n d; tests = parse_expr n true d top; elements = element n d })
      false (parse_expr n false d) (suc d) top)
      (element n d) (suc d) ts (match_ahead (pattern n d) ts)

-- how the parts of an expression of this limit are read
abbrev pub readers : TokenNames → ℕ → Readers
readers n limit = record { patterns = pattern n limit; tests = parse_expr n true limit top; elements = element n limit }

abbrev pub prim : TokenNames → Bool → ℕ → Parse Expr
prim n guard limit = prim_with n (readers n (limit - 1)) guard (parse_expr n guard (limit - 1) top)

-- ---- functions

abbrev pub head_parse : TokenNames → Parse Head
head_parse n ts = do
  name ← name_with_offset n ts
  ts1 ← after_kind (mark marks.OpenParenthesis) name.1
  qs ← until (mark marks.CloseParenthesis) (pattern n MOST_TREE_DEPTH) ts1
  c ← when (parse_expr n true MOST_TREE_DEPTH top) qs.1
  ts2 ← after_kind (mark marks.Arrow) c.1
  es ← body_parse (element n MOST_TREE_DEPTH) ts2
  Some (
    record {
      name = name.0.0;
      offset = name.0.1;
      parameters = expr_patterns_of qs.0;
      condition = c.0;
      body =
          exprs_of es.0;
    },
    es.1,
  )

abbrev pub function : TokenNames → Parse (List Head)
function n ts = do
  hs ← items (mark marks.Semicolon) (head_parse n) (length ts) ts
  rest ← after_kind dot hs.1
  Some (hs.0, rest)

-- functions up to the end
unfoldable pub functions : TokenNames → ℕ → List NumberedToken → Option (List (List Head))
functions n turns [] = Some []
functions n zero (t ∷ ts) = None
functions n (suc turns) (t ∷ ts) = function n (t ∷ ts) >>= λ f. functions n turns f.1 >>= λ fs. Some (f.0 ∷ fs)

-- ---- exports

abbrev pub entry : TokenNames → Parse Export
entry n ts = do
  name ← name_with_offset n ts
  ts1 ← after_kind (mark marks.Slash) name.1
  arity ← number ts1
  Some (record { name = name.0.0; arity = arity.0; offset = name.0.1 }, arity.1)

-- what follows the minus of an export form
abbrev pub export : TokenNames → Parse (List Export)
export n ts = do
  ts1 ← word_parse n.atoms (codes "export") ts
  ts2 ← after_kind (mark marks.OpenParenthesis) ts1
  ts3 ← after_kind (mark marks.OpenBracket) ts2
  es ← until (mark marks.CloseBracket) (entry n) ts3
  ts4 ← after_kind (mark marks.CloseParenthesis) es.1
  rest ← after_kind dot ts4
  Some (es.0, rest)

abbrev pub exports_step : (List NumberedToken → Option (List Export × List NumberedToken)) → TokenNames
    → List NumberedToken → Option (List NumberedToken) → Option (List Export × List NumberedToken)
exports_step go n ts None = Some ([], ts)
exports_step go n ts (Some rest) = export n rest >>= λ es. go es.1 >>= λ more. Some (es.0 ++ more.0, more.1)

-- export forms as long as there are some; the number bounds the turns
unfoldable pub exports : TokenNames → ℕ → Parse (List Export)
exports n zero ts = Some ([], ts)
exports n (suc turns) ts = exports_step (exports n turns) n ts (after_kind (mark marks.Minus) ts)

-- ---- modules

-- the atom that comes first, of any length
abbrev pub atom_kind : NumberedKind → List NumberedToken → Option (ℕ × List NumberedToken)
atom_kind (atom a) ts = Some (a, ts)
atom_kind _ ts = None

abbrev pub any_atom : Parse ℕ
any_atom [] = None
any_atom (t ∷ ts) = atom_kind t.kind ts

-- the first form: the module's name, and what follows it
abbrev pub first_form : List (List ℕ) → Parse ℕ
first_form atoms ts = do
  ts1 ← after_kind (mark marks.Minus) ts
  ts2 ← word_parse atoms (codes "module") ts1
  ts3 ← after_kind (mark marks.OpenParenthesis) ts2
  name ← any_atom ts3
  ts4 ← after_kind (mark marks.CloseParenthesis) name.1
  rest ← after_kind dot ts4
  Some (name.0, rest)

-- what follows the first form
abbrev pub after_first_form : List (List ℕ) → ℕ → List NumberedToken → Option Tree
after_first_form atoms name ts = do
  es ← exports (record { atoms = atoms; own = name }) (length ts) ts
  fs ← functions (record { atoms = atoms; own = name }) (length es.1) es.1
  if nat_le (length (name_of atoms name)) MOST_NAME_BYTES then
      Some (record { name = name; exports = es.0; functions = fs }) else None

-- the module that the tokens are
abbrev pub tree : List (List ℕ) → List NumberedToken → Option Tree
tree atoms ts = first_form atoms ts >>= λ x. after_first_form atoms x.0 x.1

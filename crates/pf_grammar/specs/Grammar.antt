-- The grammar, as relations between a tree and the tokens that it is written with.
use Rattle.std.specs.Prelude.{◌≡◌, ◌⊎◌, ℕ, ◌-◌, ◌≤◌, Bool, true, false, IsTrue, pos, neg_ℤ, List, [], ◌∷◌, ◌++◌, length}
use Rattle.std.specs.Prelude.{flat_map, Option, Some, None, codes}
use Rattle.pf_terms.specs.Atoms.{name_of}
use Rattle.pf_tokens.specs.declared.marks.TokenMark.TheVariants as marks
use Rattle.pf_tokens.specs.declared.words.Reserved.TheVariants as words
use Rattle.pf_syntax.specs.declared.operator.Builtin.{Builtin}
use Rattle.pf_syntax.specs.declared.operator.Operator.{Operator}
use Rattle.pf_syntax.specs.declared.operator.Operator.TheVariants.{Plus, Minus, Times, Quotient, Remainder, Append}
use Rattle.pf_syntax.specs.declared.operator.Operator.TheVariants.{Equal, Unequal, Less, AtMost, Greater, AtLeast}
use Rattle.pf_syntax.specs.ExprPattern as s
use Rattle.pf_syntax.specs.ExprPattern.{ExprPattern, ExprPatterns, no_expr_patterns, expr_pattern, expr_patterns_depth}
use Rattle.pf_syntax.specs.Expr as p
use Rattle.pf_syntax.specs.Expr.{Expr, Exprs, Condition, Branches, no_exprs, expr, no_tests, tests, no_branches, branch}
use Rattle.pf_syntax.specs.Expr.{exprs_depth, condition_depth}
use Rattle.pf_syntax.specs.SyntaxTree.{Export, Head}
use Rattle.pf_syntax.specs.Naming.{arity_of}
use Rattle.pf_syntax.specs.Forms.{builtin_named, may_be_there}
use Rattle.pf_syntax.specs.declared.forms.Form.TheVariants.{Appending, Deciding, Choosing, Receiving, Sending, Calling}
pub use Rattle.pf_syntax.specs.ExprModule.{Tree, tree_of, unguarded}
use Rattle.pf_tokens.specs.declared.limits.TheConstants.{MOST_NAME_BYTES, MOST_TREE_DEPTH, MOST_TEXT_CHARACTERS}
use Rattle.pf_tokens.specs.NumberedTokens.{NumberedKind, integer, atom, variable, anonymous, text, own_module, dot}
use Rattle.pf_tokens.specs.NumberedTokens.{mark, reserved, NumberedToken}
use Rattle.pf_grammar.specs.declared.infix.Infix.{Infix}
use Rattle.pf_grammar.specs.declared.infix.Infix.TheVariants as infixes
use Rattle.pf_grammar.specs.declared.infix.Grouping.{Grouping}
use Rattle.pf_grammar.specs.declared.infix.Grouping.TheVariants.{Leftwards, Rightwards, Alone}
use Rattle.pf_grammar.specs.declared.infix.Binding.{Binding}

-- what numbers in tokens stand for: the names of atoms, and the number of the module's own name
pub record TokenNames : Type 0 where
  pub atoms : List (List ℕ)
  pub own : ℕ

-- ---- how tokens go together

-- the tokens are one, of this kind of token
abbrev pub IsOne : NumberedKind → List NumberedToken → Type 0
IsOne s ts = (t : NumberedToken) × (t.kind ≡ s) × (ts ≡ t ∷ [])

-- the tokens are one of this kind of token and a part after it
abbrev pub After : NumberedKind → (List NumberedToken → Type 0) → List NumberedToken → Type 0
After s P ts = (t : NumberedToken) × (more : List NumberedToken) × (t.kind ≡ s) × (ts ≡ t ∷ more) × P more

-- the tokens are a part and one of this kind of token after it
abbrev pub Before : NumberedKind → (List NumberedToken → Type 0) → List NumberedToken → Type 0
Before s P ts = (front : List NumberedToken) × (t : NumberedToken) × (t.kind ≡ s) × (ts ≡ front ++ t ∷ []) × P front

-- the tokens are two parts
abbrev pub Together : (List NumberedToken → Type 0) → (List NumberedToken → Type 0) → List NumberedToken → Type 0
Together P Q ts = (xs : List NumberedToken) × (ys : List NumberedToken) × (ts ≡ xs ++ ys) × P xs × Q ys

-- the tokens are a part, one of this kind of token, and a part
abbrev pub Apart : NumberedKind → (List NumberedToken → Type 0) → (List NumberedToken → Type 0)
    → List NumberedToken → Type 0
Apart s P Q ts = (xs : List NumberedToken) × (t : NumberedToken) × (ys : List NumberedToken) × (t.kind ≡ s)
    × (ts ≡ xs ++ t ∷ ys) × P xs × Q ys

-- the tokens are a part between two of these kinds of tokens
abbrev pub Between : NumberedKind → NumberedKind → (List NumberedToken → Type 0) → List NumberedToken → Type 0
Between first last P ts = After first (Before last P) ts

-- ---- names

-- the token is this atom, whose name isn't too long, or `?MODULE`
abbrev pub IsAtom : TokenNames → ℕ → NumberedToken → Type 0
IsAtom n a t = ((t.kind ≡ atom a) × (length (name_of n.atoms a) ≤ MOST_NAME_BYTES))
    ⊎ ((t.kind ≡ own_module) × (a ≡ n.own))

-- the token is an atom of these bytes
abbrev pub IsWord : TokenNames → List ℕ → NumberedToken → Type 0
IsWord n bytes t = (a : ℕ) × (t.kind ≡ atom a) × (name_of n.atoms a ≡ bytes)

-- ---- operators

-- the infix that a token is
abbrev pub infix_of : NumberedKind → Option Infix
infix_of (mark marks.Times) = Some (infixes.Operator Times)
infix_of (reserved words.Div) = Some (infixes.Operator Quotient)
infix_of (reserved words.Rem) = Some (infixes.Operator Remainder)
infix_of (mark marks.Plus) = Some (infixes.Operator Plus)
infix_of (mark marks.Minus) = Some (infixes.Operator Minus)
infix_of (mark marks.Append) = Some (infixes.Operator Append)
infix_of (mark marks.Equal) = Some (infixes.Operator Equal)
infix_of (mark marks.ExactlyEqual) = Some (infixes.Operator Equal)
infix_of (mark marks.Unequal) = Some (infixes.Operator Unequal)
infix_of (mark marks.ExactlyUnequal) = Some (infixes.Operator Unequal)
infix_of (mark marks.Less) = Some (infixes.Operator Less)
infix_of (mark marks.AtMost) = Some (infixes.Operator AtMost)
infix_of (mark marks.Greater) = Some (infixes.Operator Greater)
infix_of (mark marks.AtLeast) = Some (infixes.Operator AtLeast)
infix_of (reserved words.Andalso) = Some infixes.AndAlso
infix_of (reserved words.Orelse) = Some infixes.OrElse
infix_of (mark marks.Send) = Some infixes.Send
infix_of _ = None

abbrev pub binding_at : ℕ → Grouping → Binding
binding_at level grouping = record { level = level; grouping = grouping }

abbrev pub binding_of : Infix → Binding
binding_of (infixes.Operator Times) = binding_at 2 Leftwards
binding_of (infixes.Operator Quotient) = binding_at 2 Leftwards
binding_of (infixes.Operator Remainder) = binding_at 2 Leftwards
binding_of (infixes.Operator Plus) = binding_at 3 Leftwards
binding_of (infixes.Operator Minus) = binding_at 3 Leftwards
binding_of (infixes.Operator Append) = binding_at 4 Rightwards
binding_of (infixes.Operator Equal) = binding_at 5 Alone
binding_of (infixes.Operator Unequal) = binding_at 5 Alone
binding_of (infixes.Operator Less) = binding_at 5 Alone
binding_of (infixes.Operator AtMost) = binding_at 5 Alone
binding_of (infixes.Operator Greater) = binding_at 5 Alone
binding_of (infixes.Operator AtLeast) = binding_at 5 Alone
binding_of infixes.AndAlso = binding_at 6 Rightwards
binding_of infixes.OrElse = binding_at 7 Rightwards
binding_of infixes.Send = binding_at 8 Rightwards

abbrev pub level_of : Infix → ℕ
level_of i = (binding_of i).level

-- the level of a whole expression
abbrev pub top : ℕ
top = 8

-- the level of an element of a body, which alone may be a match
abbrev pub element : ℕ
element = 9

-- the greatest level of the left operand, and of the right one: the infix's own on the side to which it groups
abbrev pub greatest_left : Grouping → ℕ → ℕ
greatest_left Leftwards level = level
greatest_left _ level = level - 1

abbrev pub greatest_right : Grouping → ℕ → ℕ
greatest_right Rightwards level = level
greatest_right _ level = level - 1

abbrev pub left_level : Infix → ℕ
left_level i = greatest_left (binding_of i).grouping (level_of i)

abbrev pub right_level : Infix → ℕ
right_level i = greatest_right (binding_of i).grouping (level_of i)

-- whether the infix is allowed, in a guard where the flag says so
abbrev pub infix_is_there : Bool → Infix → Bool
infix_is_there guard (infixes.Operator Append) = may_be_there guard Appending
infix_is_there guard infixes.Send = may_be_there guard Sending
infix_is_there guard _ = true

-- the tokens are two operands with the infix between them
abbrev pub Operands : (ℕ → List NumberedToken → Type 0) → (ℕ → List NumberedToken → Type 0) → Infix
    → List NumberedToken → Type 0
Operands P Q i ts = (xs : List NumberedToken) × (t : NumberedToken) × (ys : List NumberedToken)
    × (infix_of t.kind ≡ Some i) × (ts ≡ xs ++ t ∷ ys) × P (left_level i) xs × Q (right_level i) ys

-- the same, where the infix is allowed and an expression of this level may have it
abbrev pub Joined : Bool → Infix → ℕ → (ℕ → List NumberedToken → Type 0) → (ℕ → List NumberedToken → Type 0)
    → List NumberedToken → Type 0
Joined guard i level P Q ts = (level_of i ≤ level) × IsTrue (infix_is_there guard i) × Operands P Q i ts

-- ---- parts that patterns and expressions share

-- the tokens are a string that is within the limits of values
abbrev pub IsText : List ℕ → List NumberedToken → Type 0
IsText cs ts = (length cs ≤ MOST_TEXT_CHARACTERS) × IsOne (text cs) ts

abbrev pub Braced : (List NumberedToken → Type 0) → List NumberedToken → Type 0
Braced = Between (mark marks.OpenBrace) (mark marks.CloseBrace)

abbrev pub Bracketed : (List NumberedToken → Type 0) → List NumberedToken → Type 0
Bracketed = Between (mark marks.OpenBracket) (mark marks.CloseBracket)

abbrev pub Parenthesized : (List NumberedToken → Type 0) → List NumberedToken → Type 0
Parenthesized = Between (mark marks.OpenParenthesis) (mark marks.CloseParenthesis)

-- there is one at least
abbrev pub HasPattern : ExprPatterns → Type 0
HasPattern no_expr_patterns = ⊥
HasPattern (expr_pattern q qs) = Unit {0}

abbrev pub HasExpression : Exprs → Type 0
HasExpression no_exprs = ⊥
HasExpression (expr e es) = Unit {0}

-- ---- patterns

abbrev mutual
  pub DerivesExprPattern : TokenNames → ExprPattern → List NumberedToken → Type 0
  DerivesExprPattern n (s.integer z) ts = (k : ℕ)
      × (((z ≡ pos k) × IsOne (integer k) ts)
      ⊎ ((z ≡ neg_ℤ (pos k)) × After (mark marks.Minus) (IsOne (integer k)) ts))
  DerivesExprPattern n (s.atom a) ts = (t : NumberedToken) × IsAtom n a t × (ts ≡ t ∷ [])
  DerivesExprPattern n (s.text cs) ts = IsText cs ts
  DerivesExprPattern n (s.variable x at) ts = (t : NumberedToken) × (t.kind ≡ variable x) × (t.at ≡ at) × (ts ≡ t ∷ [])
  DerivesExprPattern n s.anything ts = IsOne anonymous ts
  DerivesExprPattern n (s.tuple qs) ts = Braced (DerivesExprPatterns n qs) ts
  DerivesExprPattern n (s.list qs) ts = Bracketed (DerivesExprPatterns n qs) ts
  DerivesExprPattern n (s.list_on qs q) ts = HasPattern qs
      × Bracketed (Apart (mark marks.Bar) (DerivesExprPatterns n qs) (DerivesExprPattern n q)) ts

  -- patterns with commas between them, or none
  pub DerivesExprPatterns : TokenNames → ExprPatterns → List NumberedToken → Type 0
  DerivesExprPatterns n no_expr_patterns ts = ts ≡ []
  DerivesExprPatterns n (expr_pattern q no_expr_patterns) ts = DerivesExprPattern n q ts
  DerivesExprPatterns n (expr_pattern q (expr_pattern r qs)) ts =
      Apart (mark marks.Comma) (DerivesExprPattern n q) (DerivesExprPatterns n (expr_pattern r qs)) ts

-- ---- expressions

-- whether a call of this name with this number of arguments is allowed: in a guard, of a pure built-in function alone
abbrev pub named_is_there : Option Builtin → Bool
named_is_there None = false
named_is_there (Some b) = may_be_there true (Calling b)

abbrev pub call_is_there : TokenNames → Bool → ℕ → ℕ → Bool
call_is_there n false f arity = true
call_is_there n true f arity = named_is_there (builtin_named (name_of n.atoms f) arity)

-- `when` and the guard, or neither
abbrev pub Guarded : Condition → (List NumberedToken → Type 0) → List NumberedToken → Type 0
Guarded c G ts = ((c ≡ unguarded) × (ts ≡ [])) ⊎ After (reserved words.When) G ts

-- what is before the arrow of a clause: its pattern, with its guard or none; in an `if`, where the flag says so, its
-- guard alone
abbrev pub FrontIs : Bool → ExprPattern → Condition → (List NumberedToken → Type 0) → (List NumberedToken → Type 0)
    → List NumberedToken → Type 0
FrontIs false q c P G ts = Together P (Guarded c G) ts
FrontIs true q c P G ts = (q ≡ s.anything) × G ts

abbrev mutual
  -- an expression of at most this level, in a guard where the flag says so
  pub Derives : TokenNames → Bool → Expr → ℕ → List NumberedToken → Type 0
  Derives n g (p.integer z) level ts = (k : ℕ) × (z ≡ pos k) × IsOne (integer k) ts
  Derives n g (p.atom a) level ts = (t : NumberedToken) × IsAtom n a t × (ts ≡ t ∷ [])
  Derives n g (p.text cs) level ts = IsText cs ts
  Derives n g (p.variable x at) level ts = (t : NumberedToken) × (t.kind ≡ variable x) × (t.at ≡ at) × (ts ≡ t ∷ [])
  Derives n g (p.anonymous at) level ts = (t : NumberedToken) × (t.kind ≡ anonymous) × (t.at ≡ at) × (ts ≡ t ∷ [])
  Derives n g (p.parentheses e) level ts = Parenthesized (Derives n g e top) ts
  Derives n g (p.tuple es) level ts = Braced (DerivesAll n g es) ts
  Derives n g (p.list es) level ts = Bracketed (DerivesAll n g es) ts
  Derives n g (p.list_on es e) level ts = HasExpression es
      × Bracketed (Apart (mark marks.Bar) (DerivesAll n g es) (Derives n g e top)) ts
  Derives n g (p.call f at es) level ts =
      (t : NumberedToken) × (more : List NumberedToken) × IsAtom n f t × (t.at ≡ at) × (ts ≡ t ∷ more)
      × IsTrue (call_is_there n g f (arity_of es)) × Parenthesized (DerivesAll n g es) more
  Derives n g (p.negate e) level ts = (1 ≤ level) × After (mark marks.Minus) (Derives n g e 0) ts
  Derives n g (p.binary o a b) level ts = Joined g (infixes.Operator o) level (Derives n g a) (Derives n g b) ts
  Derives n g (p.and_also a b) level ts = Joined g infixes.AndAlso level (Derives n g a) (Derives n g b) ts
  Derives n g (p.or_else a b) level ts = Joined g infixes.OrElse level (Derives n g a) (Derives n g b) ts
  Derives n g (p.send a b) level ts = Joined g infixes.Send level (Derives n g a) (Derives n g b) ts
  Derives n g (p.match q e) level ts = (element ≤ level) × Apart (mark marks.Match) (DerivesExprPattern n q)
      (Derives n g e element) ts
  Derives n g (p.case e bs) level ts =
      IsTrue (may_be_there g Deciding)
      × Between (reserved words.Case) (reserved words.End)
      (Apart (reserved words.Of) (Derives n g e top) (DerivesBranches n false bs)) ts
  Derives n g (p.if_expression bs) level ts =
      IsTrue (may_be_there g Choosing) × Between (reserved words.If) (reserved words.End) (DerivesBranches n true bs) ts
  Derives n g (p.receive bs) level ts =
      IsTrue (may_be_there g Receiving) × Between (reserved words.Receive) (reserved words.End)
      (DerivesBranches n false bs) ts

  -- expressions with commas between them, or none
  pub DerivesAll : TokenNames → Bool → Exprs → List NumberedToken → Type 0
  DerivesAll n g no_exprs ts = ts ≡ []
  DerivesAll n g (expr e no_exprs) ts = Derives n g e top ts
  DerivesAll n g (expr e (expr f es)) ts =
      Apart (mark marks.Comma) (Derives n g e top) (DerivesAll n g (expr f es)) ts

  -- a body: elements with commas between them
  pub DerivesBody : TokenNames → Exprs → List NumberedToken → Type 0
  DerivesBody n no_exprs ts = ⊥
  DerivesBody n (expr e no_exprs) ts = Derives n false e element ts
  DerivesBody n (expr e (expr f es)) ts =
      Apart (mark marks.Comma) (Derives n false e element) (DerivesBody n (expr f es)) ts

  -- a guard: alternatives with semicolons between them, each tests with commas between them
  pub DerivesGuard : TokenNames → Condition → List NumberedToken → Type 0
  DerivesGuard n no_tests ts = ⊥
  DerivesGuard n (tests es no_tests) ts = HasExpression es × DerivesAll n true es ts
  DerivesGuard n (tests es (tests fs c)) ts = HasExpression es × Apart (mark marks.Semicolon) (DerivesAll n true es)
      (DerivesGuard n (tests fs c)) ts

  -- clauses with semicolons between them
  pub DerivesBranches : TokenNames → Bool → Branches → List NumberedToken → Type 0
  DerivesBranches n choice no_branches ts = ⊥
  DerivesBranches n choice (branch q c es no_branches) ts =
      Apart (mark marks.Arrow) (FrontIs choice q c (DerivesExprPattern n q) (DerivesGuard n c)) (DerivesBody n es) ts
  DerivesBranches n choice (branch q c es (branch r d fs bs)) ts =
      Apart (mark marks.Semicolon) (Apart (mark marks.Arrow)
      (FrontIs choice q c (DerivesExprPattern n q) (DerivesGuard n c)) (DerivesBody n es))
      (DerivesBranches n choice (branch r d fs bs)) ts

-- ---- functions

-- a clause of a function: its name, patterns between parentheses, a guard or none, an arrow and a body; no pattern,
-- test or element is too deep
pub record DerivesHead (n : TokenNames) (h : Head) (ts : List NumberedToken) : Type 0 where
  pub name : NumberedToken
  pub more : List NumberedToken
  pub whole : ts ≡ name ∷ more
  pub name_is : IsAtom n h.name name
  pub offset_is : name.at ≡ h.offset
  pub parts : Apart (mark marks.Arrow) (Together (Parenthesized (DerivesExprPatterns n h.parameters))
      (Guarded h.condition (DerivesGuard n h.condition))) (DerivesBody n h.body) more
  pub shallow_parameters : expr_patterns_depth h.parameters ≤ MOST_TREE_DEPTH
  pub shallow_condition : condition_depth h.condition ≤ MOST_TREE_DEPTH
  pub shallow_body : exprs_depth h.body ≤ MOST_TREE_DEPTH

-- clauses with semicolons between them
abbrev pub DerivesHeads : TokenNames → List Head → List NumberedToken → Type 0
DerivesHeads n [] ts = ⊥
DerivesHeads n (h ∷ []) ts = DerivesHead n h ts
DerivesHeads n (h ∷ k ∷ hs) ts = Apart (mark marks.Semicolon) (DerivesHead n h) (DerivesHeads n (k ∷ hs)) ts

-- a function is clauses and a dot
abbrev pub DerivesFunction : TokenNames → List Head → List NumberedToken → Type 0
DerivesFunction n hs ts = Before dot (DerivesHeads n hs) ts

-- functions, one after the other
abbrev pub DerivesFunctions : TokenNames → List (List Head) → List NumberedToken → Type 0
DerivesFunctions n [] ts = ts ≡ []
DerivesFunctions n (f ∷ fs) ts = Together (DerivesFunction n f) (DerivesFunctions n fs) ts

-- ---- exports

-- an entry: a name, a slash and a number of arguments
pub record DerivesEntry (n : TokenNames) (e : Export) (ts : List NumberedToken) : Type 0 where
  pub name : NumberedToken
  pub slash : NumberedToken
  pub arity : NumberedToken
  pub whole : ts ≡ name ∷ slash ∷ arity ∷ []
  pub name_is : IsAtom n e.name name
  pub offset_is : name.at ≡ e.offset
  pub slash_is : slash.kind ≡ mark marks.Slash
  pub arity_is : arity.kind ≡ integer e.arity

-- entries with commas between them, or none
abbrev pub DerivesEntries : TokenNames → List Export → List NumberedToken → Type 0
DerivesEntries n [] ts = ts ≡ []
DerivesEntries n (e ∷ []) ts = DerivesEntry n e ts
DerivesEntries n (e ∷ f ∷ es) ts = Apart (mark marks.Comma) (DerivesEntry n e) (DerivesEntries n (f ∷ es)) ts

-- `-export([ entries ]).`
pub record DerivesExport (n : TokenNames) (es : List Export) (ts : List NumberedToken) : Type 0 where
  pub minus : NumberedToken
  pub word : NumberedToken
  pub more : List NumberedToken
  pub last : NumberedToken
  pub whole : ts ≡ minus ∷ word ∷ (more ++ last ∷ [])
  pub minus_is : minus.kind ≡ mark marks.Minus
  pub word_is : IsWord n (codes "export") word
  pub last_is : last.kind ≡ dot
  pub entries : Between (mark marks.OpenParenthesis) (mark marks.CloseParenthesis)
      (Between (mark marks.OpenBracket) (mark marks.CloseBracket) (DerivesEntries n es)) more

-- export forms, one after the other, each with its entries
abbrev pub DerivesExports : TokenNames → List (List Export) → List NumberedToken → Type 0
DerivesExports n [] ts = ts ≡ []
DerivesExports n (es ∷ forms) ts = Together (DerivesExport n es) (DerivesExports n forms) ts

-- ---- modules

-- the first form, `-module(Atom).`, with what follows it
pub record BeginsModule (atoms : List (List ℕ)) (name : ℕ) (rest ts : List NumberedToken) : Type 0 where
  pub minus : NumberedToken
  pub word : NumberedToken
  pub opens : NumberedToken
  pub atom_token : NumberedToken
  pub closes : NumberedToken
  pub last : NumberedToken
  pub whole : ts ≡ minus ∷ word ∷ opens ∷ atom_token ∷ closes ∷ last ∷ rest
  pub minus_is : minus.kind ≡ mark marks.Minus
  pub word_is : IsWord (record { atoms = atoms; own = name }) (codes "module") word
  pub opens_is : opens.kind ≡ mark marks.OpenParenthesis
  pub name_is : atom_token.kind ≡ atom name
  pub closes_is : closes.kind ≡ mark marks.CloseParenthesis
  pub last_is : last.kind ≡ dot

-- the tokens begin with a first form
abbrev pub HasHead : List (List ℕ) → List NumberedToken → Type 0
HasHead atoms ts = (name : ℕ) × (rest : List NumberedToken) × BeginsModule atoms name rest ts

-- a module is its first form, its exports and its functions; its name isn't too long
pub record DerivesTree (atoms : List (List ℕ)) (m : Tree) (ts : List NumberedToken) : Type 0 where
  pub rest : List NumberedToken
  pub begins : BeginsModule atoms m.name rest ts
  pub short : length (name_of atoms m.name) ≤ MOST_NAME_BYTES
  pub forms : List (List Export)
  pub all_exports : flat_map (λ es. es) forms ≡ m.exports
  pub parts : Together (DerivesExports (record { atoms = atoms; own = m.name }) forms)
      (DerivesFunctions (record { atoms = atoms; own = m.name }) m.functions) rest

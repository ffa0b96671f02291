-- Single tokens: what a reader that answered has seen, and what it answers where there is such a token.
use Rattle.std.proofs.Common.{◌≡◌, ℕ, suc, ◌+◌, ◌≤◌, ◌<◌, List, [], ◌∷◌, length, Bool, true, false, cond, ◌&&◌, Option}
use Rattle.std.proofs.Common.{Some, None, refl, sym, ap, subst, ◌∙◌, arith, inl, inr}
use Rattle.std.specs.Prelude.{nat_eq, nat_le, slice_index_or, IsTrue}
use Rattle.std.specs.Str.{bytes_eq}
use Rattle.std.proofs.lemmas.Bool.{eqb-true, leb-true, le-leb, lt-leb}
use Rattle.std.proofs.lemmas.Slice.Eq.{bytes_eq-Decides}
use Rattle.pf_terms.specs.Atoms.{name_of}
use Rattle.pf_tokens.specs.declared.marks.TokenMark.{TokenMark}
use Rattle.pf_tokens.specs.declared.marks.TokenMark.TheVariants as marks
use Rattle.pf_tokens.specs.declared.words.Reserved.{Reserved}
use Rattle.pf_tokens.specs.declared.words.Reserved.TheVariants as words
use Rattle.pf_syntax.specs.declared.operator.Operator.TheVariants.{Plus, Minus, Times, Quotient, Remainder, Append}
use Rattle.pf_syntax.specs.declared.operator.Operator.TheVariants.{Equal, Unequal, Less, AtMost, Greater, AtLeast}
use Rattle.pf_tokens.specs.declared.limits.TheConstants.{MOST_NAME_BYTES, MOST_TEXT_CHARACTERS}
use Rattle.pf_tokens.specs.NumberedTokens.{NumberedKind, integer, atom, own_module, dot, mark, reserved, NumberedToken}
use Rattle.pf_grammar.specs.Grammar.{TokenNames, IsAtom, IsWord, infix_of, binding_of, level_of, top, greatest_left}
use Rattle.pf_grammar.specs.Grammar.{greatest_right, left_level, right_level, infix_is_there}
use Rattle.pf_grammar.specs.declared.infix.Grouping.{Grouping}
use Rattle.pf_grammar.specs.declared.infix.Grouping.TheVariants.{Leftwards, Rightwards, Alone}
use Rattle.pf_grammar.specs.declared.infix.Infix.{Infix}
use Rattle.pf_grammar.specs.declared.infix.Infix.TheVariants.{Operator, AndAlso, OrElse, Send}
use Rattle.pf_grammar.specs.Parse.{◌>>=◌, mark_code, reserved_code, is, after_kind, atom_in, name_with_offset}
use Rattle.pf_grammar.specs.Parse.{number_kind, number, follows_word, word_parse, is_short, infix_fits, infix_ahead}
use Rattle.pf_errors.proofs.Bools.{both}

-- ---- steps that did not fail

pub bind_some : {A B : Type 0} (o : Option A) (f : A → Option B) (y : B) → (o >>= f) ≡ Some y
    → (x : A) × (o ≡ Some x) × (f x ≡ Some y)
bind_some None f y e = absurd cc
bind_some (Some x) f y e = (x, refl, e)

pub cond_some : {A : Type 0} (b : Bool) (o : Option A) (y : A) → cond b o None ≡ Some y → (b ≡ true) × (o ≡ Some y)
cond_some true o y e = (refl, e)
cond_some false o y e = absurd cc

pub some_is : {A : Type 0} (x y : A) → Some x ≡ Some y → x ≡ y
some_is x y e = cc

-- ---- marks and reserved words with one number are one

all_marks : List TokenMark
all_marks =
    marks.ExactlyEqual ∷ marks.ExactlyUnequal ∷ marks.Arrow ∷ marks.Append ∷ marks.Equal ∷ marks.Unequal ∷ marks.AtMost
    ∷ marks.AtLeast ∷ marks.Subtract ∷ marks.Generator ∷ marks.OpenParenthesis ∷ marks.CloseParenthesis
    ∷ marks.OpenBrace ∷ marks.CloseBrace
    ∷ marks.OpenBracket ∷ marks.CloseBracket ∷ marks.Comma ∷ marks.Semicolon ∷ marks.Bar ∷ marks.Match ∷ marks.Send
    ∷ marks.Plus ∷ marks.Minus ∷ marks.Times ∷ marks.Slash ∷ marks.Less ∷ marks.Greater ∷ []

mark_back : ℕ → TokenMark
mark_back n = slice_index_or all_marks n marks.Greater

mark_back_code : (m : TokenMark) → mark_back (mark_code m) ≡ m
unfolding mark_back all_marks
mark_back_code marks.ExactlyEqual = refl
mark_back_code marks.ExactlyUnequal = refl
mark_back_code marks.Arrow = refl
mark_back_code marks.Append = refl
mark_back_code marks.Equal = refl
mark_back_code marks.Unequal = refl
mark_back_code marks.AtMost = refl
mark_back_code marks.AtLeast = refl
mark_back_code marks.Subtract = refl
mark_back_code marks.Generator = refl
mark_back_code marks.OpenParenthesis = refl
mark_back_code marks.CloseParenthesis = refl
mark_back_code marks.OpenBrace = refl
mark_back_code marks.CloseBrace = refl
mark_back_code marks.OpenBracket = refl
mark_back_code marks.CloseBracket = refl
mark_back_code marks.Comma = refl
mark_back_code marks.Semicolon = refl
mark_back_code marks.Bar = refl
mark_back_code marks.Match = refl
mark_back_code marks.Send = refl
mark_back_code marks.Plus = refl
mark_back_code marks.Minus = refl
mark_back_code marks.Times = refl
mark_back_code marks.Slash = refl
mark_back_code marks.Less = refl
mark_back_code marks.Greater = refl

pub same_mark : (m k : TokenMark) → nat_eq (mark_code m) (mark_code k) ≡ true → m ≡ k
same_mark m k e = sym (mark_back_code m) ∙ ap mark_back (eqb-true _ _ e) ∙ mark_back_code k

all_words : List Reserved
all_words =
    words.After ∷ words.And ∷ words.Andalso ∷ words.Band ∷ words.Begin ∷ words.Bnot ∷ words.Bor
    ∷ words.Bsl ∷ words.Bsr ∷ words.Bxor ∷ words.Case ∷ words.Catch ∷ words.Cond ∷ words.Div
    ∷ words.End ∷ words.Fun ∷ words.If ∷ words.Let ∷ words.Not ∷ words.Of ∷ words.Or
    ∷ words.Orelse ∷ words.Receive ∷ words.Rem ∷ words.Try ∷ words.When ∷ words.Xor ∷ []

word_back : ℕ → Reserved
word_back n = slice_index_or all_words n words.Xor

word_back_code : (r : Reserved) → word_back (reserved_code r) ≡ r
unfolding word_back all_words
word_back_code words.After = refl
word_back_code words.And = refl
word_back_code words.Andalso = refl
word_back_code words.Band = refl
word_back_code words.Begin = refl
word_back_code words.Bnot = refl
word_back_code words.Bor = refl
word_back_code words.Bsl = refl
word_back_code words.Bsr = refl
word_back_code words.Bxor = refl
word_back_code words.Case = refl
word_back_code words.Catch = refl
word_back_code words.Cond = refl
word_back_code words.Div = refl
word_back_code words.End = refl
word_back_code words.Fun = refl
word_back_code words.If = refl
word_back_code words.Let = refl
word_back_code words.Not = refl
word_back_code words.Of = refl
word_back_code words.Or = refl
word_back_code words.Orelse = refl
word_back_code words.Receive = refl
word_back_code words.Rem = refl
word_back_code words.Try = refl
word_back_code words.When = refl
word_back_code words.Xor = refl

pub same_word : (r q : Reserved) → nat_eq (reserved_code r) (reserved_code q) ≡ true → r ≡ q
same_word r q e = sym (word_back_code r) ∙ ap word_back (eqb-true _ _ e) ∙ word_back_code q

pub is_same : (s t : NumberedKind) → is s t ≡ true → t ≡ s
is_same (mark m) (mark k) e = ap mark (sym (same_mark m k e))
is_same (reserved r) (reserved q) e = ap reserved (sym (same_word r q e))
is_same dot dot e = refl
is_same _ _ e = absurd cc

-- ---- a kind of token that comes first

-- the kind of token separates or closes: a mark, a reserved word or the dot
abbrev pub Plain : NumberedKind → Type 0
Plain s = is s s ≡ true

pub after_some : (s : NumberedKind) (ts rest : List NumberedToken) → after_kind s ts ≡ Some rest
    → (t : NumberedToken) × (t.kind ≡ s) × (ts ≡ t ∷ rest)
after_some s [] rest e = absurd cc
after_some s (t ∷ ts) rest e =
    let c = cond_some (is s t.kind) (Some ts) rest e in
    let same : ts ≡ rest = some_is ts rest c.1 in
    (t, is_same s t.kind c.0, ap (λ (l : List NumberedToken). t ∷ l) same)

pub after_here : (s : NumberedKind) (t : NumberedToken) (ts : List NumberedToken) → Plain s → t.kind ≡ s
    → after_kind s (t ∷ ts) ≡ Some ts
after_here s t ts h e = rw (e, h) refl

pub after_other : (s : NumberedKind) (t : NumberedToken) (ts : List NumberedToken) → is s t.kind ≡ false
    → after_kind s (t ∷ ts) ≡ None
after_other s t ts e = rw e refl

-- ---- atoms

pub atom_in_some : (n : TokenNames) (s : NumberedKind) (t : NumberedToken) (a : ℕ) → t.kind ≡ s
    → atom_in n s ≡ Some a → IsAtom n a t
atom_in_some n (atom b) t a e h =
    let c = cond_some (nat_le (length (name_of n.atoms b)) MOST_NAME_BYTES) (Some b) a h in
    let same : b ≡ a = some_is b a c.1 in
    inl (e ∙ ap atom same, rw (← same) (leb-true _ _ c.0))
atom_in_some n own_module t a e h = inr (e, sym (some_is n.own a h))
atom_in_some n _ t a e h = absurd cc

pub atom_in_is : (n : TokenNames) (a : ℕ) (t : NumberedToken) → IsAtom n a t → atom_in n t.kind ≡ Some a
atom_in_is n a t (inl h) = let e = h.0 in let short = le-leb _ _ h.1 in rw (e, short) refl
atom_in_is n a t (inr h) = let e = h.0 in let own = h.1 in rw (e, own) refl

-- an atom is no mark
pub atom_no_mark : (n : TokenNames) (a : ℕ) (t : NumberedToken) (m : TokenMark) → IsAtom n a t
    → is (mark m) t.kind ≡ false
atom_no_mark n a t m (inl h) = let e = h.0 in rw e refl
atom_no_mark n a t m (inr h) = let e = h.0 in rw e refl

-- a name and its offset
pub named_some : (n : TokenNames) (ts : List NumberedToken) (x : (ℕ × ℕ) × List NumberedToken)
    → name_with_offset n ts ≡ Some x → (t : NumberedToken) × IsAtom n x.0.0 t × (t.at ≡ x.0.1) × (ts ≡ t ∷ x.1)
named_some n [] x e = absurd cc
named_some n (t ∷ ts) x e =
    let b = bind_some (atom_in n t.kind) (λ a. Some ((a, t.at), ts)) x e in
    let same = some_is ((b.0, t.at), ts) x b.2 in (
      t,
      atom_in_some n t.kind t x.0.0 refl (b.1 ∙ ap (λ (y : (ℕ × ℕ) × List NumberedToken). Some y.0.0) same),
      ap (λ (y : (ℕ × ℕ) × List NumberedToken). y.0.1) same,
      ap (λ (y : (ℕ × ℕ) × List NumberedToken). t ∷ y.1) same,
    )

pub named_is : (n : TokenNames) (a at : ℕ) (t : NumberedToken) (ts : List NumberedToken) → IsAtom n a t → t.at ≡ at
    → name_with_offset n (t ∷ ts) ≡ Some ((a, at), ts)
named_is n a at t ts h offset = let e = atom_in_is n a t h in rw (e, offset) refl

-- ---- integers and words

pub number_some : (ts : List NumberedToken) (x : ℕ × List NumberedToken) → number ts ≡ Some x
    → (t : NumberedToken) × (t.kind ≡ integer x.0) × (ts ≡ t ∷ x.1)
number_some [] x e = absurd cc
number_some (t ∷ ts) x e = number_kind_some t.kind refl e
  where
    number_kind_some : (s : NumberedKind) → t.kind ≡ s → number_kind s ts ≡ Some x
        → (u : NumberedToken) × (u.kind ≡ integer x.0) × (t ∷ ts ≡ u ∷ x.1)
    number_kind_some (integer k) h f = let same = some_is (k, ts) x f in (
      t,
      h ∙ ap (λ (y : ℕ × List NumberedToken). integer y.0) same,
      ap (λ (y : ℕ × List NumberedToken). t ∷ y.1) same,
    )
    number_kind_some _ h f = absurd cc

pub number_is : (k : ℕ) (t : NumberedToken) (ts : List NumberedToken) → t.kind ≡ integer k
    → number (t ∷ ts) ≡ Some (k, ts)
number_is k t ts e = rw e refl

pub word_some : (n : TokenNames) (bytes : List ℕ) (ts rest : List NumberedToken)
    → word_parse n.atoms bytes ts ≡ Some rest → (t : NumberedToken) × IsWord n bytes t × (ts ≡ t ∷ rest)
word_some n bytes [] rest e = absurd cc
word_some n bytes (t ∷ ts) rest e =
    let c = cond_some (follows_word n.atoms bytes t.kind) (Some ts) rest e in
    let same : ts ≡ rest = some_is ts rest c.1 in
    (t, is_the_word t.kind refl c.0, ap (λ (l : List NumberedToken). t ∷ l) same)
  where
    is_the_word : (s : NumberedKind) → t.kind ≡ s → follows_word n.atoms bytes s ≡ true → IsWord n bytes t
    is_the_word (atom a) h f = (a, h, (bytes_eq-Decides _ _).0 f)
    is_the_word _ h f = absurd cc

pub word_is : (n : TokenNames) (bytes : List ℕ) (t : NumberedToken) (ts : List NumberedToken) → IsWord n bytes t
    → word_parse n.atoms bytes (t ∷ ts) ≡ Some ts
word_is n bytes t ts h =
    let e = h.1 in
    let same : bytes_eq (name_of n.atoms h.0) bytes ≡ true = (bytes_eq-Decides _ _).1 h.2 in
    rw (e, same) refl

-- a kind of token that is here is no other one
pub differs : (s k : NumberedKind) (t : NumberedToken) → t.kind ≡ k → is s k ≡ false → is s t.kind ≡ false
differs s k t e h = rw (e, h) refl

pub after_none : (s k : NumberedKind) (t : NumberedToken) (ts : List NumberedToken) → t.kind ≡ k → is s k ≡ false
    → after_kind s (t ∷ ts) ≡ None
after_none s k t ts e h = after_other s t ts (differs s k t e h)

-- ---- tests that say yes

pub both_true : (a b : Bool) → a ≡ true → b ≡ true → (a && b) ≡ true
both_true a b e f = rw (e, f) refl

pub first_no : (a b : Bool) → a ≡ false → (a && b) ≡ false
first_no a b e = rw e refl

pub last_no : (a b : Bool) → b ≡ false → (a && b) ≡ false
last_no true b e = e
last_no false b e = refl

pub short_some : (cs : List ℕ) → is_short cs ≡ true → length cs ≤ MOST_TEXT_CHARACTERS
short_some cs e = leb-true _ _ e

pub short_is : (cs : List ℕ) → length cs ≤ MOST_TEXT_CHARACTERS → is_short cs ≡ true
short_is cs le = le-leb _ _ le

-- ---- infixes

pub level_low : (i : Infix) → 2 ≤ level_of i
level_low (Operator Times) = omega arith
level_low (Operator Quotient) = omega arith
level_low (Operator Remainder) = omega arith
level_low (Operator Plus) = omega arith
level_low (Operator Minus) = omega arith
level_low (Operator Append) = omega arith
level_low (Operator Equal) = omega arith
level_low (Operator Unequal) = omega arith
level_low (Operator Less) = omega arith
level_low (Operator AtMost) = omega arith
level_low (Operator Greater) = omega arith
level_low (Operator AtLeast) = omega arith
level_low AndAlso = omega arith
level_low OrElse = omega arith
level_low Send = omega arith

pub level_high : (i : Infix) → level_of i ≤ top
level_high (Operator Times) = omega arith
level_high (Operator Quotient) = omega arith
level_high (Operator Remainder) = omega arith
level_high (Operator Plus) = omega arith
level_high (Operator Minus) = omega arith
level_high (Operator Append) = omega arith
level_high (Operator Equal) = omega arith
level_high (Operator Unequal) = omega arith
level_high (Operator Less) = omega arith
level_high (Operator AtMost) = omega arith
level_high (Operator Greater) = omega arith
level_high (Operator AtLeast) = omega arith
level_high AndAlso = omega arith
level_high OrElse = omega arith
level_high Send = omega arith

left_in_high : (g : Grouping) (level : ℕ) → (greatest_left g level ≤ level) × (level ≤ suc (greatest_left g level))
left_in_high Leftwards level = (omega arith, omega arith)
left_in_high Rightwards level = (omega arith, omega arith)
left_in_high Alone level = (omega arith, omega arith)

right_in_high : (g : Grouping) (level : ℕ) → (greatest_right g level ≤ level) × (level ≤ suc (greatest_right g level))
right_in_high Leftwards level = (omega arith, omega arith)
right_in_high Rightwards level = (omega arith, omega arith)
right_in_high Alone level = (omega arith, omega arith)

one_side_in : (g : Grouping) (level : ℕ) → 0 < level → greatest_left g level + greatest_right g level < level + level
one_side_in Leftwards level lt = omega arith
one_side_in Rightwards level lt = omega arith
one_side_in Alone level lt = omega arith

-- the operands' levels are the infix's or one below it, and at most one of them is the infix's
pub left_most : (i : Infix) → left_level i ≤ level_of i
left_most i = (left_in_high (binding_of i).grouping (level_of i)).0

pub left_least : (i : Infix) → level_of i ≤ suc (left_level i)
left_least i = (left_in_high (binding_of i).grouping (level_of i)).1

pub right_most : (i : Infix) → right_level i ≤ level_of i
right_most i = (right_in_high (binding_of i).grouping (level_of i)).0

pub right_least : (i : Infix) → level_of i ≤ suc (right_level i)
right_least i = (right_in_high (binding_of i).grouping (level_of i)).1

pub left_low : (i : Infix) → 1 ≤ left_level i
left_low i = let a = left_least i in let b = level_low i in omega (arith, a, b)

pub right_low : (i : Infix) → 1 ≤ right_level i
right_low i = let a = right_least i in let b = level_low i in omega (arith, a, b)

pub one_side : (i : Infix) → left_level i + right_level i < level_of i + level_of i
one_side i = one_side_in (binding_of i).grouping (level_of i) (let b = level_low i in omega (arith, b))

-- the infixes of a level group alike
grouping_at : ℕ → Grouping
grouping_at level = cond (nat_le level 3) Leftwards (cond (nat_eq level 5) Alone Rightwards)

grouping_is : (i : Infix) → (binding_of i).grouping ≡ grouping_at (level_of i)
unfolding grouping_at
grouping_is (Operator Times) = refl
grouping_is (Operator Quotient) = refl
grouping_is (Operator Remainder) = refl
grouping_is (Operator Plus) = refl
grouping_is (Operator Minus) = refl
grouping_is (Operator Append) = refl
grouping_is (Operator Equal) = refl
grouping_is (Operator Unequal) = refl
grouping_is (Operator Less) = refl
grouping_is (Operator AtMost) = refl
grouping_is (Operator Greater) = refl
grouping_is (Operator AtLeast) = refl
grouping_is AndAlso = refl
grouping_is OrElse = refl
grouping_is Send = refl

pub one_grouping : (i j : Infix) → level_of i ≡ level_of j → (binding_of i).grouping ≡ (binding_of j).grouping
one_grouping i j e = grouping_is i ∙ ap grouping_at e ∙ sym (grouping_is j)

pub one_left : (i j : Infix) → level_of i ≡ level_of j → left_level i ≡ left_level j
one_left i j e = ap (λ (g : Grouping). greatest_left g (level_of i)) (one_grouping i j e)
    ∙ ap (greatest_left (binding_of j).grouping) e

pub one_right : (i j : Infix) → level_of i ≡ level_of j → right_level i ≡ right_level j
one_right i j e = ap (λ (g : Grouping). greatest_right g (level_of i)) (one_grouping i j e)
    ∙ ap (greatest_right (binding_of j).grouping) e

-- a kind of token that is no infix isn't one
pub infix_differs : (s k : NumberedKind) (i : Infix) → infix_of k ≡ Some i → infix_of s ≡ None → is s k ≡ false
infix_differs s k i e f = no_same (is s k) refl
  where
    no_same : (b : Bool) → is s k ≡ b → b ≡ false
    no_same false h = refl
    no_same true h = absurd (let same = is_same s k h in let g = ap infix_of same in cc)

pub infix_after : (s : NumberedKind) (i : Infix) (t : NumberedToken) (ts : List NumberedToken)
    → infix_of t.kind ≡ Some i → infix_of s ≡ None → after_kind s (t ∷ ts) ≡ None
infix_after s i t ts e f = after_other s t ts (infix_differs s t.kind i e f)

-- ---- an infix that comes first

pub infix_some : (guard : Bool) (floor level : ℕ) (ts : List NumberedToken) (x : Infix × List NumberedToken)
    → infix_ahead guard floor level ts ≡ Some x
    → (t : NumberedToken) × (infix_of t.kind ≡ Some x.0) × (ts ≡ t ∷ x.1) × IsTrue (infix_is_there guard x.0)
    × (floor ≤ left_level x.0) × (level_of x.0 ≤ level)
infix_some guard floor level [] x e = absurd cc
infix_some guard floor level (t ∷ ts) x e =
    let b = bind_some (infix_of t.kind) (λ i. cond (infix_fits guard floor level i) (Some (i, ts)) None) x e in
    let c = cond_some (infix_fits guard floor level b.0) (Some (b.0, ts)) x b.2 in
    let outer = both (infix_is_there guard b.0 && nat_le floor (left_level b.0)) (nat_le (level_of b.0) level) c.0 in
    let inner = both (infix_is_there guard b.0) (nat_le floor (left_level b.0)) outer.0 in
    subst (λ (y : Infix × List NumberedToken). (u : NumberedToken) × (infix_of u.kind ≡ Some y.0) × (t ∷ ts ≡ u ∷ y.1)
    × IsTrue (infix_is_there guard y.0) × (floor ≤ left_level y.0) × (level_of y.0 ≤ level)) (some_is (b.0, ts) x c.1)
    (t, b.1, refl, inner.0, leb-true _ _ inner.1, leb-true _ _ outer.1)

pub infix_here : (guard : Bool) (floor level : ℕ) (i : Infix) (t : NumberedToken) (ts : List NumberedToken)
    → infix_of t.kind ≡ Some i → IsTrue (infix_is_there guard i) → floor ≤ left_level i → level_of i ≤ level
    → infix_ahead guard floor level (t ∷ ts) ≡ Some (i, ts)
infix_here guard floor level i t ts e is_there low high =
    let one = le-leb floor (left_level i) low in
    let two = le-leb (level_of i) level high in
    let fits : infix_fits guard floor level i ≡ true = both_true _ _ (both_true _ _ is_there one) two in
    rw (e, fits) refl

-- an infix that needs a tighter left operand, or binds less tightly than this level
pub infix_floor : (guard : Bool) (floor level : ℕ) (i : Infix) (t : NumberedToken) (ts : List NumberedToken)
    → infix_of t.kind ≡ Some i → left_level i < floor → infix_ahead guard floor level (t ∷ ts) ≡ None
infix_floor guard floor level i t ts e low =
    let no = lt-leb floor (left_level i) low in
    let fits : infix_fits guard floor level i ≡ false = first_no _ _ (last_no _ _ no) in
    rw (e, fits) refl

pub infix_level : (guard : Bool) (floor level : ℕ) (i : Infix) (t : NumberedToken) (ts : List NumberedToken)
    → infix_of t.kind ≡ Some i → level < level_of i → infix_ahead guard floor level (t ∷ ts) ≡ None
infix_level guard floor level i t ts e high =
    let no = lt-leb (level_of i) level high in
    let fits : infix_fits guard floor level i ≡ false = last_no _ _ no in
    rw (e, fits) refl

-- a token that is no infix
pub infix_none : (guard : Bool) (floor level : ℕ) (t : NumberedToken) (ts : List NumberedToken) → infix_of t.kind ≡ None
    → infix_ahead guard floor level (t ∷ ts) ≡ None
infix_none guard floor level t ts e = rw e refl

pub infix_kind : (guard : Bool) (floor level : ℕ) (kind : NumberedKind) (t : NumberedToken) (ts : List NumberedToken)
    → t.kind ≡ kind → infix_of kind ≡ None → infix_ahead guard floor level (t ∷ ts) ≡ None
infix_kind guard floor level kind t ts e f = infix_none guard floor level t ts (ap infix_of e ∙ f)

-- ---- marks that close

-- the mark is none of those that a pattern or an expression begins with
pub record Closing (m : TokenMark) : Type 0 where
  pub no_minus : is (mark m) (mark marks.Minus) ≡ false
  pub no_parenthesis : is (mark m) (mark marks.OpenParenthesis) ≡ false
  pub no_brace : is (mark m) (mark marks.OpenBrace) ≡ false
  pub no_bracket : is (mark m) (mark marks.OpenBracket) ≡ false

pub closing_parenthesis : Closing marks.CloseParenthesis
closing_parenthesis = record { no_minus = refl; no_parenthesis = refl; no_brace = refl; no_bracket = refl }

pub closing_brace : Closing marks.CloseBrace
closing_brace = record { no_minus = refl; no_parenthesis = refl; no_brace = refl; no_bracket = refl }

pub closing_bracket : Closing marks.CloseBracket
closing_bracket = record { no_minus = refl; no_parenthesis = refl; no_brace = refl; no_bracket = refl }

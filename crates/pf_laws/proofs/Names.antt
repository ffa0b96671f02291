-- The atoms of a source: each byte of theirs is one that quotes may contain.
use Rattle.std.proofs.Common.{◌≡◌, inl, inr, ℕ, zero, suc, ◌+◌, ◌≤◌, Bool, true, false, ◌==◌, ◌||◌, ◌&&◌, not}
use Rattle.std.proofs.Common.{if◌then◌else◌, List, [], ◌∷◌, ◌++◌, length, Option, Some, None, refl, sym, subst, arith}
use Rattle.std.specs.Prelude.{nat_le}
use Rattle.std.specs.List.{flat_map, list_all, list_any}
use Rattle.std.specs.Str.{bytes_eq}
use Rattle.std.proofs.lemmas.Bool.{and_from, and_parts, eqb-true, le-leb, leb-true, or_left}
use Rattle.std.proofs.lemmas.Option.{same_Some}
use Rattle.pf_terms.specs.Atoms.{fixed_names, name_of, with_name, names_entered}
use Rattle.pf_tokens.specs.Bytes.{backslash, double_quote, escape_of, is_digit, is_lower, is_quotable, is_upper}
use Rattle.pf_tokens.specs.Bytes.{is_visible, is_word_byte, single_quote}
use Rattle.pf_tokens.specs.TokenKinds as kinds
use Rattle.pf_tokens.specs.TokenKinds.{PlacedToken, TokenKind, put_first}
use Rattle.pf_tokens.specs.Rules.{BeginsWithParts, HasTokens, IsName, IsPiece, IsToken, RulePart, WritesByte, WritesAll}
use Rattle.pf_tokens.specs.Rules.{is_plain_in, tokens_from}
use Rattle.pf_tokens.specs.NumberedTokens.{atom_name, atoms_of}
use Rattle.pf_laws.proofs.Bytes.{passes_append, passes_too}

abbrev pub Quotable : List ℕ → Type 0
Quotable name = list_all is_quotable name ≡ true

abbrev pub AreQuotable : List (List ℕ) → Type 0
AreQuotable names = list_all (list_all is_quotable) names ≡ true

-- ---- bytes

-- what follows from each of two tests follows if one of them passes
either : {P : Type 0} (x y : Bool) → (x ≡ true → P) → (y ≡ true → P) → (x || y) ≡ true → P
either true y f g e = f refl
either false y f g e = g e

in_range : (low high b : ℕ) → 32 ≤ low → high ≤ 126 → (nat_le low b && nat_le b high) ≡ true → is_visible b ≡ true
in_range low high b l h e =
    let parts = and_parts (nat_le low b) (nat_le b high) e in
    let from = leb-true low b parts.0 in
    let to = leb-true b high parts.1 in
    and_from (nat_le 32 b) (nat_le b 126) (le-leb 32 b (omega arith)) (le-leb b 126 (omega arith))

is_one : (p : ℕ → Bool) (k b : ℕ) → p k ≡ true → (b == k) ≡ true → p b ≡ true
is_one p k b h e = subst (λ z. p z ≡ true) (sym (eqb-true b k e)) h

pub lower_visible : (b : ℕ) → is_lower b ≡ true → is_visible b ≡ true
lower_visible b = in_range 97 122 b (omega arith) (omega arith)

upper_visible : (b : ℕ) → is_upper b ≡ true → is_visible b ≡ true
upper_visible b =
    either (nat_le 65 b && nat_le b 90) (b == 95) (in_range 65 90 b (omega arith) (omega arith))
    (is_one is_visible 95 b refl)

pub word_visible : (b : ℕ) → is_word_byte b ≡ true → is_visible b ≡ true
word_visible b =
    either (is_lower b || is_upper b || is_digit b) (b == 64)
    (either (is_lower b || is_upper b) (is_digit b)
    (either (is_lower b) (is_upper b) (lower_visible b) (upper_visible b))
    (in_range 48 57 b (omega arith) (omega arith)))
    (is_one is_visible 64 b refl)

word_quotable : (b : ℕ) → is_word_byte b ≡ true → is_quotable b ≡ true
word_quotable b e = or_left (is_visible b || b == 9) (b == 10) (or_left (is_visible b) (b == 9) (word_visible b e))

-- ---- names in quotes

-- what stands for itself after `\\`
own_escape : (b : ℕ) → (b == backslash || b == single_quote || b == double_quote) ≡ true → is_quotable b ≡ true
own_escape b =
    either (b == backslash || b == single_quote) (b == double_quote)
    (either (b == backslash) (b == single_quote) (is_one is_quotable backslash b refl)
    (is_one is_quotable single_quote b refl))
    (is_one is_quotable double_quote b refl)

escape_quotable : (letter c : ℕ) → escape_of letter ≡ Some c → is_quotable c ≡ true
escape_quotable b c =
    by (b == 110) (b == 116) (b == 115) (b == backslash || b == single_quote || b == double_quote) (own_escape b)
  where
    this : (k : ℕ) → is_quotable k ≡ true → Some k ≡ Some c → is_quotable c ≡ true
    this k h e = subst (λ z. is_quotable z ≡ true) (same_Some k c e) h

    by : (n t s own : Bool) → (own ≡ true → is_quotable b ≡ true)
        → (if n then Some 10 else (if t then Some 9 else (if s then Some 32 else (if own then Some b else None))))
        ≡ Some c → is_quotable c ≡ true
    by true t s own h e = this 10 refl e
    by false true s own h e = this 9 refl e
    by false false true own h e = this 32 refl e
    by false false false true h e = this b (h refl) e
    by false false false false h e = absurd (cc)

written_quotable : (quote c : ℕ) (bytes : List ℕ) → WritesByte (is_plain_in quote) c bytes → is_quotable c ≡ true
written_quotable quote c bytes (inl w) = (and_parts (is_quotable c) (not (c == quote || c == backslash)) w.0).0
written_quotable quote c bytes (inr w) = escape_quotable w.0 c w.1

all_written : (quote : ℕ) (meant bytes : List ℕ) → WritesAll quote meant bytes → Quotable meant
all_written quote [] bytes w = refl
all_written quote (c ∷ meant) bytes w =
    and_from (is_quotable c) (list_all is_quotable meant) (written_quotable quote c w.0 w.3)
    (all_written quote meant w.1 w.4)

-- ---- names of tokens

word_name : (name rest : List ℕ) → IsName is_lower name rest → Quotable name
word_name [] rest h = refl
word_name (b ∷ bs) rest h = passes_too is_word_byte is_quotable word_quotable (b ∷ bs) h.1.each

atom_quotable : (kind : TokenKind) (bytes rest : List ℕ) → IsToken kind bytes rest → AreQuotable (atom_name kind)
atom_quotable (kinds.atom name) bytes rest (inl h) =
    and_from (list_all is_quotable name) true (subst Quotable (sym h.1) (word_name bytes rest h.0)) refl
atom_quotable (kinds.atom name) bytes rest (inr h) =
    and_from (list_all is_quotable name) true (all_written single_quote name h.0 h.1) refl
atom_quotable (kinds.integer n) bytes rest h = refl
atom_quotable (kinds.variable name) bytes rest h = refl
atom_quotable kinds.anonymous bytes rest h = refl
atom_quotable (kinds.text cs) bytes rest h = refl
atom_quotable kinds.own_module bytes rest h = refl
atom_quotable kinds.dot bytes rest h = refl
atom_quotable (kinds.mark m) bytes rest h = refl
atom_quotable (kinds.reserved r) bytes rest h = refl

-- ---- names of a source

abbrev names_in : List PlacedToken → List (List ℕ)
names_in ts = flat_map (λ t. atom_name t.kind) ts

put_quotable : (kind : Option TokenKind) (bytes rest : List ℕ) (start end : ℕ) (ts : List PlacedToken)
    → IsPiece kind bytes rest → AreQuotable (names_in ts)
    → AreQuotable (names_in (put_first kind start end ts))
put_quotable None bytes rest start end ts h all = all
put_quotable (Some kind) bytes rest start end ts h all =
    passes_append (list_all is_quotable) (atom_name kind) (names_in ts) (atom_quotable kind bytes rest h) all

tokens_quotable : (offset : ℕ) (ps : List RulePart) (text rest : List ℕ) → BeginsWithParts ps text rest
    → AreQuotable (names_in (tokens_from offset ps))
tokens_quotable offset [] text rest h = refl
tokens_quotable offset (p ∷ ps) text rest h =
    put_quotable p.kind p.bytes h.0 offset (offset + length p.bytes) (tokens_from (offset + length p.bytes) ps) h.2
    (tokens_quotable (offset + length p.bytes) ps h.0 rest h.3)

with_quotable : (names : List (List ℕ)) (name : List ℕ) → AreQuotable names → Quotable name
    → AreQuotable (with_name names name)
with_quotable names name h q = by (list_any (bytes_eq name) names)
  where
    by : (e : Bool) → AreQuotable (if e then names else names ++ name ∷ [])
    by true = h
    by false = passes_append (list_all is_quotable) names (name ∷ []) h
        (and_from (list_all is_quotable name) true q refl)

all_with : (names more : List (List ℕ)) → AreQuotable names → AreQuotable more → AreQuotable (names_entered names more)
all_with names [] h k = h
all_with names (name ∷ more) h k =
    let parts = and_parts (list_all is_quotable name) (list_all (list_all is_quotable) more) k in
    all_with (with_name names name) more (with_quotable names name h parts.0) parts.1

pub atoms_quotable : (text : List ℕ) (ts : List PlacedToken) → HasTokens text ts → AreQuotable (atoms_of ts)
atoms_quotable text ts h =
    all_with fixed_names (names_in ts) refl
    (subst (λ us. AreQuotable (names_in us)) (sym h.tokens_are) (tokens_quotable 0 h.parts text [] h.whole))

-- the name of a number is one of them, or empty
pub name_quotable : (names : List (List ℕ)) (a : ℕ) → AreQuotable names → Quotable (name_of names a)
name_quotable [] a h = refl
name_quotable (name ∷ names) zero h = (and_parts (list_all is_quotable name)
    (list_all (list_all is_quotable) names) h).0
name_quotable (name ∷ names) (suc a) h = name_quotable names a
    (and_parts (list_all is_quotable name) (list_all (list_all is_quotable) names) h).1

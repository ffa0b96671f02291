-- Patterns, a step at a time.
use Rattle.std.proofs.Common.{◌≡◌, ℕ, zero, suc, ◌-◌, ◌<◌, List, [], ◌∷◌, Bool, true, false, Option, Some, None, refl}
use Rattle.std.proofs.Common.{sym, arith, length}
use Rattle.std.specs.Prelude.{if◌then◌else◌, nat_le, not, option_map, pos}
use Rattle.std.specs.Option.{is_some}
use Rattle.pf_terms.specs.Atoms.{name_of}
use Rattle.pf_tokens.specs.declared.marks.TokenMark.{TokenMark}
use Rattle.pf_tokens.specs.declared.marks.TokenMark.TheVariants as marks
use Rattle.pf_syntax.specs.ExprPattern as s
use Rattle.pf_syntax.specs.ExprPattern.{ExprPattern, ExprPatterns}
use Rattle.pf_tokens.specs.declared.limits.TheConstants.{MOST_NAME_BYTES}
use Rattle.pf_tokens.specs.declared.numbered_token.NumberedKind.{NumberedKind as CodeNumberedKind}
use Rattle.pf_tokens.specs.declared.numbered_token.NumberedKind.TheVariants as kinds
use Rattle.pf_tokens.specs.View.{kind_of}
use Rattle.pf_tokens.specs.NumberedTokens.{NumberedKind, integer, atom, variable, anonymous, text, own_module, dot}
use Rattle.pf_tokens.specs.NumberedTokens.{mark, reserved, NumberedToken}
use Rattle.pf_grammar.specs.Grammar.{TokenNames}
use Rattle.pf_grammar.specs.Parse.{Parse, after_kind, atom_expr_pattern, is_short, items, list_expr_pattern}
use Rattle.pf_grammar.specs.Parse.{marked_expr_pattern, match_ahead, pattern, pattern_with, until, expr_pattern_kind}
use Rattle.pf_grammar.specs.Parse.{expr_patterns_of}

pub pattern_zero : (n : TokenNames) (limit : ℕ) (ts : List NumberedToken) → limit ≡ 0 → pattern n limit ts ≡ None
unfolding pattern
pattern_zero n limit ts k = rw k refl

pub pattern_is : (n : TokenNames) (limit : ℕ) (ts : List NumberedToken) → 0 < limit
    → pattern n limit ts ≡ pattern_with n (pattern n (limit - 1)) ts
unfolding pattern
pattern_is n zero ts lt = absurd (omega arith)
pattern_is n (suc d) ts lt = let e : suc d - 1 ≡ d = omega arith in rw e refl

-- ---- lists

module _ (inner : Parse ExprPattern) (ts r1 r2 : List NumberedToken) (qs : List ExprPattern) (all : ExprPatterns)
    (row : all ≡ expr_patterns_of qs)
    (none : after_kind (mark marks.CloseBracket) ts ≡ None) (read : items (mark marks.Comma) inner (length ts) ts
    ≡ Some (qs, r1)) where
  pub pattern_list : after_kind (mark marks.Bar) r1 ≡ None → after_kind (mark marks.CloseBracket) r1 ≡ Some r2
      → list_expr_pattern inner ts ≡ Some (s.list all, r2)
  pattern_list b c = rw (none, read, b, c, row) refl

  pub pattern_list_on : (r3 r4 : List NumberedToken) (q : ExprPattern) → after_kind (mark marks.Bar) r1 ≡ Some r2
      → inner r2 ≡ Some (q, r3) → after_kind (mark marks.CloseBracket) r3 ≡ Some r4
      → list_expr_pattern inner ts ≡ Some (s.list_on all q, r4)
  pattern_list_on r3 r4 q b i c = rw (none, read, b, i, c, row) refl

pub pattern_tuple : (inner : Parse ExprPattern) (first : TokenMark) (ts rest : List NumberedToken)
    (qs : List ExprPattern) (all : ExprPatterns) → first ≡ marks.OpenBrace → all ≡ expr_patterns_of qs
    → until (mark marks.CloseBrace) inner ts ≡ Some (qs, rest)
    → marked_expr_pattern inner first ts ≡ Some (s.tuple all, rest)
pattern_tuple inner first ts rest qs all f row read = rw (f, read, row) refl

-- ---- no match begins

-- what a pattern before `=` is, where what is read first is known
abbrev follows : Option (ExprPattern × List NumberedToken) → Option (ExprPattern × List NumberedToken)
follows o = match_ahead (λ ts. o) []

-- no `=` follows a pattern of one token
module _ (ts : List NumberedToken) (e : after_kind (mark marks.Match) ts ≡ None) where
  of_one : (q : ExprPattern) → follows (Some (q, ts)) ≡ None
  of_one q = rw e refl

  of_text : (q : ExprPattern) (b : Bool) → follows (if b then Some (q, ts) else None) ≡ None
  of_text q true = of_one q
  of_text q false = refl

  of_atom : (a : ℕ) (b : Bool) → follows (atom_expr_pattern (if b then Some a else None) ts) ≡ None
  of_atom a true = of_one (s.atom a)
  of_atom a false = refl

  of_kind : (n : TokenNames) (inner : Parse ExprPattern) (k : NumberedKind) (at : ℕ)
      → ((m : TokenMark) → k ≡ mark m → ⊥) → follows (expr_pattern_kind n inner k at ts) ≡ None
  of_kind n inner (integer k) at h = of_one (s.integer (pos k))
  of_kind n inner (atom a) at h = of_atom a (nat_le (length (name_of n.atoms a)) MOST_NAME_BYTES)
  of_kind n inner (variable x) at h = of_one (s.variable x at)
  of_kind n inner anonymous at h = of_one s.anything
  of_kind n inner (text cs) at h = of_text (s.text cs) (is_short cs)
  of_kind n inner own_module at h = of_one (s.atom n.own)
  of_kind n inner dot at h = refl
  of_kind n inner (mark m) at h = absurd (h m refl)
  of_kind n inner (reserved r) at h = refl

  pub no_match : (n : TokenNames) (limit : ℕ) (t : NumberedToken) → ((m : TokenMark) → t.kind ≡ mark m → ⊥)
      → match_ahead (pattern n limit) (t ∷ ts) ≡ None
  unfolding pattern
  no_match n zero t h = refl
  no_match n (suc d) t h = of_kind n (pattern n d) t.kind t.at h

pub no_match_in_none : (n : TokenNames) (limit : ℕ) → match_ahead (pattern n limit) [] ≡ None
unfolding pattern
no_match_in_none n zero = refl
no_match_in_none n (suc d) = refl

pub not_mark : (k : CodeNumberedKind) → ((x : TokenMark) → k ≡ kinds.Mark x → ⊥) → (m : TokenMark)
    → kind_of k ≡ mark m → ⊥
not_mark (kinds.Mark x) h m e = h x refl
not_mark (kinds.Integer v) h m e = absurd (cc)
not_mark (kinds.Atom a) h m e = absurd (cc)
not_mark (kinds.Variable x) h m e = absurd (cc)
not_mark kinds.Anonymous h m e = absurd (cc)
not_mark (kinds.Text cs) h m e = absurd (cc)
not_mark kinds.OwnModule h m e = absurd (cc)
not_mark kinds.Dot h m e = absurd (cc)
not_mark (kinds.Reserved r) h m e = absurd (cc)

-- what is none as the code sees it
pub is_none_is : {X Y : Type 0} (f : X → Y) (o : Option X) (a : Option Y) (r : Bool) → option_map f o ≡ a
    → is_some o ≡ not r → r ≡ true → a ≡ None
is_none_is f None a r e s h = sym e
is_none_is f (Some x) a r e s h = absurd (cc)

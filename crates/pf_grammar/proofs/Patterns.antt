-- Patterns: what is read derives what it took, no deeper than the limit, and each pattern that is no deeper is read
-- whatever follows.
use Rattle.std.proofs.Common.{◌≡◌, ◌⊎◌, ℕ, zero, suc, ◌≤◌, ◌<◌, List, [], ◌∷◌, ◌++◌, Option, Some, None, refl, ap}
use Rattle.std.proofs.Common.{arith, inl, inr}
use Rattle.std.specs.Prelude.{ℤ, pos, neg_ℤ}
use Rattle.pf_tokens.specs.declared.marks.TokenMark.{TokenMark}
use Rattle.pf_tokens.specs.declared.marks.TokenMark.TheVariants as marks
use Rattle.pf_syntax.specs.ExprPattern as s
use Rattle.pf_syntax.specs.ExprPattern.{ExprPattern, ExprPatterns, no_expr_patterns, expr_pattern, expr_pattern_depth}
use Rattle.pf_syntax.specs.ExprPattern.{expr_patterns_depth}
use Rattle.pf_tokens.specs.NumberedTokens.{NumberedKind, integer, atom, variable, anonymous, text, own_module, dot}
use Rattle.pf_tokens.specs.NumberedTokens.{mark, reserved, NumberedToken}
use Rattle.pf_grammar.specs.Grammar.{TokenNames, IsAtom, IsOne, After, HasPattern, DerivesExprPattern}
use Rattle.pf_grammar.specs.Grammar.{DerivesExprPatterns}
use Rattle.pf_grammar.specs.Parse.{Parse, atom_in, number, until, Listed, listed, expr_patterns_of, is_short}
use Rattle.pf_grammar.specs.Parse.{atom_expr_pattern, negative, tuple_expr_pattern, listed_expr_pattern}
use Rattle.pf_grammar.specs.Parse.{list_expr_pattern, marked_expr_pattern, expr_pattern_kind, pattern_with, pattern}
use Rattle.pf_grammar.proofs.Single.{bind_some, cond_some, atom_in_some, atom_in_is, atom_no_mark, number_some, differs}
use Rattle.pf_grammar.proofs.Single.{short_some, short_is, Closing, closing_brace, closing_bracket}
use Rattle.pf_grammar.proofs.Lists.{Took, SoundFor, CompleteFor, Any, took_is, Separated, Several, Opens, until_sound}
use Rattle.pf_grammar.proofs.Lists.{until_complete, ListedIs, listed_sound, listed_complete}

-- a pattern derives the tokens, no deeper than this
abbrev pub FitsPattern : TokenNames → ℕ → ExprPattern → List NumberedToken → Type 0
FitsPattern n d q ts = DerivesExprPattern n q ts × (expr_pattern_depth q ≤ d)

-- a pattern is at least one deep
pub pattern_some_depth : (q : ExprPattern) → 0 < expr_pattern_depth q
pattern_some_depth (s.integer z) = omega arith
pattern_some_depth _ = omega arith

-- ---- patterns with commas

pub expr_pattern_list : ExprPatterns → List ExprPattern
expr_pattern_list no_expr_patterns = []
expr_pattern_list (expr_pattern q qs) = q ∷ expr_pattern_list qs

pub expr_patterns_back : (qs : ExprPatterns) → expr_patterns_of (expr_pattern_list qs) ≡ qs
unfolding expr_pattern_list
expr_patterns_back no_expr_patterns = refl
expr_patterns_back (expr_pattern q qs) = ap (expr_pattern q) (expr_patterns_back qs)

pub expr_patterns_from : (n : TokenNames) (d : ℕ) (qs : List ExprPattern) (ts : List NumberedToken)
    → Separated (mark marks.Comma) (FitsPattern n d) qs ts
    → DerivesExprPatterns n (expr_patterns_of qs) ts × (expr_patterns_depth (expr_patterns_of qs) ≤ d)
expr_patterns_from n d [] ts h = (h, omega arith)
expr_patterns_from n d (q ∷ []) ts h = (h.0, omega (arith, h.1))
expr_patterns_from n d (q ∷ r ∷ qs) ts h =
    let one = h.5 in
    let more = expr_patterns_from n d (r ∷ qs) h.2 h.6 in
    ((h.0, h.1, h.2, h.3, h.4, one.0, more.0), omega (arith, one.1, more.1))

pub expr_patterns_to : (n : TokenNames) (d : ℕ) (qs : ExprPatterns) (ts : List NumberedToken)
    → DerivesExprPatterns n qs ts → expr_patterns_depth qs ≤ d
    → Separated (mark marks.Comma) (FitsPattern n d) (expr_pattern_list qs) ts
unfolding expr_pattern_list
expr_patterns_to n d no_expr_patterns ts h le = h
expr_patterns_to n d (expr_pattern q no_expr_patterns) ts h le = (h, omega arith)
expr_patterns_to n d (expr_pattern q (expr_pattern r qs)) ts h le =
    (h.0, h.1, h.2, h.3, h.4, (h.5, omega arith), expr_patterns_to n d (expr_pattern r qs) h.2 h.6 (omega arith))

has_pattern : (qs : List ExprPattern) → (qs ≡ [] → ⊥) → HasPattern (expr_patterns_of qs)
has_pattern [] h = absurd (h refl)
has_pattern (q ∷ qs) h = tt

no_empty : (qs : ExprPatterns) → HasPattern qs → expr_pattern_list qs ≡ [] → ⊥
unfolding expr_pattern_list
no_empty no_expr_patterns h e = absurd h
no_empty (expr_pattern q qs) h e = absurd cc

-- ---- what is read

atom_expr_pattern_sound : (n : TokenNames) (d : ℕ) (t : NumberedToken) (ts : List NumberedToken) (o : Option ℕ)
    → ((a : ℕ) → o ≡ Some a → IsAtom n a t) → (x : ExprPattern × List NumberedToken) → atom_expr_pattern o ts ≡ Some x
    → Took (FitsPattern n (suc d) x.0) (t ∷ ts) x.1
atom_expr_pattern_sound n d t ts None h x e = absurd cc
atom_expr_pattern_sound n d t ts (Some a) h x e = took_is (FitsPattern n (suc d)) (t ∷ ts) (s.atom a, ts) x e
    (record { front = t ∷ []; parts = refl; holds = ((t, h a refl, refl), omega arith) })

negative_sound : (n : TokenNames) (d : ℕ) (t : NumberedToken) (ts : List NumberedToken) → t.kind ≡ mark marks.Minus
    → (x : ExprPattern × List NumberedToken) → negative ts ≡ Some x → Took (FitsPattern n (suc d) x.0) (t ∷ ts) x.1
negative_sound n d t ts h x e =
    let b = bind_some (number ts) _ x e in
    let k = number_some ts b.0 b.1 in
    took_is (FitsPattern n (suc d)) (t ∷ ts) (s.integer (neg_ℤ (pos b.0.0)), b.0.1) x b.2
    (record {
      front = t ∷ k.0 ∷ [];
      parts = ap (λ (l : List NumberedToken). t ∷ l) k.2;
      holds =
          ((b.0.0, inr (refl, (t, k.0 ∷ [], h, refl, (k.0, k.1, refl)))), omega arith);
    })

module _ (n : TokenNames) (d : ℕ) (inner : Parse ExprPattern) (sound : SoundFor inner (FitsPattern n d)) where
  tuple_sound : (t : NumberedToken) (ts : List NumberedToken) → t.kind ≡ mark marks.OpenBrace
      → (x : ExprPattern × List NumberedToken) → tuple_expr_pattern inner ts ≡ Some x
      → Took (FitsPattern n (suc d) x.0) (t ∷ ts) x.1
  tuple_sound t ts h x e =
      let b = bind_some (until (mark marks.CloseBrace) inner ts) _ x e in
      let u = until_sound ExprPattern (mark marks.CloseBrace) (FitsPattern n d) inner sound ts b.0 b.1 in
      let c = u.holds in
      let all = expr_patterns_from n d b.0.0 c.0 c.4 in
      took_is (FitsPattern n (suc d)) (t ∷ ts) (s.tuple (expr_patterns_of b.0.0), b.0.1) x b.2
      (record {
        front = t ∷ u.front;
        parts = ap (λ (l : List NumberedToken). t ∷ l) u.parts;
        holds =
            ((t, u.front, h, refl, (c.0, c.1, c.2, c.3, all.0)), omega (arith, all.1));
      })

  listed_fits : (t : NumberedToken) (front : List NumberedToken) (y : Listed ExprPattern)
      → t.kind ≡ mark marks.OpenBracket → ListedIs (FitsPattern n d) y front
      → FitsPattern n (suc d) (listed_expr_pattern y) (t ∷ front)
  listed_fits t front (qs, None) h c = let all = expr_patterns_from n d qs c.0 c.4 in
      ((t, front, h, refl, (c.0, c.1, c.2, c.3, all.0)), omega (arith, all.1))
  listed_fits t front (qs, Some q) h c =
      let a = c.4 in
      let some = a.5 in
      let last = a.6 in
      let all = expr_patterns_from n d qs a.0 some.0 in (
        (has_pattern qs some.1, (t, front, h, refl, (c.0, c.1, c.2, c.3, (a.0, a.1, a.2, a.3, a.4, all.0, last.0)))),
        omega (arith, all.1, last.1),
      )

  list_sound : (t : NumberedToken) (ts : List NumberedToken) → t.kind ≡ mark marks.OpenBracket
      → (x : ExprPattern × List NumberedToken) → list_expr_pattern inner ts ≡ Some x
      → Took (FitsPattern n (suc d) x.0) (t ∷ ts) x.1
  list_sound t ts h x e =
      let b = bind_some (listed inner ts) _ x e in
      let u = listed_sound ExprPattern (FitsPattern n d) inner sound ts b.0 b.1 in
      took_is (FitsPattern n (suc d)) (t ∷ ts) (listed_expr_pattern b.0.0, b.0.1) x b.2
      (record {
        front = t ∷ u.front;
        parts = ap (λ (l : List NumberedToken). t ∷ l) u.parts;
        holds =
            listed_fits t u.front b.0.0 h u.holds;
      })

  marked_sound : (t : NumberedToken) (ts : List NumberedToken) (m : TokenMark) → t.kind ≡ mark m
      → (x : ExprPattern × List NumberedToken) → marked_expr_pattern inner m ts ≡ Some x
      → Took (FitsPattern n (suc d) x.0) (t ∷ ts) x.1
  marked_sound t ts marks.Minus h x e = negative_sound n d t ts h x e
  marked_sound t ts marks.OpenBrace h x e = tuple_sound t ts h x e
  marked_sound t ts marks.OpenBracket h x e = list_sound t ts h x e
  marked_sound t ts _ h x e = absurd cc

  kind_sound : (t : NumberedToken) (ts : List NumberedToken) (kind : NumberedKind) → t.kind ≡ kind
      → (x : ExprPattern × List NumberedToken) → expr_pattern_kind n inner kind t.at ts ≡ Some x
      → Took (FitsPattern n (suc d) x.0) (t ∷ ts) x.1
  kind_sound t ts (integer k) h x e = took_is (FitsPattern n (suc d)) (t ∷ ts) (s.integer (pos k), ts) x e
      (record { front = t ∷ []; parts = refl; holds = ((k, inl (refl, (t, h, refl))), omega arith) })
  kind_sound t ts (text cs) h x e =
      let c = cond_some (is_short cs) (Some (s.text cs, ts)) x e in
      took_is (FitsPattern n (suc d)) (t ∷ ts) (s.text cs, ts) x c.1
      (record { front = t ∷ []; parts = refl; holds = ((short_some cs c.0, (t, h, refl)), omega arith) })
  kind_sound t ts (variable y) h x e = took_is (FitsPattern n (suc d)) (t ∷ ts) (s.variable y t.at, ts) x e
      (record { front = t ∷ []; parts = refl; holds = ((t, h, refl, refl), omega arith) })
  kind_sound t ts anonymous h x e = took_is (FitsPattern n (suc d)) (t ∷ ts) (s.anything, ts) x e
      (record { front = t ∷ []; parts = refl; holds = ((t, h, refl), omega arith) })
  kind_sound t ts (mark m) h x e = marked_sound t ts m h x e
  kind_sound t ts (atom a) h x e = atom_expr_pattern_sound n d t ts (atom_in n (atom a))
      (λ b f. atom_in_some n (atom a) t b h f) x e
  kind_sound t ts own_module h x e = atom_expr_pattern_sound n d t ts (atom_in n own_module)
      (λ b f. atom_in_some n own_module t b h f) x e
  kind_sound t ts dot h x e = absurd cc
  kind_sound t ts (reserved r) h x e = absurd cc

  pattern_with_sound : SoundFor (pattern_with n inner) (FitsPattern n (suc d))
  pattern_with_sound [] x e = absurd cc
  pattern_with_sound (t ∷ ts) x e = kind_sound t ts t.kind refl x e

pub pattern_sound : (n : TokenNames) (d : ℕ) → SoundFor (pattern n d) (FitsPattern n d)
unfolding pattern
pattern_sound n zero ts x e = absurd cc
pattern_sound n (suc d) ts x e = pattern_with_sound n d (pattern n d) (pattern_sound n d) ts x e

-- ---- how a pattern begins

integer_opens : (m : TokenMark) (z : ℤ) (front : List NumberedToken) (k : ℕ) → Closing m
    → ((z ≡ pos k) × IsOne (integer k) front)
    ⊎ ((z ≡ neg_ℤ (pos k)) × After (mark marks.Minus) (IsOne (integer k)) front) → Opens (mark m) front
integer_opens m z front k c (inl h) = let i = h.1 in
    record { first = i.0; others = []; whole = i.2; differs = differs (mark m) (integer k) i.0 i.1 refl }
integer_opens m z front k c (inr h) = let b = h.1 in
    record { first = b.0; others = b.1; whole = b.3; differs = differs (mark m) (mark marks.Minus) b.0 b.2 c.no_minus }

pub expr_pattern_opens : (n : TokenNames) (m : TokenMark) → Closing m → (q : ExprPattern) (front : List NumberedToken)
    → DerivesExprPattern n q front → Opens (mark m) front
expr_pattern_opens n m c (s.integer z) front h = integer_opens m z front h.0 c h.1
expr_pattern_opens n m c (s.atom a) front h =
    record { first = h.0; others = []; whole = h.2; differs = atom_no_mark n a h.0 m h.1 }
expr_pattern_opens n m c (s.text cs) front h = let i = h.1 in
    record { first = i.0; others = []; whole = i.2; differs = differs (mark m) (text cs) i.0 i.1 refl }
expr_pattern_opens n m c (s.variable x at) front h =
    record { first = h.0; others = []; whole = h.3; differs = differs (mark m) (variable x) h.0 h.1 refl }
expr_pattern_opens n m c s.anything front h =
    record { first = h.0; others = []; whole = h.2; differs = differs (mark m) anonymous h.0 h.1 refl }
expr_pattern_opens n m c (s.tuple qs) front h =
    record {
      first = h.0;
      others = h.1;
      whole = h.3;
      differs =
          differs (mark m) (mark marks.OpenBrace) h.0 h.2 c.no_brace;
    }
expr_pattern_opens n m c (s.list qs) front h =
    record {
      first = h.0;
      others = h.1;
      whole = h.3;
      differs =
          differs (mark m) (mark marks.OpenBracket) h.0 h.2 c.no_bracket;
    }
expr_pattern_opens n m c (s.list_on qs q) front h = let b = h.1 in
    record {
      first = b.0;
      others = b.1;
      whole = b.3;
      differs =
          differs (mark m) (mark marks.OpenBracket) b.0 b.2 c.no_bracket;
    }

-- ---- what derives

with_atom : (n : TokenNames) (inner : Parse ExprPattern) (a : ℕ) (t : NumberedToken) (ts : List NumberedToken)
    → IsAtom n a t → pattern_with n inner (t ∷ ts) ≡ Some (s.atom a, ts)
with_atom n inner a t ts (inl h) = let e = h.0 in let i = atom_in_is n a t (inl h) in
    let j : atom_in n (atom a) ≡ Some a = rw e at i in rw (e, j) refl
with_atom n inner a t ts (inr h) = let e = h.0 in let own = h.1 in rw (e, own) refl

pub pattern_atom : (n : TokenNames) (d a : ℕ) (t : NumberedToken) (ts : List NumberedToken) → IsAtom n a t
    → pattern n (suc d) (t ∷ ts) ≡ Some (s.atom a, ts)
unfolding pattern
pattern_atom n d a t ts h = with_atom n (pattern n d) a t ts h

integer_complete : (n : TokenNames) (inner : Parse ExprPattern) (z : ℤ) (front rest : List NumberedToken) (k : ℕ)
    → ((z ≡ pos k) × IsOne (integer k) front)
    ⊎ ((z ≡ neg_ℤ (pos k)) × After (mark marks.Minus) (IsOne (integer k)) front)
    → pattern_with n inner (front ++ rest) ≡ Some (s.integer z, rest)
integer_complete n inner z front rest k (inl h) = let e = h.0 in let i = h.1 in let kind = i.1 in let w = i.2 in
    rw (w, kind, e) refl
integer_complete n inner z front rest k (inr h) =
    let e = h.0 in
    let b = h.1 in
    let minus = b.2 in
    let w = b.3 in
    let i = b.4 in
    let kind = i.1 in
    let v = i.2 in
    rw (w, v, minus, kind, e) refl

module _ (n : TokenNames) (d : ℕ) (inner : Parse ExprPattern) (complete : CompleteFor inner (FitsPattern n d) Any) where
  tuple_complete : (qs : ExprPatterns) (front rest : List NumberedToken) → DerivesExprPattern n (s.tuple qs) front
      → expr_patterns_depth qs ≤ d → pattern_with n inner (front ++ rest) ≡ Some (s.tuple qs, rest)
  tuple_complete qs front rest h le =
      let kind = h.2 in
      let w = h.3 in
      let c = h.4 in
      let read = until_complete ExprPattern (mark marks.CloseBrace) (FitsPattern n d) inner Any refl refl complete
      (λ q xs p. expr_pattern_opens n marks.CloseBrace closing_brace q xs p.0) (λ t ts u. tt) (λ t ts u. tt)
      (expr_pattern_list qs) h.1 rest (c.0, c.1, c.2, c.3, expr_patterns_to n d qs c.0 c.4 le) in
      let back = expr_patterns_back qs in
      rw (w, kind, read, back) refl

  listed_read : (x : Listed ExprPattern) (front rest : List NumberedToken) → ListedIs (FitsPattern n d) x front
      → listed inner (front ++ rest) ≡ Some (x, rest)
  listed_read x front rest h = listed_complete ExprPattern (FitsPattern n d) inner Any complete
      (λ q xs p. expr_pattern_opens n marks.CloseBracket closing_bracket q xs p.0) (λ t ts u. tt) (λ t ts u. tt)
      (λ t ts u. tt) x front rest h

  list_complete : (qs : ExprPatterns) (front rest : List NumberedToken) → DerivesExprPattern n (s.list qs) front
      → expr_patterns_depth qs ≤ d → pattern_with n inner (front ++ rest) ≡ Some (s.list qs, rest)
  list_complete qs front rest h le =
      let kind = h.2 in
      let w = h.3 in
      let c = h.4 in
      let read = listed_read (expr_pattern_list qs, None) h.1 rest (
        c.0,
        c.1,
        c.2,
        c.3,
        expr_patterns_to n d qs c.0 c.4 le,
      ) in
      let back = expr_patterns_back qs in
      rw (w, kind, read, back) refl

  list_on_complete : (qs : ExprPatterns) (q : ExprPattern) (front rest : List NumberedToken)
      → DerivesExprPattern n (s.list_on qs q) front → expr_patterns_depth qs ≤ d → expr_pattern_depth q ≤ d
      → pattern_with n inner (front ++ rest) ≡ Some (s.list_on qs q, rest)
  list_on_complete qs q front rest h le low =
      let b = h.1 in
      let kind = b.2 in
      let w = b.3 in
      let c = b.4 in
      let a = c.4 in
      let all : Several (mark marks.Comma) (FitsPattern n d) (expr_pattern_list qs) a.0 =
      (expr_patterns_to n d qs a.0 a.5 le, no_empty qs h.0) in
      let read = listed_read (expr_pattern_list qs, Some q) b.1 rest (
        c.0,
        c.1,
        c.2,
        c.3,
        (a.0, a.1, a.2, a.3, a.4, all, (a.6, low)),
      ) in
      let back = expr_patterns_back qs in
      rw (w, kind, read, back) refl

  pattern_with_complete : (q : ExprPattern) (front rest : List NumberedToken) → DerivesExprPattern n q front
      → expr_pattern_depth q ≤ suc d → pattern_with n inner (front ++ rest) ≡ Some (q, rest)
  pattern_with_complete (s.integer z) front rest h le = integer_complete n inner z front rest h.0 h.1
  pattern_with_complete (s.atom a) front rest h le = let w = h.2 in rw w (with_atom n inner a h.0 rest h.1)
  pattern_with_complete (s.text cs) front rest h le = let short = short_is cs h.0 in let i = h.1 in let kind = i.1 in
      let w = i.2 in rw (w, kind, short) refl
  pattern_with_complete (s.variable x at) front rest h le = let e = h.1 in let offset = h.2 in let w = h.3 in
      rw (w, e, offset) refl
  pattern_with_complete s.anything front rest h le = let e = h.1 in let w = h.2 in rw (w, e) refl
  pattern_with_complete (s.tuple qs) front rest h le = tuple_complete qs front rest h (omega arith)
  pattern_with_complete (s.list qs) front rest h le = list_complete qs front rest h (omega arith)
  pattern_with_complete (s.list_on qs q) front rest h le =
      list_on_complete qs q front rest h (omega arith) (omega arith)

pub pattern_complete : (n : TokenNames) (d : ℕ) → CompleteFor (pattern n d) (FitsPattern n d) Any
unfolding pattern
pattern_complete n zero q front rest h u = absurd (let some = pattern_some_depth q in let low = h.1 in
    omega (arith, some, low))
pattern_complete n (suc d) q front rest h u = pattern_with_complete n d (pattern n d) (pattern_complete n d) q
    front rest h.0 h.1

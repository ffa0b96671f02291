-- What is read as an expression derives the tokens that it took, and is no deeper than the limit.
use Rattle.std.proofs.Common.{◌≡◌, ℕ, zero, suc, ◌≤◌, ◌<◌, List, [], ◌∷◌, ◌++◌, length, Bool, true, false, Option, Some}
use Rattle.std.proofs.Common.{None, refl, sym, ap, subst, ◌∙◌, arith, append_assoc, inl, inr}
use Rattle.std.specs.Prelude.{pos, nat_le, IsTrue}
use Rattle.std.proofs.lemmas.Bool.{leb-true}
use Rattle.pf_tokens.specs.declared.marks.TokenMark.{TokenMark}
use Rattle.pf_tokens.specs.declared.marks.TokenMark.TheVariants as marks
use Rattle.pf_tokens.specs.declared.words.Reserved.{Reserved}
use Rattle.pf_tokens.specs.declared.words.Reserved.TheVariants as words
use Rattle.pf_syntax.specs.Naming.{arity_of}
use Rattle.pf_syntax.specs.ExprPattern as s
use Rattle.pf_syntax.specs.ExprPattern.{ExprPattern}
use Rattle.pf_syntax.specs.Expr as p
use Rattle.pf_syntax.specs.Expr.{Expr, Condition, Branches, expr_depth, condition_depth, branches_depth}
use Rattle.pf_syntax.specs.Forms.{may_be_there}
use Rattle.pf_syntax.specs.declared.forms.Form.TheVariants.{Deciding, Choosing, Receiving}
use Rattle.pf_tokens.specs.NumberedTokens.{NumberedKind, integer, atom, variable, anonymous, text, own_module, dot}
use Rattle.pf_tokens.specs.NumberedTokens.{mark, reserved, NumberedToken}
use Rattle.pf_grammar.specs.Grammar.{TokenNames, IsAtom, Before, Guarded, level_of, left_level, right_level, Joined}
use Rattle.pf_grammar.specs.Grammar.{call_is_there, top, element as body_level, unguarded, DerivesExprPattern, Derives}
use Rattle.pf_grammar.specs.Grammar.{DerivesGuard, DerivesBranches}
use Rattle.pf_grammar.specs.declared.infix.Infix.{Infix}
use Rattle.pf_grammar.specs.declared.infix.Infix.TheVariants.{Operator, AndAlso, OrElse, Send}
use Rattle.pf_grammar.specs.Parse.{
  ◌>>=◌,
  Parse,
  Readers,
  ParsedClause,
  Listed,
  after_kind,
  atom_in,
  items,
  until,
  listed,
  exprs_of,
  is_short,
  pattern,
  infix_ahead,
  joined_exprs,
  within,
  more_step,
  more,
  unary_step,
  unary,
  level_with,
  guard_tests,
  condition_of,
  guard,
  when_step,
  when,
  front,
  body_parse,
  clause,
  branches_of,
  branches,
  call_after,
  call_parse_step,
  atom_or_call,
  parenthesized,
  tuple,
  listed_expression,
  list,
  marked,
  case_of,
  if_of,
  receive_parse,
  reserved_parse,
  prim_kind,
  prim_with,
  match_ahead,
  element_step,
  parse_expr_with,
  parse_expr,
  element,
}
use Rattle.pf_grammar.proofs.Single.{bind_some, cond_some, some_is, after_some, atom_in_some, short_some, infix_some}
use Rattle.pf_grammar.proofs.Single.{right_low}
use Rattle.pf_grammar.proofs.Lists.{Took, SoundFor, took_is, grow, grow_apart, Several, items_sound, until_sound}
use Rattle.pf_grammar.proofs.Lists.{ListedIs, listed_sound}
use Rattle.pf_grammar.proofs.Patterns.{FitsPattern, pattern_sound}
use Rattle.pf_grammar.proofs.Groups.{Fits, FitsTests, FitsFront, FitsClause, has_from, all_from, guard_from}
use Rattle.pf_grammar.proofs.Groups.{branches_from}

-- ---- guards

-- a guard derives the tokens, no deeper than this
abbrev pub FitsGuard : TokenNames → ℕ → Condition → List NumberedToken → Type 0
FitsGuard n d c ts = DerivesGuard n c ts × (condition_depth c ≤ d) × (0 < d)

-- `when` and a guard, or neither
abbrev pub FitsWhen : TokenNames → ℕ → Condition → List NumberedToken → Type 0
FitsWhen n d c ts = Guarded c (DerivesGuard n c) ts × (condition_depth c ≤ d)

module _ (n : TokenNames) (d : ℕ) (test : Parse Expr) (test_sound : SoundFor test (Fits n true top d)) where
  tests_sound : SoundFor (guard_tests test) (FitsTests n d)
  tests_sound ts x e = items_sound Expr (mark marks.Comma) (Fits n true top d) test test_sound (length ts) ts x e

  pub guard_sound : SoundFor (guard test) (FitsGuard n d)
  guard_sound ts x e =
      let b = bind_some (items (mark marks.Semicolon) (guard_tests test) (length ts) ts) _ x e in
      let l = items_sound (List Expr) (mark marks.Semicolon) (FitsTests n d) (guard_tests test) tests_sound
      (length ts) ts b.0 b.1 in
      took_is (FitsGuard n d) ts (condition_of b.0.0, b.0.1) x b.2
      (record { front = l.front; parts = l.parts; holds = guard_from n d b.0.0 l.front l.holds })

  when_step_sound : (ts : List NumberedToken) (o : Option (List NumberedToken))
      → after_kind (reserved words.When) ts ≡ o → (x : Condition × List NumberedToken) → when_step test ts o ≡ Some x
      → Took (FitsWhen n d x.0) ts x.1
  when_step_sound ts None e x f = took_is (FitsWhen n d) ts (unguarded, ts) x f
      (record { front = []; parts = refl; holds = (inl (refl, refl), omega arith) })
  when_step_sound ts (Some rest) e x f =
      let m = after_some (reserved words.When) ts rest e in
      let g = guard_sound rest x f in
      record {
        front = m.0 ∷ g.front;
        parts = m.2 ∙ ap (λ (l : List NumberedToken). m.0 ∷ l) g.parts;
        holds =
            (inr (m.0, g.front, m.1, refl, g.holds.0), g.holds.1);
      }

  pub when_sound : SoundFor (when test) (FitsWhen n d)
  when_sound ts x e = when_step_sound ts (after_kind (reserved words.When) ts) refl x e

-- ---- clauses

-- clauses and `end`, no deeper than this
abbrev FitsBranches : TokenNames → Bool → ℕ → Branches → List NumberedToken → Type 0
FitsBranches n choice d bs ts = Before (reserved words.End) (DerivesBranches n choice bs) ts × (branches_depth bs ≤ d)

pub body_sound : (n : TokenNames) (d : ℕ) (other : Parse Expr) → SoundFor other (Fits n false body_level d)
    → SoundFor (body_parse other) (Several (mark marks.Comma) (Fits n false body_level d))
body_sound n d other sound ts x e = items_sound Expr (mark marks.Comma) (Fits n false body_level d) other sound
    (length ts) ts x e

-- readers that are sound up to this depth
pub record Reads (n : TokenNames) (d : ℕ) (r : Readers) : Type 0 where
  pub of_patterns : SoundFor r.patterns (FitsPattern n d)
  pub of_tests : SoundFor r.tests (Fits n true top d)
  pub of_elements : SoundFor r.elements (Fits n false body_level d)

module _ (n : TokenNames) (d : ℕ) (r : Readers) (reads : Reads n d r) where
  front_sound : (choice : Bool) → SoundFor (front r choice) (FitsFront n choice d)
  front_sound false ts x e =
      let a = bind_some (r.patterns ts) (λ q. when r.tests q.1 >>= λ c. Some ((q.0, c.0), c.1)) x e in
      let b = bind_some (when r.tests a.0.1) (λ c. Some ((a.0.0, c.0), c.1)) x a.2 in
      let q = reads.of_patterns ts a.0 a.1 in
      let c = when_sound n d r.tests reads.of_tests a.0.1 b.0 b.1 in
      let parts = grow ts q.front a.0.1 c.front b.0.1 q.parts c.parts in
      took_is (FitsFront n false d) ts ((a.0.0, b.0.0), b.0.1) x b.2
      (record {
        front = q.front ++ c.front;
        parts = parts;
        holds =
            ((q.front, c.front, refl, q.holds.0, c.holds.0), q.holds.1, c.holds.1);
      })
  front_sound true ts x e =
      let b = bind_some (guard r.tests ts) (λ c. Some ((s.anything, c.0), c.1)) x e in
      let c = guard_sound n d r.tests reads.of_tests ts b.0 b.1 in
      let fits = c.holds in
      took_is (FitsFront n true d) ts ((s.anything, b.0.0), b.0.1) x b.2
      (record { front = c.front; parts = c.parts; holds = ((refl, fits.0), omega (arith, fits.2), fits.1) })

  clause_sound : (choice : Bool) → SoundFor (clause r choice) (FitsClause n choice d)
  clause_sound choice ts x e =
      let a = bind_some (front r choice ts) (λ f. after_kind (mark marks.Arrow) f.1 >>= λ rest.
      body_parse r.elements rest >>= λ es. Some ((f.0, es.0), es.1)) x e in
      let b = bind_some (after_kind (mark marks.Arrow) a.0.1) (λ rest. body_parse r.elements rest >>= λ es.
      Some ((a.0.0, es.0), es.1)) x a.2 in
      let c = bind_some (body_parse r.elements b.0) (λ es. Some ((a.0.0, es.0), es.1)) x b.2 in
      let q = front_sound choice ts a.0 a.1 in
      let m = after_some (mark marks.Arrow) a.0.1 b.0 b.1 in
      let i = body_sound n d r.elements reads.of_elements b.0 c.0 c.1 in
      let parts = grow_apart ts q.front a.0.1 m.0 b.0 i.front c.0.1 q.parts m.2 i.parts in
      took_is (FitsClause n choice d) ts ((a.0.0, c.0.0), c.0.1) x c.2
      (record {
        front = q.front ++ m.0 ∷ i.front;
        parts = parts;
        holds =
            (q.front, m.0, i.front, m.1, refl, q.holds, i.holds);
      })

  branches_sound : (choice : Bool) → SoundFor (branches r choice) (FitsBranches n choice d)
  branches_sound choice ts x e =
      let c = bind_some (items (mark marks.Semicolon) (clause r choice) (length ts) ts)
      (λ cs. after_kind (reserved words.End) cs.1 >>= λ rest. Some (branches_of cs.0, rest)) x e in
      let g = bind_some (after_kind (reserved words.End) c.0.1) (λ rest. Some (branches_of c.0.0, rest)) x c.2 in
      let cs = items_sound ParsedClause (mark marks.Semicolon) (FitsClause n choice d) (clause r choice)
      (clause_sound choice) (length ts) ts c.0 c.1 in
      let last = after_some (reserved words.End) c.0.1 g.0 g.1 in
      let bs = branches_from n choice d c.0.0 cs.front cs.holds in
      let parts = grow ts cs.front c.0.1 (last.0 ∷ []) g.0 cs.parts last.2 in
      took_is (FitsBranches n choice d) ts (branches_of c.0.0, g.0) x g.2
      (record {
        front = cs.front ++ last.0 ∷ [];
        parts = parts;
        holds =
            ((cs.front, last.0, last.1, refl, bs.0), bs.1);
      })

-- ---- parts

pub arity_is : (es : List Expr) → arity_of (exprs_of es) ≡ length es
arity_is [] = refl
arity_is (e ∷ es) = let more = arity_is es in omega (arith, more)

module _ (n : TokenNames) (g : Bool) (d : ℕ) (r : Readers) (reads : Reads n d r) (inner : Parse Expr)
    (inner_sound : SoundFor inner (Fits n g top d)) where
  -- what is read after the first token
  abbrev PartAfter : NumberedToken → List NumberedToken → Expr × List NumberedToken → Type 0
  PartAfter t ts x = Took (Fits n g 0 (suc d) x.0) (t ∷ ts) x.1

  call_sound : (t : NumberedToken) (ts : List NumberedToken) (a : ℕ) → IsAtom n a t → (o : Option (List NumberedToken))
      → after_kind (mark marks.OpenParenthesis) ts ≡ o → (x : Expr × List NumberedToken)
      → call_parse_step n g inner a t.at ts o ≡ Some x → PartAfter t ts x
  call_sound t ts a h None e x f = took_is (Fits n g 0 (suc d)) (t ∷ ts) (p.atom a, ts) x f
      (record { front = t ∷ []; parts = refl; holds = ((t, h, refl), omega arith) })
  call_sound t ts a h (Some rest) e x f =
      let b = bind_some (until (mark marks.CloseParenthesis) inner rest) (λ y. call_after n g a t.at y.0 y.1) x f in
      let is_there = cond_some (call_is_there n g a (length b.0.0))
      (Some (p.call a t.at (exprs_of b.0.0), b.0.1)) x b.2 in
      let m = after_some (mark marks.OpenParenthesis) ts rest e in
      let u = until_sound Expr (mark marks.CloseParenthesis) (Fits n g top d) inner inner_sound rest b.0 b.1 in
      let c = u.holds in
      let all = all_from n g d b.0.0 c.0 c.4 in
      let may : IsTrue (call_is_there n g a (arity_of (exprs_of b.0.0))) =
      ap (call_is_there n g a) (arity_is b.0.0) ∙ is_there.0 in
      let tail : ts ≡ (m.0 ∷ u.front) ++ b.0.1 = m.2 ∙ ap (λ (l : List NumberedToken). m.0 ∷ l) u.parts in
      took_is (Fits n g 0 (suc d)) (t ∷ ts) (p.call a t.at (exprs_of b.0.0), b.0.1) x is_there.1
      (record {
        front = t ∷ m.0 ∷ u.front;
        parts = ap (λ (l : List NumberedToken). t ∷ l) tail;
        holds = (
          (t, m.0 ∷ u.front, h, refl, refl, may, (m.0, u.front, m.1, refl, (c.0, c.1, c.2, c.3, all.0))),
          omega (arith, all.1),
        );
      })

  atom_or_call_sound : (t : NumberedToken) (ts : List NumberedToken) (o : Option ℕ)
      → ((a : ℕ) → o ≡ Some a → IsAtom n a t) → (x : Expr × List NumberedToken)
      → atom_or_call n g inner o t.at ts ≡ Some x → PartAfter t ts x
  atom_or_call_sound t ts None h x f = absurd cc
  atom_or_call_sound t ts (Some a) h x f = call_sound t ts a (h a refl)
      (after_kind (mark marks.OpenParenthesis) ts) refl x f

  parenthesized_sound : (t : NumberedToken) (ts : List NumberedToken) → t.kind ≡ mark marks.OpenParenthesis
      → (x : Expr × List NumberedToken) → parenthesized inner ts ≡ Some x → PartAfter t ts x
  parenthesized_sound t ts h x f =
      let b = bind_some (inner ts) (λ y. after_kind (mark marks.CloseParenthesis) y.1 >>= λ rest.
      Some (p.parentheses y.0, rest)) x f in
      let c = bind_some (after_kind (mark marks.CloseParenthesis) b.0.1)
      (λ rest. Some (p.parentheses b.0.0, rest)) x b.2 in
      let m = after_some (mark marks.CloseParenthesis) b.0.1 c.0 c.1 in
      let i = inner_sound ts b.0 b.1 in
      let tail = grow ts i.front b.0.1 (m.0 ∷ []) c.0 i.parts m.2 in
      took_is (Fits n g 0 (suc d)) (t ∷ ts) (p.parentheses b.0.0, c.0) x c.2
      (record {
        front = t ∷ (i.front ++ m.0 ∷ []);
        parts = ap (λ (l : List NumberedToken). t ∷ l) tail;
        holds =
            ((t, i.front ++ m.0 ∷ [], h, refl, (i.front, m.0, m.1, refl, i.holds.0)), omega (arith, i.holds.1));
      })

  tuple_sound : (t : NumberedToken) (ts : List NumberedToken) → t.kind ≡ mark marks.OpenBrace
      → (x : Expr × List NumberedToken) → tuple inner ts ≡ Some x → PartAfter t ts x
  tuple_sound t ts h x f =
      let b = bind_some (until (mark marks.CloseBrace) inner ts) (λ y. Some (p.tuple (exprs_of y.0), y.1)) x f in
      let u = until_sound Expr (mark marks.CloseBrace) (Fits n g top d) inner inner_sound ts b.0 b.1 in
      let c = u.holds in
      let all = all_from n g d b.0.0 c.0 c.4 in
      took_is (Fits n g 0 (suc d)) (t ∷ ts) (p.tuple (exprs_of b.0.0), b.0.1) x b.2
      (record {
        front = t ∷ u.front;
        parts = ap (λ (l : List NumberedToken). t ∷ l) u.parts;
        holds =
            ((t, u.front, h, refl, (c.0, c.1, c.2, c.3, all.0)), omega (arith, all.1));
      })

  listed_fits : (t : NumberedToken) (mid : List NumberedToken) (y : Listed Expr) → t.kind ≡ mark marks.OpenBracket
      → ListedIs (Fits n g top d) y mid → Fits n g 0 (suc d) (listed_expression y) (t ∷ mid)
  listed_fits t mid (es, None) h c = let all = all_from n g d es c.0 c.4 in
      ((t, mid, h, refl, (c.0, c.1, c.2, c.3, all.0)), omega (arith, all.1))
  listed_fits t mid (es, Some a) h c =
      let b = c.4 in
      let some = b.5 in
      let last = b.6 in
      let all = all_from n g d es b.0 some.0 in (
        (has_from es some.1, (t, mid, h, refl, (c.0, c.1, c.2, c.3, (b.0, b.1, b.2, b.3, b.4, all.0, last.0)))),
        omega (arith, all.1, last.1),
      )

  list_sound : (t : NumberedToken) (ts : List NumberedToken) → t.kind ≡ mark marks.OpenBracket
      → (x : Expr × List NumberedToken) → list inner ts ≡ Some x → PartAfter t ts x
  list_sound t ts h x f =
      let b = bind_some (listed inner ts) (λ y. Some (listed_expression y.0, y.1)) x f in
      let u = listed_sound Expr (Fits n g top d) inner inner_sound ts b.0 b.1 in
      took_is (Fits n g 0 (suc d)) (t ∷ ts) (listed_expression b.0.0, b.0.1) x b.2
      (record {
        front = t ∷ u.front;
        parts = ap (λ (l : List NumberedToken). t ∷ l) u.parts;
        holds =
            listed_fits t u.front b.0.0 h u.holds;
      })

  marked_sound : (t : NumberedToken) (ts : List NumberedToken) (m : TokenMark) → t.kind ≡ mark m
      → (x : Expr × List NumberedToken) → marked inner m ts ≡ Some x → PartAfter t ts x
  marked_sound t ts marks.OpenParenthesis h x f = parenthesized_sound t ts h x f
  marked_sound t ts marks.OpenBrace h x f = tuple_sound t ts h x f
  marked_sound t ts marks.OpenBracket h x f = list_sound t ts h x f
  marked_sound t ts _ h x f = absurd cc

  case_sound : (t : NumberedToken) (ts : List NumberedToken) → IsTrue (may_be_there g Deciding)
      → t.kind ≡ reserved words.Case → (x : Expr × List NumberedToken) → case_of r inner ts ≡ Some x → PartAfter t ts x
  case_sound t ts may h x f =
      let a = bind_some (inner ts) (λ y. after_kind (reserved words.Of) y.1 >>= λ rest. branches r false rest >>= λ bs.
      Some (p.case y.0 bs.0, bs.1)) x f in
      let b = bind_some (after_kind (reserved words.Of) a.0.1) (λ rest. branches r false rest >>= λ bs.
      Some (p.case a.0.0 bs.0, bs.1)) x a.2 in
      let c = bind_some (branches r false b.0) (λ bs. Some (p.case a.0.0 bs.0, bs.1)) x b.2 in
      let i = inner_sound ts a.0 a.1 in
      let m = after_some (reserved words.Of) a.0.1 b.0 b.1 in
      let bs = branches_sound n d r reads false b.0 c.0 c.1 in
      let fits = bs.holds in
      let last = fits.0 in
      let mid : List NumberedToken = i.front ++ m.0 ∷ bs.front in
      let tail : ts ≡ mid ++ c.0.1 = grow_apart ts i.front a.0.1 m.0 b.0 bs.front c.0.1 i.parts m.2 bs.parts in
      let split : mid ≡ (i.front ++ m.0 ∷ last.0) ++ last.1 ∷ [] =
      ap (λ (l : List NumberedToken). i.front ++ m.0 ∷ l) last.3
      ∙ sym (append_assoc i.front (m.0 ∷ last.0) (last.1 ∷ [])) in
      took_is (Fits n g 0 (suc d)) (t ∷ ts) (p.case a.0.0 c.0.0, c.0.1) x c.2
      (record {
        front = t ∷ mid;
        parts = ap (λ (l : List NumberedToken). t ∷ l) tail;
        holds = (
          (
            may,
            (
              t,
              mid,
              h,
              refl,
              (
                i.front ++ m.0 ∷ last.0,
                last.1,
                last.2,
                split,
                (i.front, m.0, last.0, m.1, refl, i.holds.0, last.4),
              ),
            ),
          ),
          omega (arith, i.holds.1, fits.1),
        );
      })

  if_sound : (t : NumberedToken) (ts : List NumberedToken) → IsTrue (may_be_there g Choosing)
      → t.kind ≡ reserved words.If
      → (x : Expr × List NumberedToken) → if_of r ts ≡ Some x → PartAfter t ts x
  if_sound t ts may h x f =
      let c = bind_some (branches r true ts) (λ bs. Some (p.if_expression bs.0, bs.1)) x f in
      let bs = branches_sound n d r reads true ts c.0 c.1 in
      let fits = bs.holds in
      took_is (Fits n g 0 (suc d)) (t ∷ ts) (p.if_expression c.0.0, c.0.1) x c.2
      (record {
        front = t ∷ bs.front;
        parts = ap (λ (l : List NumberedToken). t ∷ l) bs.parts;
        holds =
            ((may, (t, bs.front, h, refl, fits.0)), omega (arith, fits.1));
      })

  receive_sound : (t : NumberedToken) (ts : List NumberedToken) → IsTrue (may_be_there g Receiving)
      → t.kind ≡ reserved words.Receive → (x : Expr × List NumberedToken) → receive_parse r ts ≡ Some x
      → PartAfter t ts x
  receive_sound t ts may h x f =
      let c = bind_some (branches r false ts) (λ bs. Some (p.receive bs.0, bs.1)) x f in
      let bs = branches_sound n d r reads false ts c.0 c.1 in
      let fits = bs.holds in
      took_is (Fits n g 0 (suc d)) (t ∷ ts) (p.receive c.0.0, c.0.1) x c.2
      (record {
        front = t ∷ bs.front;
        parts = ap (λ (l : List NumberedToken). t ∷ l) bs.parts;
        holds =
            ((may, (t, bs.front, h, refl, fits.0)), omega (arith, fits.1));
      })

  worded_sound : (t : NumberedToken) (ts : List NumberedToken) (w : Reserved) → t.kind ≡ reserved w
      → (x : Expr × List NumberedToken) → reserved_parse r g inner w ts ≡ Some x → PartAfter t ts x
  worded_sound t ts words.Case h x f = let c = cond_some (may_be_there g Deciding) (case_of r inner ts) x f in
      case_sound t ts c.0 h x c.1
  worded_sound t ts words.If h x f = let c = cond_some (may_be_there g Choosing) (if_of r ts) x f in
      if_sound t ts c.0 h x c.1
  worded_sound t ts words.Receive h x f = let c = cond_some (may_be_there g Receiving) (receive_parse r ts) x f in
      receive_sound t ts c.0 h x c.1
  worded_sound t ts _ h x f = absurd cc

  kind_sound : (t : NumberedToken) (ts : List NumberedToken) (kind : NumberedKind) → t.kind ≡ kind
      → (x : Expr × List NumberedToken) → prim_kind n r g inner kind t.at ts ≡ Some x → PartAfter t ts x
  kind_sound t ts (integer k) e x f = took_is (Fits n g 0 (suc d)) (t ∷ ts) (p.integer (pos k), ts) x f
      (record { front = t ∷ []; parts = refl; holds = ((k, refl, (t, e, refl)), omega arith) })
  kind_sound t ts (text cs) e x f =
      let c = cond_some (is_short cs) (Some (p.text cs, ts)) x f in
      took_is (Fits n g 0 (suc d)) (t ∷ ts) (p.text cs, ts) x c.1
      (record { front = t ∷ []; parts = refl; holds = ((short_some cs c.0, (t, e, refl)), omega arith) })
  kind_sound t ts (variable y) e x f = took_is (Fits n g 0 (suc d)) (t ∷ ts) (p.variable y t.at, ts) x f
      (record { front = t ∷ []; parts = refl; holds = ((t, e, refl, refl), omega arith) })
  kind_sound t ts anonymous e x f = took_is (Fits n g 0 (suc d)) (t ∷ ts) (p.anonymous t.at, ts) x f
      (record { front = t ∷ []; parts = refl; holds = ((t, e, refl, refl), omega arith) })
  kind_sound t ts (mark m) e x f = marked_sound t ts m e x f
  kind_sound t ts (reserved w) e x f = worded_sound t ts w e x f
  kind_sound t ts (atom a) e x f = atom_or_call_sound t ts (atom_in n (atom a))
      (λ b h. atom_in_some n (atom a) t b e h) x f
  kind_sound t ts own_module e x f = atom_or_call_sound t ts (atom_in n own_module)
      (λ b h. atom_in_some n own_module t b e h) x f
  kind_sound t ts dot e x f = absurd cc

  prim_sound : SoundFor (prim_with n r g inner) (Fits n g 0 (suc d))
  prim_sound [] x e = absurd cc
  prim_sound (t ∷ ts) x e = kind_sound t ts t.kind refl x e

-- ---- levels

-- an expression of a level is one of each level above it
pub up : (n : TokenNames) (g : Bool) (e : Expr) (low high : ℕ) (ts : List NumberedToken) → low ≤ high
    → Derives n g e low ts → Derives n g e high ts
up n g (p.negate e) low high ts le h = (omega (arith, h.0), h.1)
up n g (p.binary o a b) low high ts le h = (omega (arith, h.0), h.1, h.2)
up n g (p.and_also a b) low high ts le h = (omega (arith, h.0), h.1, h.2)
up n g (p.or_else a b) low high ts le h = (omega (arith, h.0), h.1, h.2)
up n g (p.send a b) low high ts le h = (omega (arith, h.0), h.1, h.2)
up n g (p.match q e) low high ts le h = (omega (arith, h.0), h.1)
up n g _ low high ts le h = h

took_up : (n : TokenNames) (g : Bool) (e : Expr) (low high limit : ℕ) (ts rest : List NumberedToken) → low ≤ high
    → Took (Fits n g low limit e) ts rest → Took (Fits n g high limit e) ts rest
took_up n g e low high limit ts rest le t = record {
  front = t.front;
  parts = t.parts;
  holds =
      (up n g e low high t.front le t.holds.0, t.holds.1);
}

joined_derives : (n : TokenNames) (g : Bool) (i : Infix) (a b : Expr) (level : ℕ) (ts : List NumberedToken)
    → Joined g i level (Derives n g a) (Derives n g b) ts → Derives n g (joined_exprs i a b) level ts
joined_derives n g (Operator o) a b level ts h = h
joined_derives n g AndAlso a b level ts h = h
joined_derives n g OrElse a b level ts h = h
joined_derives n g Send a b level ts h = h

pub within_some : (limit : ℕ) (e : Expr) (ts : List NumberedToken) (x : Expr × List NumberedToken)
    → within limit e ts ≡ Some x → (Some (e, ts) ≡ Some x) × (expr_depth e ≤ limit)
within_some limit e ts x f = let c = cond_some (nat_le (expr_depth e) limit) (Some (e, ts)) x f in
    (c.1, leb-true _ _ c.0)

module _ (n : TokenNames) (g : Bool) (prim : Parse Expr) (limit : ℕ) (sound : SoundFor prim (Fits n g 0 limit)) where
  unary_step_sound : (ts : List NumberedToken) (o : Option (List NumberedToken)) → after_kind (mark marks.Minus) ts ≡ o
      → (x : Expr × List NumberedToken) → unary_step prim limit ts o ≡ Some x → Took (Fits n g 1 limit x.0) ts x.1
  unary_step_sound ts None e x f = took_up n g x.0 0 1 limit ts x.1 (omega arith) (sound ts x f)
  unary_step_sound ts (Some rest) e x f =
      let a = bind_some (prim rest) (λ y. within limit (p.negate y.0) y.1) x f in
      let w = within_some limit (p.negate a.0.0) a.0.1 x a.2 in
      let m = after_some (mark marks.Minus) ts rest e in
      let i = sound rest a.0 a.1 in
      took_is (Fits n g 1 limit) ts (p.negate a.0.0, a.0.1) x w.0
      (record {
        front = m.0 ∷ i.front;
        parts = m.2 ∙ ap (λ (l : List NumberedToken). m.0 ∷ l) i.parts;
        holds =
            ((omega arith, (m.0, i.front, m.1, refl, i.holds.0)), w.1);
      })

  unary_sound : SoundFor (unary prim limit) (Fits n g 1 limit)
  unary_sound ts x e = unary_step_sound ts (after_kind (mark marks.Minus) ts) refl x e

module _ (n : TokenNames) (g : Bool) (deeper : ℕ → Parse Expr) (d : ℕ) (sound : (k : ℕ) → 1 ≤ k
    → SoundFor (deeper k) (Fits n g k d)) (limit level : ℕ) where
  abbrev MoreSound : (ℕ → Expr → Parse Expr) → Type 0
  MoreSound go = (floor : ℕ) → floor ≤ level → (ts : List NumberedToken) (left : Expr) (r : List NumberedToken)
      → Took (Fits n g floor limit left) ts r → (x : Expr × List NumberedToken) → go floor left r ≡ Some x
      → Took (Fits n g level limit x.0) ts x.1

  more_step_sound : (go : ℕ → Expr → Parse Expr) → MoreSound go → (floor : ℕ) → floor ≤ level
      → (ts : List NumberedToken) (left : Expr) (r : List NumberedToken) → Took (Fits n g floor limit left) ts r
      → (o : Option (Infix × List NumberedToken)) → infix_ahead g floor level r ≡ o → (x : Expr × List NumberedToken)
      → more_step deeper limit go left r o ≡ Some x → Took (Fits n g level limit x.0) ts x.1
  more_step_sound go again floor low ts left r took None e x f = took_is (Fits n g level limit) ts (left, r) x f
      (took_up n g left floor level limit ts r low took)
  more_step_sound go again floor low ts left r took (Some i) e x f =
      let a = bind_some (deeper (right_level i.0) i.1)
      (λ right. within limit (joined_exprs i.0 left right.0) right.1 >>= λ y. go (level_of i.0) y.0 y.1) x f in
      let b = bind_some (within limit (joined_exprs i.0 left a.0.0) a.0.1) (λ y. go (level_of i.0) y.0 y.1) x a.2 in
      let w = within_some limit (joined_exprs i.0 left a.0.0) a.0.1 b.0 b.1 in
      let op = infix_some g floor level r i e in
      let right = sound (right_level i.0) (right_low i.0) i.1 a.0 a.1 in
      let parts = grow_apart ts took.front r op.0 i.1 right.front a.0.1 took.parts op.2 right.parts in
      let left_fits = up n g left floor (left_level i.0) took.front op.4 took.holds.0 in
      let derives = joined_derives n g i.0 left a.0.0 (level_of i.0) (took.front ++ op.0 ∷ right.front)
      (omega arith, op.3, (took.front, op.0, right.front, op.1, refl, left_fits, right.holds.0)) in
      let now = took_is (Fits n g (level_of i.0) limit) ts (joined_exprs i.0 left a.0.0, a.0.1) b.0 w.0
      (record { front = took.front ++ op.0 ∷ right.front; parts = parts; holds = (derives, w.1) }) in
      again (level_of i.0) op.5 ts b.0.0 b.0.1 now x b.2

  more_sound : (turns : ℕ) → MoreSound (more deeper g limit level turns)
  unfolding more
  more_sound zero floor low ts left r took x e = took_is (Fits n g level limit) ts (left, r) x e
      (took_up n g left floor level limit ts r low took)
  more_sound (suc turns) floor low ts left r took x e = more_step_sound (more deeper g limit level turns)
      (more_sound turns) floor low ts left r took (infix_ahead g floor level r) refl x e

  level_with_sound : (prim : Parse Expr) → SoundFor prim (Fits n g 0 limit) → 1 ≤ level
      → SoundFor (level_with prim deeper g limit level) (Fits n g level limit)
  level_with_sound prim part some ts x e =
      let b = bind_some (unary prim limit ts) (λ y. more deeper g limit level (length y.1) 1 y.0 y.1) x e in
      more_sound (length b.0.1) 1 some ts b.0.0 b.0.1 (unary_sound n g prim limit part ts b.0 b.1) x b.2

pub parse_expr_with_sound : (n : TokenNames) (g : Bool) (d : ℕ) (r : Readers) → Reads n d r → (deeper : ℕ → Parse Expr)
    → ((k : ℕ) → 1 ≤ k → SoundFor (deeper k) (Fits n g k d)) → (level : ℕ) → 1 ≤ level
    → SoundFor (parse_expr_with n r g deeper (suc d) level) (Fits n g level (suc d))
parse_expr_with_sound n g d r reads deeper sound level some = level_with_sound n g deeper d sound (suc d) level
    (prim_with n r g (deeper top)) (prim_sound n g d r reads (deeper top) (sound top (omega arith))) some

-- ---- elements of bodies

match_ahead_some : (n : TokenNames) (d : ℕ) (pat : Parse ExprPattern) → SoundFor pat (FitsPattern n d)
    → (ts : List NumberedToken) (x : ExprPattern × List NumberedToken) → match_ahead pat ts ≡ Some x
    → (xs : List NumberedToken) × (t : NumberedToken) × (t.kind ≡ mark marks.Match) × (ts ≡ (xs ++ t ∷ []) ++ x.1)
    × DerivesExprPattern n x.0 xs
match_ahead_some n d pat sound ts x e =
    let a = bind_some (pat ts) (λ q. after_kind (mark marks.Match) q.1 >>= λ rest. Some (q.0, rest)) x e in
    let b = bind_some (after_kind (mark marks.Match) a.0.1) (λ rest. Some (a.0.0, rest)) x a.2 in
    let q = sound ts a.0 a.1 in
    let m = after_some (mark marks.Match) a.0.1 b.0 b.1 in
    let parts = grow ts q.front a.0.1 (m.0 ∷ []) b.0 q.parts m.2 in
    subst (λ (y : ExprPattern × List NumberedToken). (xs : List NumberedToken) × (t : NumberedToken)
    × (t.kind ≡ mark marks.Match) × (ts ≡ (xs ++ t ∷ []) ++ y.1) × DerivesExprPattern n y.0 xs)
    (some_is (a.0.0, b.0) x b.2) (q.front, m.0, m.1, parts, q.holds.0)

module _ (n : TokenNames) (d : ℕ) (pat : Parse ExprPattern) (pat_sound : SoundFor pat (FitsPattern n d))
    (plain other : Parse Expr) (plain_sound : SoundFor plain (Fits n false top (suc d)))
    (other_sound : SoundFor other (Fits n false body_level d)) where
  element_step_sound : (ts : List NumberedToken) (o : Option (ExprPattern × List NumberedToken))
      → match_ahead pat ts ≡ o → (x : Expr × List NumberedToken) → element_step plain other (suc d) ts o ≡ Some x
      → Took (Fits n false body_level (suc d) x.0) ts x.1
  element_step_sound ts None e x f = took_up n false x.0 top body_level (suc d) ts x.1 (omega arith)
      (plain_sound ts x f)
  element_step_sound ts (Some q) e x f =
      let a = bind_some (other q.1) (λ y. within (suc d) (p.match q.0 y.0) y.1) x f in
      let w = within_some (suc d) (p.match q.0 a.0.0) a.0.1 x a.2 in
      let m = match_ahead_some n d pat pat_sound ts q e in
      let i = other_sound q.1 a.0 a.1 in
      let parts : ts ≡ (m.0 ++ m.1 ∷ i.front) ++ a.0.1 = m.3 ∙ ap (λ (l : List NumberedToken). (m.0 ++ m.1 ∷ []) ++ l)
      i.parts ∙ sym (append_assoc (m.0 ++ m.1 ∷ []) i.front a.0.1) ∙ ap (λ (l : List NumberedToken). l ++ a.0.1)
      (append_assoc m.0 (m.1 ∷ []) i.front) in
      took_is (Fits n false body_level (suc d)) ts (p.match q.0 a.0.0, a.0.1) x w.0
      (record {
        front = m.0 ++ m.1 ∷ i.front;
        parts = parts;
        holds =
            ((omega arith, (m.0, m.1, i.front, m.2, refl, m.4, i.holds.0)), w.1);
      })

both_sound : (n : TokenNames) (d : ℕ) → ((g : Bool) (level : ℕ) → 1 ≤ level
    → SoundFor (parse_expr n g d level) (Fits n g level d)) × SoundFor (element n d) (Fits n false body_level d)
unfolding parse_expr element
both_sound n zero = (λ g level some ts x e. absurd cc, λ ts x e. absurd cc)
both_sound n (suc d) =
    let below = both_sound n d in
    let r : Readers = record { patterns = pattern n d; tests = parse_expr n true d top; elements = element n d } in
    let reads : Reads n d r = record {
      of_patterns = pattern_sound n d;
      of_tests = below.0 true top (omega arith);
      of_elements = below.1;
    } in
    let plain : (g : Bool) (level : ℕ) → 1 ≤ level
    → SoundFor (parse_expr_with n r g (parse_expr n g d) (suc d) level) (Fits n g level (suc d)) = λ g level some.
    parse_expr_with_sound n g d r reads (parse_expr n g d) (below.0 g) level some in (
      plain,
      λ ts x e. element_step_sound n d (pattern n d) (pattern_sound n d)
          (parse_expr_with n r false (parse_expr n false d) (suc d) top) (element n d) (plain false top (omega arith))
          below.1 ts (match_ahead (pattern n d) ts) refl x e,
    )

pub parse_expr_sound : (n : TokenNames) (g : Bool) (d level : ℕ) → 1 ≤ level
    → SoundFor (parse_expr n g d level) (Fits n g level d)
parse_expr_sound n g d level some = (both_sound n d).0 g level some

pub element_sound : (n : TokenNames) (d : ℕ) → SoundFor (element n d) (Fits n false body_level d)
element_sound n d = (both_sound n d).1

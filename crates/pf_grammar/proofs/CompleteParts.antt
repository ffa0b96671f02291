-- Each part of an expression that derives tokens is read, where the expressions in it are.
use Rattle.std.proofs.Common.{◌≡◌, ℕ, suc, List, [], ◌∷◌, ◌++◌, length, Bool, true, false, Some, None, refl, ap, ◌∙◌}
use Rattle.std.proofs.Common.{arith, append_assoc, inl, inr}
use Rattle.pf_tokens.specs.declared.marks.TokenMark.{TokenMark}
use Rattle.pf_tokens.specs.declared.marks.TokenMark.TheVariants as marks
use Rattle.pf_tokens.specs.declared.words.Reserved.TheVariants as words
use Rattle.pf_syntax.specs.Expr as p
use Rattle.pf_syntax.specs.Expr.{Expr, Exprs, Branches, expr_depth, exprs_depth, branches_depth}
use Rattle.pf_tokens.specs.NumberedTokens.{NumberedKind, atom, mark, reserved, NumberedToken}
use Rattle.pf_grammar.specs.Grammar.{TokenNames, IsAtom, Between, Apart, infix_of, top, call_is_there, Derives}
use Rattle.pf_grammar.specs.Grammar.{DerivesBranches}
use Rattle.pf_grammar.specs.declared.infix.Infix.TheVariants.{Operator, AndAlso, OrElse, Send}
use Rattle.pf_grammar.specs.Parse.{is, after_kind, atom_in, until, listed, call_parse_step, prim_with, readers}
use Rattle.pf_grammar.specs.Parse.{parse_expr}
use Rattle.pf_grammar.proofs.Single.{after_here, atom_in_is, short_is, level_low}
use Rattle.pf_grammar.proofs.Lists.{CompleteFor, Closed, ListedIs, until_complete, listed_complete}
use Rattle.pf_grammar.proofs.Groups.{Fits, expr_list, exprs_back, list_arity, all_to, has_to}
use Rattle.pf_grammar.proofs.Stops.{Stops, stops_kind, begins_one, starts_opens, expression_starts}
use Rattle.pf_grammar.proofs.CompleteClauses.{ExpressionsRead, ElementsRead, branches_complete}

-- a mark that closes expressions with commas
record Closes (m : TokenMark) : Type 0 where
  plain : is (mark m) (mark m) ≡ true
  no_comma : is (mark marks.Comma) (mark m) ≡ false
  no_start : begins_one true (mark m) ≡ false
  no_infix : infix_of (mark m) ≡ None
  no_call : is (mark marks.OpenParenthesis) (mark m) ≡ false

closes_parenthesis : Closes marks.CloseParenthesis
closes_parenthesis = record { plain = refl; no_comma = refl; no_start = refl; no_infix = refl; no_call = refl }

closes_brace : Closes marks.CloseBrace
closes_brace = record { plain = refl; no_comma = refl; no_start = refl; no_infix = refl; no_call = refl }

-- a word, what follows it, and `end`
between_regroup : (first last : NumberedKind) (P : List NumberedToken → Type 0) (front rest : List NumberedToken)
    (h : Between first last P front) → front ++ rest ≡ h.0 ∷ (h.4.0 ++ h.4.1 ∷ rest)
between_regroup first last P front rest h =
    let b = h.4 in
    ap (λ (l : List NumberedToken). l ++ rest) (h.3 ∙ ap (λ (l : List NumberedToken). h.0 ∷ l) b.3)
    ∙ ap (λ (l : List NumberedToken). h.0 ∷ l) (append_assoc b.0 (b.1 ∷ []) rest)

module _ (n : TokenNames) (d : ℕ) (parse_exprs : ExpressionsRead n d) (elements : ElementsRead n d) (g : Bool) where
  inner_complete : CompleteFor (parse_expr n g d top) (Fits n g top d) (Stops g top)
  inner_complete = parse_exprs g top (omega arith) (omega arith)

  all_complete : (m : TokenMark) → Closes m → (es : Exprs) (front rest : List NumberedToken)
      → Closed (mark m) (Fits n g top d) (expr_list es) front
      → until (mark m) (parse_expr n g d top) (front ++ rest) ≡ Some (expr_list es, rest)
  all_complete m c es front rest h =
      until_complete Expr (mark m) (Fits n g top d) (parse_expr n g d top) (Stops g top) c.plain c.no_comma
      inner_complete (λ e xs f. starts_opens true (mark m) xs c.no_start (expression_starts n g e top xs f.0))
      (λ t ts e. stops_kind g top (mark marks.Comma) t ts e refl refl)
      (λ t ts e. stops_kind g top (mark m) t ts e c.no_infix c.no_call) (expr_list es) front rest h

  list_complete : CompleteFor (listed (parse_expr n g d top)) (ListedIs (Fits n g top d)) (λ rest. Unit {0})
  list_complete x front rest h u =
      listed_complete Expr (Fits n g top d) (parse_expr n g d top) (Stops g top) inner_complete
      (λ e xs f. starts_opens true (mark marks.CloseBracket) xs refl (expression_starts n g e top xs f.0))
      (λ t ts e. stops_kind g top (mark marks.Comma) t ts e refl refl)
      (λ t ts e. stops_kind g top (mark marks.Bar) t ts e refl refl)
      (λ t ts e. stops_kind g top (mark marks.CloseBracket) t ts e refl refl) x front rest h

  prim_atom : (a : ℕ) (t : NumberedToken) (ts : List NumberedToken) → IsAtom n a t
      → prim_with n (readers n d) g (parse_expr n g d top) (t ∷ ts) ≡ call_parse_step n g (parse_expr n g d top) a t.at
      ts (after_kind (mark marks.OpenParenthesis) ts)
  prim_atom a t ts (inl h) = let e = h.0 in let i = atom_in_is n a t (inl h) in
      let j : atom_in n (atom a) ≡ Some a = rw e at i in rw (e, j) refl
  prim_atom a t ts (inr h) = let e = h.0 in let own = h.1 in rw (e, own) refl

  tuple_complete : (es : Exprs) (front rest : List NumberedToken) → Fits n g 0 (suc d) (p.tuple es) front
      → prim_with n (readers n d) g (parse_expr n g d top) (front ++ rest) ≡ Some (p.tuple es, rest)
  tuple_complete es front rest fits =
      let h = fits.0 in
      let b = h.4 in
      let e = h.2 in
      let w = h.3 in
      let all = all_complete marks.CloseBrace closes_brace es h.1 rest (
        b.0,
        b.1,
        b.2,
        b.3,
        all_to n g d es b.0 b.4 (omega (arith, fits.1)),
      ) in
      let back = exprs_back es in
      rw (w, e, all, back) refl

  plain_list_complete : (es : Exprs) (front rest : List NumberedToken) → Fits n g 0 (suc d) (p.list es) front
      → prim_with n (readers n d) g (parse_expr n g d top) (front ++ rest) ≡ Some (p.list es, rest)
  plain_list_complete es front rest fits =
      let h = fits.0 in
      let b = h.4 in
      let e = h.2 in
      let w = h.3 in
      let all = list_complete (expr_list es, None) h.1 rest (
        b.0,
        b.1,
        b.2,
        b.3,
        all_to n g d es b.0 b.4 (omega (arith, fits.1)),
      ) tt in
      let back = exprs_back es in
      rw (w, e, all, back) refl

  list_on_complete : (es : Exprs) (a : Expr) (front rest : List NumberedToken)
      → Fits n g 0 (suc d) (p.list_on es a) front → prim_with n (readers n d) g (parse_expr n g d top) (front ++ rest)
      ≡ Some (p.list_on es a, rest)
  list_on_complete es a front rest fits =
      let f = fits.0 in
      let h = f.1 in
      let b = h.4 in
      let c = b.4 in
      let e = h.2 in
      let w = h.3 in
      let shallow = fits.1 in
      let all = list_complete (expr_list es, Some a) h.1 rest (
        b.0,
        b.1,
        b.2,
        b.3,
        (
          c.0,
          c.1,
          c.2,
          c.3,
          c.4,
          (all_to n g d es c.0 c.5 (omega (arith, shallow)), has_to es f.0),
          (c.6, omega (arith, shallow)),
        ),
      ) tt in
      let back = exprs_back es in
      rw (w, e, all, back) refl

  call_complete : (f at : ℕ) (es : Exprs) (front rest : List NumberedToken) → Fits n g 0 (suc d) (p.call f at es) front
      → prim_with n (readers n d) g (parse_expr n g d top) (front ++ rest) ≡ Some (p.call f at es, rest)
  call_complete f at es front rest fits =
      let h = fits.0 in
      let b = h.6 in
      let c = b.4 in
      let regroup : front ++ rest ≡ h.0 ∷ b.0 ∷ (b.1 ++ rest) =
      ap (λ (l : List NumberedToken). l ++ rest) (h.4 ∙ ap (λ (l : List NumberedToken). h.0 ∷ l) b.3) in
      let opens = after_here (mark marks.OpenParenthesis) b.0 (b.1 ++ rest) refl b.2 in
      let all = all_complete marks.CloseParenthesis closes_parenthesis es b.1 rest (
        c.0,
        c.1,
        c.2,
        c.3,
        all_to n g d es c.0 c.4 (omega (arith, fits.1)),
      ) in
      let offset = h.3 in
      let arity = list_arity es in
      let is_there : call_is_there n g f (length (expr_list es)) ≡ true = rw arity h.5 in
      let back = exprs_back es in
      ap (prim_with n (readers n d) g (parse_expr n g d top)) regroup ∙ prim_atom f h.0 (b.0 ∷ (b.1 ++ rest)) h.2
      ∙ rw (opens, all, is_there, offset, back) refl

  parentheses_complete : (a : Expr) (front rest : List NumberedToken) → Fits n g 0 (suc d) (p.parentheses a) front
      → prim_with n (readers n d) g (parse_expr n g d top) (front ++ rest) ≡ Some (p.parentheses a, rest)
  parentheses_complete a front rest fits =
      let h = fits.0 in
      let b = h.4 in
      let regroup = between_regroup (mark marks.OpenParenthesis) (mark marks.CloseParenthesis) (Derives n g a top)
      front rest h in
      let e = h.2 in
      let one = inner_complete a b.0 (b.1 ∷ rest) (b.4, omega (arith, fits.1))
      (stops_kind g top (mark marks.CloseParenthesis) b.1 rest b.2 refl refl) in
      let closes = after_here (mark marks.CloseParenthesis) b.1 rest refl b.2 in
      ap (prim_with n (readers n d) g (parse_expr n g d top)) regroup ∙ rw (e, one, closes) refl

  case_complete : (a : Expr) (bs : Branches) (front rest : List NumberedToken) → Fits n g 0 (suc d) (p.case a bs) front
      → prim_with n (readers n d) g (parse_expr n g d top) (front ++ rest) ≡ Some (p.case a bs, rest)
  case_complete a bs front rest fits =
      let f = fits.0 in
      let is_there = f.0 in
      let h = f.1 in
      let b = h.4 in
      let c = b.4 in
      let after = b.1 ∷ rest in
      let shallow = fits.1 in
      let regroup : front ++ rest ≡ h.0 ∷ (c.0 ++ c.1 ∷ (c.2 ++ after)) =
      between_regroup (reserved words.Case) (reserved words.End)
      (Apart (reserved words.Of) (Derives n g a top) (DerivesBranches n false bs)) front rest h
      ∙ ap (λ (l : List NumberedToken). h.0 ∷ l) (ap (λ (l : List NumberedToken). l ++ after) c.4 ∙ append_assoc c.0
      (c.1 ∷ c.2) after) in
      let e = h.2 in
      let one = inner_complete a c.0 (c.1 ∷ (c.2 ++ after)) (c.5, omega (arith, shallow))
      (stops_kind g top (reserved words.Of) c.1 (c.2 ++ after) c.3 refl refl) in
      let of_word = after_here (reserved words.Of) c.1 (c.2 ++ after) refl c.3 in
      let all = branches_complete n d parse_exprs elements false bs c.2 rest b.1 b.2 c.6 (omega (arith, shallow)) in
      ap (prim_with n (readers n d) g (parse_expr n g d top)) regroup ∙ rw (e, is_there, one, of_word, all) refl

  if_complete : (bs : Branches) (front rest : List NumberedToken) → Fits n g 0 (suc d) (p.if_expression bs) front
      → prim_with n (readers n d) g (parse_expr n g d top) (front ++ rest) ≡ Some (p.if_expression bs, rest)
  if_complete bs front rest fits =
      let f = fits.0 in
      let is_there = f.0 in
      let h = f.1 in
      let b = h.4 in
      let regroup = between_regroup (reserved words.If) (reserved words.End) (DerivesBranches n true bs) front rest h in
      let e = h.2 in
      let all = branches_complete n d parse_exprs elements true bs b.0 rest b.1 b.2 b.4 (omega (arith, fits.1)) in
      ap (prim_with n (readers n d) g (parse_expr n g d top)) regroup ∙ rw (e, is_there, all) refl

  receive_complete : (bs : Branches) (front rest : List NumberedToken) → Fits n g 0 (suc d) (p.receive bs) front
      → prim_with n (readers n d) g (parse_expr n g d top) (front ++ rest) ≡ Some (p.receive bs, rest)
  receive_complete bs front rest fits =
      let f = fits.0 in
      let is_there = f.0 in
      let h = f.1 in
      let b = h.4 in
      let regroup = between_regroup (reserved words.Receive) (reserved words.End) (DerivesBranches n false bs)
      front rest h in
      let e = h.2 in
      let all = branches_complete n d parse_exprs elements false bs b.0 rest b.1 b.2 b.4 (omega (arith, fits.1)) in
      ap (prim_with n (readers n d) g (parse_expr n g d top)) regroup ∙ rw (e, is_there, all) refl

  pub prim_complete : CompleteFor (prim_with n (readers n d) g (parse_expr n g d top)) (Fits n g 0 (suc d)) (Stops g 0)
  prim_complete (p.integer z) front rest fits stops = let h = fits.0 in let ez = h.1 in let i = h.2 in let e = i.1 in
      let w = i.2 in rw (w, e, ez) refl
  prim_complete (p.atom a) front rest fits stops = let h = fits.0 in let w = h.2 in let non = stops.no_call in
      rw w (prim_atom a h.0 rest h.1 ∙ ap (call_parse_step n g (parse_expr n g d top) a h.0.at rest) non)
  prim_complete (p.text cs) front rest fits stops = let h = fits.0 in let short = short_is cs h.0 in let i = h.1 in
      let e = i.1 in let w = i.2 in rw (w, e, short) refl
  prim_complete (p.variable x at) front rest fits stops = let h = fits.0 in let e = h.1 in let offset = h.2 in
      let w = h.3 in rw (w, e, offset) refl
  prim_complete (p.anonymous at) front rest fits stops = let h = fits.0 in let e = h.1 in let offset = h.2 in
      let w = h.3 in rw (w, e, offset) refl
  prim_complete (p.parentheses a) front rest fits stops = parentheses_complete a front rest fits
  prim_complete (p.tuple es) front rest fits stops = tuple_complete es front rest fits
  prim_complete (p.list es) front rest fits stops = plain_list_complete es front rest fits
  prim_complete (p.list_on es a) front rest fits stops = list_on_complete es a front rest fits
  prim_complete (p.call f at es) front rest fits stops = call_complete f at es front rest fits
  prim_complete (p.negate a) front rest fits stops = absurd (let h = fits.0 in omega (arith, h.0))
  prim_complete (p.binary o a b) front rest fits stops =
      absurd (let h = fits.0 in omega (arith, h.0, level_low (Operator o)))
  prim_complete (p.and_also a b) front rest fits stops =
      absurd (let h = fits.0 in omega (arith, h.0, level_low AndAlso))
  prim_complete (p.or_else a b) front rest fits stops = absurd (let h = fits.0 in omega (arith, h.0, level_low OrElse))
  prim_complete (p.send a b) front rest fits stops = absurd (let h = fits.0 in omega (arith, h.0, level_low Send))
  prim_complete (p.match q a) front rest fits stops = absurd (let h = fits.0 in omega (arith, h.0))
  prim_complete (p.case a bs) front rest fits stops = case_complete a bs front rest fits
  prim_complete (p.if_expression bs) front rest fits stops = if_complete bs front rest fits
  prim_complete (p.receive bs) front rest fits stops = receive_complete bs front rest fits

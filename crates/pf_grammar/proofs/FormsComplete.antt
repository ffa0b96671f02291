-- Functions and export forms: what derives is read.
use Rattle.std.proofs.Common.{◌≡◌, ℕ, zero, suc, ◌≤◌, ◌<◌, List, [], ◌∷◌, ◌++◌, length, Some, None, refl, sym, ap, ◌∙◌}
use Rattle.std.proofs.Common.{arith, append_assoc}
use Rattle.std.specs.Prelude.{flat_map, codes}
use Rattle.std.proofs.lemmas.List.{length-append}
use Rattle.pf_tokens.specs.declared.marks.TokenMark.TheVariants as marks
use Rattle.pf_syntax.specs.ExprPattern.{ExprPattern}
use Rattle.pf_syntax.specs.SyntaxTree.{Export, Head}
use Rattle.pf_tokens.specs.declared.limits.TheConstants.{MOST_TREE_DEPTH}
use Rattle.pf_tokens.specs.NumberedTokens.{dot, mark, NumberedToken}
use Rattle.pf_grammar.specs.Grammar.{TokenNames, DerivesHead, DerivesHeads, DerivesFunction, DerivesFunctions}
use Rattle.pf_grammar.specs.Grammar.{DerivesEntry, DerivesEntries, DerivesExport, DerivesExports}
use Rattle.pf_grammar.specs.Parse.{after_kind, pattern, head_parse, function, functions, entry, export, exports}
use Rattle.pf_grammar.proofs.Single.{after_here, after_none, atom_no_mark, named_is, number_is, word_is}
use Rattle.pf_grammar.proofs.Single.{closing_parenthesis}
use Rattle.pf_grammar.proofs.Lists.{CompleteFor, Any, Separated, Several, Opens, opens_front, opens_on, items_complete}
use Rattle.pf_grammar.proofs.Lists.{until_complete}
use Rattle.pf_grammar.proofs.Patterns.{FitsPattern, pattern_complete, expr_pattern_opens, expr_pattern_list}
use Rattle.pf_grammar.proofs.Patterns.{expr_patterns_back, expr_patterns_to}
use Rattle.pf_grammar.proofs.Groups.{expr_list, exprs_back, body_to}
use Rattle.pf_grammar.proofs.CompleteClauses.{ClauseEnds, clause_ends, when_complete, body_complete}
use Rattle.pf_grammar.proofs.Complete.{parse_expr_complete, element_complete}

-- ---- functions

head_complete : (n : TokenNames) → CompleteFor (head_parse n) (DerivesHead n) ClauseEnds
head_complete n h front rest d ends =
    let q = d.parts in
    let k = q.5 in
    let b = k.3 in
    let c = b.4 in
    let after = q.1 ∷ (q.2 ++ rest) in
    let more : d.more ++ rest ≡ b.0 ∷ (b.1 ++ (k.1 ++ after)) = ap (λ (l : List NumberedToken). l ++ rest) q.4
    ∙ append_assoc q.0 (q.1 ∷ q.2) rest ∙ ap (λ (l : List NumberedToken). l ++ after) k.2
    ∙ append_assoc k.0 k.1 after
    ∙ ap (λ (l : List NumberedToken). l ++ (k.1 ++ after)) b.3 in
    let regroup : front ++ rest ≡ d.name ∷ b.0 ∷ (b.1 ++ (k.1 ++ after)) =
    ap (λ (l : List NumberedToken). l ++ rest) d.whole ∙ ap (λ (l : List NumberedToken). d.name ∷ l) more in
    let name = named_is n h.name h.offset d.name (b.0 ∷ (b.1 ++ (k.1 ++ after))) d.name_is d.offset_is in
    let opens = after_here (mark marks.OpenParenthesis) b.0 (b.1 ++ (k.1 ++ after)) refl b.2 in
    let qs = until_complete ExprPattern (mark marks.CloseParenthesis) (FitsPattern n MOST_TREE_DEPTH)
    (pattern n MOST_TREE_DEPTH) Any refl refl (pattern_complete n MOST_TREE_DEPTH)
    (λ r xs f. expr_pattern_opens n marks.CloseParenthesis closing_parenthesis r xs f.0)
    (λ t ts u. tt) (λ t ts u. tt) (expr_pattern_list h.parameters) b.1 (k.1 ++ after) (
      c.0,
      c.1,
      c.2,
      c.3,
      expr_patterns_to n MOST_TREE_DEPTH h.parameters c.0 c.4 d.shallow_parameters,
    ) in
    let condition = when_complete n MOST_TREE_DEPTH (parse_expr_complete n MOST_TREE_DEPTH) h.condition k.1 after k.4
    d.shallow_condition (record { arrow = q.1; after = q.2 ++ rest; arrow_is = q.3; whole = refl }) in
    let arrow = after_here (mark marks.Arrow) q.1 (q.2 ++ rest) refl q.3 in
    let es = body_complete n MOST_TREE_DEPTH (element_complete n MOST_TREE_DEPTH) (expr_list h.body) q.2 rest
    (body_to n MOST_TREE_DEPTH h.body q.2 q.6 d.shallow_body) ends in
    let expr_patterns = expr_patterns_back h.parameters in
    let elements = exprs_back h.body in
    ap (head_parse n) regroup ∙ rw (name, opens, qs, condition, arrow, es, expr_patterns, elements) refl

head_some : (n : TokenNames) (h : Head) (front : List NumberedToken) → DerivesHead n h front → 0 < length front
head_some n h front d = let w = ap length d.whole in omega (arith, w)

heads_to : (n : TokenNames) (hs : List Head) (ts : List NumberedToken) → DerivesHeads n hs ts
    → Several (mark marks.Semicolon) (DerivesHead n) hs ts
heads_to n [] ts d = absurd d
heads_to n (h ∷ []) ts d = (d, λ w. cc)
heads_to n (h ∷ k ∷ hs) ts d = let more = heads_to n (k ∷ hs) d.2 d.6 in
    ((d.0, d.1, d.2, d.3, d.4, d.5, more.0), λ w. cc)

function_complete : (n : TokenNames) → CompleteFor (function n) (DerivesFunction n) Any
function_complete n hs front rest d u =
    let after = d.1 ∷ rest in
    let regroup : front ++ rest ≡ d.0 ++ after = ap (λ (l : List NumberedToken). l ++ rest) d.3 ∙ append_assoc d.0
    (d.1 ∷ []) rest in
    let listed = items_complete Head (mark marks.Semicolon) (DerivesHead n) (head_parse n) ClauseEnds refl
    (head_complete n) (head_some n) (λ t ts e. clause_ends (mark marks.Semicolon) t ts e refl refl refl refl)
    hs d.0 after (length (d.0 ++ after)) (heads_to n hs d.0 d.4) (clause_ends dot d.1 rest d.2 refl refl refl refl)
    (after_none (mark marks.Semicolon) dot d.1 rest d.2 refl) (omega (arith, length-append d.0 after)) in
    let last = after_here dot d.1 rest refl d.2 in
    ap (function n) regroup ∙ rw (listed, last) refl

head_opens : (n : TokenNames) (h : Head) (front : List NumberedToken) → DerivesHead n h front
    → Opens (mark marks.Minus) front
head_opens n h front d = record {
  first = d.name;
  others = d.more;
  whole = d.whole;
  differs =
      atom_no_mark n h.name d.name marks.Minus d.name_is;
}

heads_open : (n : TokenNames) (hs : List Head) (front : List NumberedToken) → DerivesHeads n hs front
    → Opens (mark marks.Minus) front
heads_open n [] front d = absurd d
heads_open n (h ∷ []) front d = head_opens n h front d
heads_open n (h ∷ k ∷ hs) front d = opens_on (mark marks.Minus) d.0 (d.1 ∷ d.2) front d.4 (head_opens n h d.0 d.5)

function_opens : (n : TokenNames) (f : List Head) (front : List NumberedToken) → DerivesFunction n f front
    → Opens (mark marks.Minus) front
function_opens n f front d = opens_on (mark marks.Minus) d.0 (d.1 ∷ []) front d.3 (heads_open n f d.0 d.4)

pub functions_complete : (n : TokenNames) (fs : List (List Head)) (ts : List NumberedToken) (turns : ℕ)
    → DerivesFunctions n fs ts → length ts ≤ turns → functions n turns ts ≡ Some fs
unfolding functions
functions_complete n [] ts turns d le = let w = d in rw w refl
functions_complete n (f ∷ fs) ts zero d le = absurd (let o = function_opens n f d.0 d.3 in
    let w = ap length (d.2 ∙ ap (λ (l : List NumberedToken). l ++ d.1) o.whole) in omega (arith, w))
functions_complete n (f ∷ fs) ts (suc turns) d le =
    let o = function_opens n f d.0 d.3 in
    let whole : ts ≡ o.first ∷ (o.others ++ d.1) = d.2 ∙ ap (λ (l : List NumberedToken). l ++ d.1) o.whole in
    let one : function n (o.first ∷ (o.others ++ d.1)) ≡ Some (f, d.1) =
    ap (λ (l : List NumberedToken). function n (l ++ d.1)) (sym o.whole) ∙ function_complete n f d.0 d.1 d.3 tt in
    let fewer : length d.1 ≤ turns = let w = ap length whole in omega (arith, w, length-append o.others d.1) in
    let more = functions_complete n fs d.1 turns d.4 fewer in
    rw (whole, one, more) refl

pub functions_open : (n : TokenNames) (fs : List (List Head)) (ts : List NumberedToken) → DerivesFunctions n fs ts
    → after_kind (mark marks.Minus) ts ≡ None
functions_open n [] ts d = ap (after_kind (mark marks.Minus)) d
functions_open n (f ∷ fs) ts d = ap (after_kind (mark marks.Minus)) d.2 ∙ opens_front (mark marks.Minus) d.0 d.1
    (function_opens n f d.0 d.3)

-- ---- exports

entry_complete : (n : TokenNames) → CompleteFor (entry n) (DerivesEntry n) Any
entry_complete n x front rest d u =
    let name = named_is n x.name x.offset d.name (d.slash ∷ d.arity ∷ rest) d.name_is d.offset_is in
    let slash = after_here (mark marks.Slash) d.slash (d.arity ∷ rest) refl d.slash_is in
    let k = number_is x.arity d.arity rest d.arity_is in
    ap (λ (l : List NumberedToken). entry n (l ++ rest)) d.whole ∙ rw (name, slash, k) refl

entry_opens : (n : TokenNames) (x : Export) (front : List NumberedToken) → DerivesEntry n x front
    → Opens (mark marks.CloseBracket) front
entry_opens n x front d = record {
  first = d.name;
  others = d.slash ∷ d.arity ∷ [];
  whole = d.whole;
  differs =
      atom_no_mark n x.name d.name marks.CloseBracket d.name_is;
}

entries_to : (n : TokenNames) (es : List Export) (ts : List NumberedToken) → DerivesEntries n es ts
    → Separated (mark marks.Comma) (DerivesEntry n) es ts
entries_to n [] ts h = h
entries_to n (e ∷ []) ts h = h
entries_to n (e ∷ f ∷ es) ts h = (h.0, h.1, h.2, h.3, h.4, h.5, entries_to n (f ∷ es) h.2 h.6)

-- what follows the minus of an export form
tail_of : (n : TokenNames) (es : List Export) (front : List NumberedToken) → DerivesExport n es front
    → List NumberedToken
tail_of n es front d = d.word ∷ (d.more ++ d.last ∷ [])

export_complete : (n : TokenNames) (es : List Export) (front rest : List NumberedToken) (d : DerivesExport n es front)
    → export n (tail_of n es front d ++ rest) ≡ Some (es, rest)
unfolding tail_of
export_complete n es front rest d =
    let q = d.entries in
    let b = q.4 in
    let c = b.4 in
    let i = c.4 in
    let after = d.last ∷ rest in
    let r4 = b.1 ∷ after in
    let regroup : (d.more ++ d.last ∷ []) ++ rest ≡ q.0 ∷ c.0 ∷ (c.1 ++ r4) = append_assoc d.more (d.last ∷ []) rest
    ∙ ap (λ (l : List NumberedToken). l ++ after) q.3 ∙ ap (λ (l : List NumberedToken). q.0 ∷ (l ++ after)) b.3
    ∙ ap (λ (l : List NumberedToken). q.0 ∷ l) (append_assoc b.0 (b.1 ∷ []) after)
    ∙ ap (λ (l : List NumberedToken). q.0 ∷ (l ++ r4)) c.3 in
    let name = word_is n (codes "export") d.word (q.0 ∷ c.0 ∷ (c.1 ++ r4)) d.word_is in
    let opens = after_here (mark marks.OpenParenthesis) q.0 (c.0 ∷ (c.1 ++ r4)) refl q.2 in
    let bracket = after_here (mark marks.OpenBracket) c.0 (c.1 ++ r4) refl c.2 in
    let listed = until_complete Export (mark marks.CloseBracket) (DerivesEntry n) (entry n) Any refl refl
    (entry_complete n) (entry_opens n) (λ t ts u. tt) (λ t ts u. tt)
    es c.1 r4 (i.0, i.1, i.2, i.3, entries_to n es i.0 i.4) in
    let closes = after_here (mark marks.CloseParenthesis) b.1 after refl b.2 in
    let last = after_here dot d.last rest refl d.last_is in
    ap (λ (l : List NumberedToken). export n (d.word ∷ l)) regroup
    ∙ rw (name, opens, bracket, listed, closes, last) refl

exports_end : (n : TokenNames) (ts : List NumberedToken) (turns : ℕ) → after_kind (mark marks.Minus) ts ≡ None
    → exports n turns ts ≡ Some ([], ts)
unfolding exports
exports_end n ts zero e = refl
exports_end n ts (suc turns) e = rw e refl

pub exports_complete : (n : TokenNames) (forms : List (List Export)) (front rest : List NumberedToken) (turns : ℕ)
    → DerivesExports n forms front → after_kind (mark marks.Minus) rest ≡ None → length front ≤ turns
    → exports n turns (front ++ rest) ≡ Some (flat_map (λ es. es) forms, rest)
unfolding exports tail_of
exports_complete n [] front rest turns d non le = let w = d in rw w (exports_end n rest turns non)
exports_complete n (es ∷ forms) front rest zero d non le =
    absurd (let a = d.3 in let w = ap length (d.2 ∙ ap (λ (l : List NumberedToken). l ++ d.1) a.whole) in
    omega (arith, w))
exports_complete n (es ∷ forms) front rest (suc turns) d non le =
    let a = d.3 in
    let tail = tail_of n es d.0 a in
    let whole : front ≡ a.minus ∷ (tail ++ d.1) = d.2 ∙ ap (λ (l : List NumberedToken). l ++ d.1) a.whole in
    let regroup : front ++ rest ≡ a.minus ∷ (tail ++ (d.1 ++ rest)) = ap (λ (l : List NumberedToken). l ++ rest) whole
    ∙ ap (λ (l : List NumberedToken). a.minus ∷ l) (append_assoc tail d.1 rest) in
    let minus = after_here (mark marks.Minus) a.minus (tail ++ (d.1 ++ rest)) refl a.minus_is in
    let one = export_complete n es d.0 (d.1 ++ rest) a in
    let fewer : length d.1 ≤ turns = let w = ap length whole in omega (arith, w, length-append tail d.1) in
    let more = exports_complete n forms d.1 rest turns d.4 non fewer in
    ap (exports n (suc turns)) regroup ∙ rw (minus, one, more) refl

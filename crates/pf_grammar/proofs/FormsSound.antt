-- Functions and export forms: what is read derives the tokens that it took.
use Rattle.std.proofs.Common.{◌≡◌, ℕ, zero, suc, List, [], ◌∷◌, ◌++◌, length, true, Option, Some, None, refl, ap, subst}
use Rattle.std.proofs.Common.{◌∙◌, arith}
use Rattle.std.specs.Prelude.{flat_map, codes}
use Rattle.pf_tokens.specs.declared.marks.TokenMark.TheVariants as marks
use Rattle.pf_syntax.specs.ExprPattern.{ExprPattern}
use Rattle.pf_syntax.specs.SyntaxTree.{Export, Head}
use Rattle.pf_tokens.specs.declared.limits.TheConstants.{MOST_TREE_DEPTH}
use Rattle.pf_tokens.specs.NumberedTokens.{dot, mark, NumberedToken}
use Rattle.pf_grammar.specs.Grammar.{TokenNames, top, DerivesHead, DerivesHeads, DerivesFunction, DerivesFunctions}
use Rattle.pf_grammar.specs.Grammar.{DerivesEntry, DerivesEntries, DerivesExport, DerivesExports}
use Rattle.pf_grammar.specs.Parse.{after_kind, name_with_offset, number, word_parse, items, until, expr_patterns_of}
use Rattle.pf_grammar.specs.Parse.{exprs_of, pattern, when, body_parse, parse_expr, element, head_parse, function}
use Rattle.pf_grammar.specs.Parse.{functions, entry, export, exports_step, exports}
use Rattle.pf_grammar.proofs.Single.{bind_some, some_is, after_some, named_some, number_some, word_some}
use Rattle.pf_grammar.proofs.Lists.{Took, SoundFor, took_is, grow, Separated, Several, items_sound, until_sound}
use Rattle.pf_grammar.proofs.Patterns.{FitsPattern, pattern_sound, expr_patterns_from}
use Rattle.pf_grammar.proofs.Groups.{body_from}
use Rattle.pf_grammar.proofs.Sound.{when_sound, body_sound, parse_expr_sound, element_sound}

-- ---- functions

head_sound : (n : TokenNames) → SoundFor (head_parse n) (DerivesHead n)
head_sound n ts x e =
    let a = bind_some (name_with_offset n ts) _ x e in
    let b = bind_some (after_kind (mark marks.OpenParenthesis) a.0.1) _ x a.2 in
    let c = bind_some (until (mark marks.CloseParenthesis) (pattern n MOST_TREE_DEPTH) b.0) _ x b.2 in
    let w = bind_some (when (parse_expr n true MOST_TREE_DEPTH top) c.0.1) _ x c.2 in
    let g = bind_some (after_kind (mark marks.Arrow) w.0.1) _ x w.2 in
    let k = bind_some (body_parse (element n MOST_TREE_DEPTH) g.0) _ x g.2 in
    let t = named_some n ts a.0 a.1 in
    let opens = after_some (mark marks.OpenParenthesis) a.0.1 b.0 b.1 in
    let qs = until_sound ExprPattern (mark marks.CloseParenthesis) (FitsPattern n MOST_TREE_DEPTH)
    (pattern n MOST_TREE_DEPTH) (pattern_sound n MOST_TREE_DEPTH) b.0 c.0 c.1 in
    let condition = when_sound n MOST_TREE_DEPTH (parse_expr n true MOST_TREE_DEPTH top)
    (parse_expr_sound n true MOST_TREE_DEPTH top (omega arith)) c.0.1 w.0 w.1 in
    let arrow = after_some (mark marks.Arrow) w.0.1 g.0 g.1 in
    let es = body_sound n MOST_TREE_DEPTH (element n MOST_TREE_DEPTH) (element_sound n MOST_TREE_DEPTH) g.0 k.0 k.1 in
    let inside = qs.holds in
    let guarded = condition.holds in
    let parameters = expr_patterns_from n MOST_TREE_DEPTH c.0.0 inside.0 inside.4 in
    let elements = body_from n MOST_TREE_DEPTH k.0.0 es.front es.holds in
    let made : Head = record {
      name = a.0.0.0;
      offset = a.0.0.1;
      parameters = expr_patterns_of c.0.0;
      condition = w.0.0;
      body = exprs_of k.0.0;
    } in
    let first : a.0.1 ≡ (opens.0 ∷ qs.front) ++ c.0.1 =
    opens.2 ∙ ap (λ (l : List NumberedToken). opens.0 ∷ l) qs.parts in
    let before : List NumberedToken = (opens.0 ∷ qs.front) ++ condition.front in
    let upto : a.0.1 ≡ before ++ w.0.1 = grow a.0.1 (opens.0 ∷ qs.front) c.0.1 condition.front w.0.1 first
    condition.parts in
    let tail = grow a.0.1 before w.0.1 (arrow.0 ∷ es.front) k.0.1 upto
    (arrow.2 ∙ ap (λ (l : List NumberedToken). arrow.0 ∷ l) es.parts) in
    took_is (DerivesHead n) ts (made, k.0.1) x k.2 (record {
      front = t.0 ∷ (before ++ arrow.0 ∷ es.front);
      parts = t.3 ∙ ap (λ (l : List NumberedToken). t.0 ∷ l) tail;
      holds = record {
        name = t.0;
        more = before ++ arrow.0 ∷ es.front;
        whole = refl;
        name_is = t.1;
        offset_is = t.2;
        parts = (
          before,
          arrow.0,
          es.front,
          arrow.1,
          refl,
          (
            opens.0 ∷ qs.front,
            condition.front,
            refl,
            (opens.0, qs.front, opens.1, refl, (inside.0, inside.1, inside.2, inside.3, parameters.0)),
            guarded.0,
          ),
          elements.0,
        );
        shallow_parameters = parameters.1;
        shallow_condition = guarded.1;
        shallow_body = elements.1;
      };
    })

heads_from : (n : TokenNames) (hs : List Head) (ts : List NumberedToken)
    → Several (mark marks.Semicolon) (DerivesHead n) hs ts → DerivesHeads n hs ts
heads_from n [] ts h = absurd (h.1 refl)
heads_from n (k ∷ []) ts h = h.0
heads_from n (k ∷ l ∷ hs) ts h = let a = h.0 in (a.0, a.1, a.2, a.3, a.4, a.5, heads_from n (l ∷ hs) a.2 (a.6, λ w. cc))

function_sound : (n : TokenNames) → SoundFor (function n) (DerivesFunction n)
function_sound n ts x e =
    let a = bind_some (items (mark marks.Semicolon) (head_parse n) (length ts) ts) _ x e in
    let b = bind_some (after_kind dot a.0.1) _ x a.2 in
    let hs = items_sound Head (mark marks.Semicolon) (DerivesHead n) (head_parse n) (head_sound n)
    (length ts) ts a.0 a.1 in
    let last = after_some dot a.0.1 b.0 b.1 in
    let parts = grow ts hs.front a.0.1 (last.0 ∷ []) b.0 hs.parts last.2 in
    took_is (DerivesFunction n) ts (a.0.0, b.0) x b.2
    (record {
      front = hs.front ++ last.0 ∷ [];
      parts = parts;
      holds =
          (hs.front, last.0, last.1, refl, heads_from n a.0.0 hs.front hs.holds);
    })

pub functions_sound : (n : TokenNames) (turns : ℕ) (ts : List NumberedToken) (fs : List (List Head))
    → functions n turns ts ≡ Some fs → DerivesFunctions n fs ts
unfolding functions
functions_sound n turns [] fs e = subst (λ (gs : List (List Head)). DerivesFunctions n gs []) (some_is [] fs e) refl
functions_sound n zero (t ∷ ts) fs e = absurd cc
functions_sound n (suc turns) (t ∷ ts) fs e =
    let a = bind_some (function n (t ∷ ts)) _ fs e in
    let b = bind_some (functions n turns a.0.1) _ fs a.2 in
    let f = function_sound n (t ∷ ts) a.0 a.1 in
    let more = functions_sound n turns a.0.1 b.0 b.1 in
    subst (λ (gs : List (List Head)). DerivesFunctions n gs (t ∷ ts)) (some_is (a.0.0 ∷ b.0) fs b.2)
    (f.front, a.0.1, f.parts, f.holds, more)

-- ---- exports

entry_sound : (n : TokenNames) → SoundFor (entry n) (DerivesEntry n)
entry_sound n ts x e =
    let a = bind_some (name_with_offset n ts) _ x e in
    let b = bind_some (after_kind (mark marks.Slash) a.0.1) _ x a.2 in
    let c = bind_some (number b.0) _ x b.2 in
    let t = named_some n ts a.0 a.1 in
    let slash = after_some (mark marks.Slash) a.0.1 b.0 b.1 in
    let k = number_some b.0 c.0 c.1 in
    let made : Export = record { name = a.0.0.0; arity = c.0.0; offset = a.0.0.1 } in
    took_is (DerivesEntry n) ts (made, c.0.1) x c.2 (record {
      front = t.0 ∷ slash.0 ∷ k.0 ∷ [];
      parts = t.3 ∙ ap (λ (l : List NumberedToken). t.0 ∷ l)
          (slash.2 ∙ ap (λ (l : List NumberedToken). slash.0 ∷ l) k.2);
      holds = record {
        name = t.0;
        slash = slash.0;
        arity = k.0;
        whole = refl;
        name_is = t.1;
        offset_is = t.2;
        slash_is = slash.1;
        arity_is = k.1;
      };
    })

entries_from : (n : TokenNames) (es : List Export) (ts : List NumberedToken)
    → Separated (mark marks.Comma) (DerivesEntry n) es ts → DerivesEntries n es ts
entries_from n [] ts h = h
entries_from n (e ∷ []) ts h = h
entries_from n (e ∷ f ∷ es) ts h = (h.0, h.1, h.2, h.3, h.4, h.5, entries_from n (f ∷ es) h.2 h.6)

export_sound : (n : TokenNames) (minus : NumberedToken) (ts : List NumberedToken) (x : List Export × List NumberedToken)
    → minus.kind ≡ mark marks.Minus → export n ts ≡ Some x → Took (DerivesExport n x.0) (minus ∷ ts) x.1
export_sound n minus ts x kind e =
    let a = bind_some (word_parse n.atoms (codes "export") ts) _ x e in
    let b = bind_some (after_kind (mark marks.OpenParenthesis) a.0) _ x a.2 in
    let c = bind_some (after_kind (mark marks.OpenBracket) b.0) _ x b.2 in
    let g = bind_some (until (mark marks.CloseBracket) (entry n) c.0) _ x c.2 in
    let k = bind_some (after_kind (mark marks.CloseParenthesis) g.0.1) _ x g.2 in
    let j = bind_some (after_kind dot k.0) _ x k.2 in
    let t = word_some n (codes "export") ts a.0 a.1 in
    let opens = after_some (mark marks.OpenParenthesis) a.0 b.0 b.1 in
    let bracket = after_some (mark marks.OpenBracket) b.0 c.0 c.1 in
    let es = until_sound Export (mark marks.CloseBracket) (DerivesEntry n) (entry n) (entry_sound n) c.0 g.0 g.1 in
    let closes = after_some (mark marks.CloseParenthesis) g.0.1 k.0 k.1 in
    let last = after_some dot k.0 j.0 j.1 in
    let i = es.holds in
    let first : b.0 ≡ (bracket.0 ∷ es.front) ++ g.0.1 =
    bracket.2 ∙ ap (λ (l : List NumberedToken). bracket.0 ∷ l) es.parts in
    let mid : List NumberedToken = (bracket.0 ∷ es.front) ++ closes.0 ∷ [] in
    let upto = grow b.0 (bracket.0 ∷ es.front) g.0.1 (closes.0 ∷ []) k.0 first closes.2 in
    let tail = grow a.0 (opens.0 ∷ mid) k.0 (last.0 ∷ []) j.0
    (opens.2 ∙ ap (λ (l : List NumberedToken). opens.0 ∷ l) upto) last.2 in
    took_is (DerivesExport n) (minus ∷ ts) (g.0.0, j.0) x j.2 (record {
      front = minus ∷ t.0 ∷ ((opens.0 ∷ mid) ++ last.0 ∷ []);
      parts = ap (λ (l : List NumberedToken). minus ∷ l) (t.2 ∙ ap (λ (l : List NumberedToken). t.0 ∷ l) tail);
      holds = record {
        minus = minus;
        word = t.0;
        more = opens.0 ∷ mid;
        last = last.0;
        whole = refl;
        minus_is = kind;
        word_is = t.1;
        last_is = last.1;
        entries = (
          opens.0,
          mid,
          opens.1,
          refl,
          (
            bracket.0 ∷ es.front,
            closes.0,
            closes.1,
            refl,
            (bracket.0, es.front, bracket.1, refl, (i.0, i.1, i.2, i.3, entries_from n g.0.0 i.0 i.4)),
          ),
        );
      };
    })

-- export forms, their entries in a row
pub record ExportsTook (n : TokenNames) (es : List Export) (ts rest : List NumberedToken) : Type 0 where
  pub forms : List (List Export)
  pub all_exports : flat_map (λ fs. fs) forms ≡ es
  pub took : Took (DerivesExports n forms) ts rest

exports_step_sound : (n : TokenNames) (go : List NumberedToken → Option (List Export × List NumberedToken))
    → ((ts : List NumberedToken) (x : List Export × List NumberedToken) → go ts ≡ Some x → ExportsTook n x.0 ts x.1)
    → (ts : List NumberedToken) (o : Option (List NumberedToken)) → after_kind (mark marks.Minus) ts ≡ o
    → (x : List Export × List NumberedToken) → exports_step go n ts o ≡ Some x → ExportsTook n x.0 ts x.1
exports_step_sound n go sound ts None e x f = subst (λ (y : List Export × List NumberedToken). ExportsTook n y.0 ts y.1)
    (some_is ([], ts) x f) (record {
      forms = [];
      all_exports = refl;
      took =
          record { front = []; parts = refl; holds = refl };
    })
exports_step_sound n go sound ts (Some rest) e x f =
    let a = bind_some (export n rest) _ x f in
    let b = bind_some (go a.0.1) _ x a.2 in
    let m = after_some (mark marks.Minus) ts rest e in
    let one = export_sound n m.0 rest a.0 m.1 a.1 in
    let more = sound a.0.1 b.0 b.1 in
    let parts = grow ts one.front a.0.1 more.took.front b.0.1 (m.2 ∙ one.parts) more.took.parts in
    subst (λ (y : List Export × List NumberedToken). ExportsTook n y.0 ts y.1) (some_is (a.0.0 ++ b.0.0, b.0.1) x b.2)
    (record {
      forms = a.0.0 ∷ more.forms;
      all_exports = ap (λ (l : List Export). a.0.0 ++ l) more.all_exports;
      took =
          record {
            front = one.front ++ more.took.front;
            parts = parts;
            holds =
                (one.front, more.took.front, refl, one.holds, more.took.holds);
          };
    })

pub exports_sound : (n : TokenNames) (turns : ℕ) (ts : List NumberedToken) (x : List Export × List NumberedToken)
    → exports n turns ts ≡ Some x → ExportsTook n x.0 ts x.1
unfolding exports
exports_sound n zero ts x e = subst (λ (y : List Export × List NumberedToken). ExportsTook n y.0 ts y.1)
    (some_is ([], ts) x e) (record {
      forms = [];
      all_exports = refl;
      took =
          record { front = []; parts = refl; holds = refl };
    })
exports_sound n (suc turns) ts x e = exports_step_sound n (exports n turns) (exports_sound n turns) ts
    (after_kind (mark marks.Minus) ts) refl x e

-- A module is read exactly where one derives the tokens, and no tokens have two.
use Rattle.std.proofs.Common.{◌≡◌, ℕ, ◌≤◌, List, [], ◌∷◌, length, Some, refl, sym, ap, subst, ◌∙◌, arith}
use Rattle.std.specs.Prelude.{flat_map, codes, nat_le}
use Rattle.std.proofs.lemmas.Bool.{leb-true, le-leb}
use Rattle.std.proofs.lemmas.List.{length-append}
use Rattle.pf_terms.specs.Atoms.{name_of}
use Rattle.pf_tokens.specs.declared.marks.TokenMark.TheVariants as marks
use Rattle.pf_tokens.specs.declared.limits.TheConstants.{MOST_NAME_BYTES}
use Rattle.pf_tokens.specs.NumberedTokens.{NumberedKind, atom, dot, mark, NumberedToken}
use Rattle.pf_grammar.specs.Grammar.{TokenNames, BeginsModule, Tree, DerivesTree}
use Rattle.pf_grammar.specs.Parse.{after_kind, word_parse, functions, exports, atom_kind, any_atom, first_form}
use Rattle.pf_grammar.specs.Parse.{after_first_form, tree}
use Rattle.pf_grammar.proofs.Single.{bind_some, cond_some, some_is, after_some, after_here, word_some, word_is}
use Rattle.pf_grammar.proofs.FormsSound.{functions_sound, exports_sound}
use Rattle.pf_grammar.proofs.FormsComplete.{functions_complete, functions_open, exports_complete}

-- ---- the first form

any_atom_some : (ts : List NumberedToken) (x : ℕ × List NumberedToken) → any_atom ts ≡ Some x
    → (t : NumberedToken) × (t.kind ≡ atom x.0) × (ts ≡ t ∷ x.1)
any_atom_some [] x e = absurd cc
any_atom_some (t ∷ ts) x e = of_kind t.kind refl e
  where
    of_kind : (s : NumberedKind) → t.kind ≡ s → atom_kind s ts ≡ Some x
        → (u : NumberedToken) × (u.kind ≡ atom x.0) × (t ∷ ts ≡ u ∷ x.1)
    of_kind (atom a) h f = let same = some_is (a, ts) x f in
        (t, h ∙ ap (λ (y : ℕ × List NumberedToken). atom y.0) same, ap (λ (y : ℕ × List NumberedToken). t ∷ y.1) same)
    of_kind _ h f = absurd cc

pub begins_sound : (atoms : List (List ℕ)) (ts : List NumberedToken) (x : ℕ × List NumberedToken)
    → first_form atoms ts ≡ Some x → BeginsModule atoms x.0 x.1 ts
begins_sound atoms ts x e =
    let a = bind_some (after_kind (mark marks.Minus) ts) _ x e in
    let b = bind_some (word_parse atoms (codes "module") a.0) _ x a.2 in
    let c = bind_some (after_kind (mark marks.OpenParenthesis) b.0) _ x b.2 in
    let g = bind_some (any_atom c.0) _ x c.2 in
    let k = bind_some (after_kind (mark marks.CloseParenthesis) g.0.1) _ x g.2 in
    let j = bind_some (after_kind dot k.0) _ x k.2 in
    let minus = after_some (mark marks.Minus) ts a.0 a.1 in
    let t = word_some (record { atoms = atoms; own = g.0.0 }) (codes "module") a.0 b.0 b.1 in
    let opens = after_some (mark marks.OpenParenthesis) b.0 c.0 c.1 in
    let name = any_atom_some c.0 g.0 g.1 in
    let closes = after_some (mark marks.CloseParenthesis) g.0.1 k.0 k.1 in
    let last = after_some dot k.0 j.0 j.1 in
    let whole : ts ≡ minus.0 ∷ t.0 ∷ opens.0 ∷ name.0 ∷ closes.0 ∷ last.0 ∷ j.0 =
    minus.2 ∙ ap (λ (l : List NumberedToken). minus.0 ∷ l) t.2 ∙ ap (λ (l : List NumberedToken). minus.0 ∷ t.0 ∷ l)
    opens.2 ∙ ap (λ (l : List NumberedToken). minus.0 ∷ t.0 ∷ opens.0 ∷ l) name.2
    ∙ ap (λ (l : List NumberedToken). minus.0 ∷ t.0 ∷ opens.0 ∷ name.0 ∷ l) closes.2
    ∙ ap (λ (l : List NumberedToken). minus.0 ∷ t.0 ∷ opens.0 ∷ name.0 ∷ closes.0 ∷ l) last.2 in
    subst (λ (y : ℕ × List NumberedToken). BeginsModule atoms y.0 y.1 ts) (some_is (g.0.0, j.0) x j.2)
    (record {
      minus = minus.0;
      word = t.0;
      opens = opens.0;
      atom_token = name.0;
      closes = closes.0;
      last = last.0;
      whole = whole;
      minus_is = minus.1;
      word_is = t.1;
      opens_is = opens.1;
      name_is = name.1;
      closes_is = closes.1;
      last_is = last.1;
    })

pub begins_complete : (atoms : List (List ℕ)) (ts : List NumberedToken) (name : ℕ) (rest : List NumberedToken)
    → BeginsModule atoms name rest ts → first_form atoms ts ≡ Some (name, rest)
begins_complete atoms ts name rest d =
    let minus = after_here (mark marks.Minus) d.minus (d.word ∷ d.opens ∷ d.atom_token ∷ d.closes ∷ d.last ∷ rest)
    refl d.minus_is in
    let named = word_is (record { atoms = atoms; own = name }) (codes "module") d.word
    (d.opens ∷ d.atom_token ∷ d.closes ∷ d.last ∷ rest) d.word_is in
    let opens = after_here (mark marks.OpenParenthesis) d.opens (d.atom_token ∷ d.closes ∷ d.last ∷ rest)
    refl d.opens_is in
    let kind = d.name_is in
    let one : any_atom (d.atom_token ∷ d.closes ∷ d.last ∷ rest) ≡ Some (name, d.closes ∷ d.last ∷ rest) =
    rw kind refl in
    let closes = after_here (mark marks.CloseParenthesis) d.closes (d.last ∷ rest) refl d.closes_is in
    let last = after_here dot d.last rest refl d.last_is in
    ap (first_form atoms) d.whole ∙ rw (minus, named, opens, one, closes, last) refl

-- ---- modules

pub tree_sound : (atoms : List (List ℕ)) (ts : List NumberedToken) (m : Tree) → tree atoms ts ≡ Some m
    → DerivesTree atoms m ts
tree_sound atoms ts m e =
    let a = bind_some (first_form atoms ts) (λ x. after_first_form atoms x.0 x.1) m e in
    let n : TokenNames = record { atoms = atoms; own = a.0.0 } in
    let b = bind_some (exports n (length a.0.1) a.0.1) _ m a.2 in
    let c = bind_some (functions n (length b.0.1) b.0.1) _ m b.2 in
    let made : Tree = record { name = a.0.0; exports = b.0.0; functions = c.0 } in
    let g = cond_some (nat_le (length (name_of atoms a.0.0)) MOST_NAME_BYTES) (Some made) m c.2 in
    let es = exports_sound n (length a.0.1) a.0.1 b.0 b.1 in
    let fs = functions_sound n (length b.0.1) b.0.1 c.0 c.1 in
    subst (λ (t : Tree). DerivesTree atoms t ts) (some_is made m g.1)
    (record {
      rest = a.0.1;
      begins = begins_sound atoms ts a.0 a.1;
      short = leb-true _ _ g.0;
      forms = es.forms;
      all_exports = es.all_exports;
      parts = (es.took.front, b.0.1, es.took.parts, es.took.holds, fs);
    })

pub tree_complete : (atoms : List (List ℕ)) (ts : List NumberedToken) (m : Tree) → DerivesTree atoms m ts
    → tree atoms ts ≡ Some m
tree_complete atoms ts m d =
    let n : TokenNames = record { atoms = atoms; own = m.name } in
    let q = d.parts in
    let first = begins_complete atoms ts m.name d.rest d.begins in
    let enough : length q.0 ≤ length d.rest = let w = ap length q.2 in omega (arith, w, length-append q.0 q.1) in
    let es : exports n (length d.rest) d.rest ≡ Some (flat_map (λ fs. fs) d.forms, q.1) =
    ap (exports n (length d.rest)) q.2 ∙ exports_complete n d.forms q.0 q.1 (length d.rest) q.3
    (functions_open n m.functions q.1 q.4) enough in
    let fs = functions_complete n m.functions q.1 (length q.1) q.4 (omega arith) in
    let short = le-leb (length (name_of atoms m.name)) MOST_NAME_BYTES d.short in
    let all = d.all_exports in
    rw (first, es, fs, short, all) refl

pub one_tree : (atoms : List (List ℕ)) (ts : List NumberedToken) (a b : Tree) → DerivesTree atoms a ts
    → DerivesTree atoms b ts → a ≡ b
one_tree atoms ts a b d e = some_is a b (sym (tree_complete atoms ts a d) ∙ tree_complete atoms ts b e)

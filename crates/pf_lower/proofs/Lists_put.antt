-- Lists that are put together from their last element.
use Rattle.std.proofs.Common.{◌≡◌, ℕ, ◌+◌, ◌<◌, List, [], ◌∷◌, ◌++◌, length, take, get_or, refl, sym, ap, ◌∙◌, pos}
use Rattle.std.proofs.Common.{Some}
use Rattle.std.proofs.lemmas.List.{take_more}
use Rattle.std.specs.List.{All}
use Rattle.std.proofs.lemmas.List.Elements.{All-pop}
use Rattle.pf_terms.specs.Value.{int, none, more}
use Rattle.pf_terms.specs.Term.{value_of, values_of}
use Rattle.pf_terms.specs.declared.term.Term.{Term}
use Rattle.pf_syntax.specs.Pattern.{Pattern, cons_of}
use Rattle.pf_syntax.specs.Tree.{Tree, cons}
use Rattle.pf_syntax.specs.Naming.{characters, conses, conses_of}
use Rattle.pf_syntax.specs.Module.{Checked, Tables, pattern_at}
use Rattle.pf_syntax.specs.Over.{part_over, parts_over, patterns_at}
use Rattle.pf_syntax.specs.Within.{PatternRepresents, OperandRepresents}
use Rattle.pf_syntax.proofs.Extends.{part_kept}
use Rattle.pf_lower.specs.Grown.{Grown, PatternPut, PartPut}
use Rattle.pf_syntax.specs.declared.node.PatternId.{PatternId}
use Rattle.pf_syntax.specs.declared.node.Operand.{Operand}

-- the codes so far, and one more
values_more : (ts : List Term) (cs : List ℕ) (t : Term) (c : ℕ) → value_of t ≡ int (pos c)
    → values_of ts ≡ characters cs → values_of (ts ++ t ∷ []) ≡ characters (cs ++ c ∷ [])
values_more [] [] t c i e = ap (λ v. more v none) i
values_more (u ∷ ts) (x ∷ cs) t c i e =
    let h : value_of u ≡ int (pos x) = cc in
    let r : values_of ts ≡ characters cs = cc in
    let n = values_more ts cs t c i r in cc
values_more [] (x ∷ cs) t c i e = cc
values_more (u ∷ ts) [] t c i e = cc

pub codes_more : (ts : List Term) (cs : List ℕ) (k : ℕ) (t : Term) → k < length cs
    → value_of t ≡ int (pos (get_or cs k 0)) → values_of ts ≡ characters (take k cs)
    → values_of (ts ++ t ∷ []) ≡ characters (take (k + 1) cs)
codes_more ts cs k t lt i e = values_more ts (take k cs) t (get_or cs k 0) i e
    ∙ ap characters (sym (take_more cs k 0 lt))

module _ (t : Tables) where
  -- the last element goes before the tail
  pub conses_of_last : (ps : List PatternId) (p : PatternId) (x : Pattern)
      → conses_of (patterns_at t (ps ++ p ∷ [])) x ≡ conses_of (patterns_at t ps) (cons_of (pattern_at t p.0) x)
  conses_of_last [] p x = refl
  conses_of_last (q ∷ ps) p x = ap (cons_of (pattern_at t q.0)) (conses_of_last ps p x)

  pub conses_last : (ps : List Operand) (p : Operand) (x : Tree)
      → conses (parts_over t (ps ++ p ∷ [])) x ≡ conses (parts_over t ps) (cons (part_over t p) x)
  conses_last [] p x = refl
  conses_last (q ∷ ps) p x = ap (cons (part_over t q)) (conses_last ps p x)

-- one element is put before the list so far
pub pattern_step : (m0 m1 m2 : Checked) (all rest : List PatternId) (p l k : PatternId) (whole : Pattern)
    → all ≡ rest ++ p ∷ [] → Grown m0 m1
    → All (PatternRepresents m0.tables) all → PatternPut m1 m2
    (cons_of (pattern_at m1.tables p.0) (pattern_at m1.tables l.0)) k
    → conses_of (patterns_at m0.tables all) (pattern_at m1.tables l.0) ≡ whole
    → All (PatternRepresents m0.tables) rest × (conses_of (patterns_at m0.tables rest)
    (pattern_at m2.tables k.0) ≡ whole)
pattern_step m0 m1 m2 all rest p l k whole e g h put is =
    let parts = All-pop (PatternRepresents m0.tables) all rest (Some p) e h in (
      parts.0,
      ap (conses_of (patterns_at m0.tables rest))
          (put.is ∙ ap (λ x. cons_of x (pattern_at m1.tables l.0)) (g.tables.patterns p.0 parts.1))
          ∙ sym (conses_of_last m0.tables rest p (pattern_at m1.tables l.0))
          ∙ ap (λ ps. conses_of (patterns_at m0.tables ps) (pattern_at m1.tables l.0)) (sym e) ∙ is,
    )

pub part_step : (m0 m1 m2 : Checked) (all rest : List Operand) (p l k : Operand) (whole : Tree)
    → all ≡ rest ++ p ∷ [] → Grown m0 m1
    → All (OperandRepresents m0.tables) all → PartPut m1 m2 (cons (part_over m1.tables p) (part_over m1.tables l)) k
    → conses (parts_over m0.tables all) (part_over m1.tables l) ≡ whole
    → All (OperandRepresents m0.tables) rest × (conses (parts_over m0.tables rest) (part_over m2.tables k) ≡ whole)
part_step m0 m1 m2 all rest p l k whole e g h put is =
    let parts = All-pop (OperandRepresents m0.tables) all rest (Some p) e h in (
      parts.0,
      ap (conses (parts_over m0.tables rest))
          (put.is ∙ ap (λ x. cons x (part_over m1.tables l)) (part_kept m0.tables m1.tables g.tables p parts.1))
          ∙ sym (conses_last m0.tables rest p (part_over m1.tables l))
          ∙ ap (λ ps. conses (parts_over m0.tables ps) (part_over m1.tables l)) (sym e) ∙ is,
    )

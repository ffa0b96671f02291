-- What the fields of a heap stand for, after one more entry.
use Rattle.std.proofs.Common.{◌≡◌, ◌<◌, List, [], ◌∷◌, ◌++◌, length, get_or, take, drop, refl, sym, ap, ◌∙◌, arith}
use Rattle.std.proofs.Common.{subst, inl, inr}
use Rattle.std.specs.List.{All}
use Rattle.std.proofs.lemmas.List.{map-append, length-map, length-drop, length-append, take-append-le, drop-append-le}
use Rattle.std.proofs.lemmas.List.{drop_at, take_all, get_or_append_left, get_or_push, length_push}
use Rattle.std.proofs.lemmas.List.Elements.{All-head, All-tail, All-weaker, All-push}
use Rattle.std.proofs.lemmas.Bool.{cases_lt}
use Rattle.pf_terms.specs.Value.{Value, list, none}
use Rattle.pf_heap.specs.Heap.{Cell, block, cell_value, cell_values, ArePartsBelow, IsInOrder}
use Rattle.pf_heap.specs.View.{cell_of_parts, cell_of, cells_of, IsSpan, IsSizeOf, AreMeasured, IsSound}
use Rattle.pf_heap.proofs.Cells.{values_push, values_front, count_values, order_push}
use Rattle.pf_heap.specs.declared.word.Word.{Word}
use Rattle.pf_heap.specs.declared.heap.Entry.{Entry}
use Rattle.pf_heap.specs.declared.heap.Parts.{Parts}
use Rattle.pf_heap.specs.declared.heap.Parts.TheVariants as parts

-- ---- longer elements of tuples

parts_longer : (ws us : List Word) (p : Parts) → IsSpan ws p → cell_of_parts (ws ++ us) p ≡ cell_of_parts ws p
parts_longer ws us (parts.Pair h t) s = refl
parts_longer ws us (parts.Block start len) s =
    let n = length-drop start ws in
    let front = drop-append-le start ws us (omega arith) in
    let cut = take-append-le len (drop start ws) us (omega arith) in
    ap (λ (x : List Word). block (take len x)) front ∙ ap block cut

pub cells_longer : (ws us : List Word) (es : List Entry) → All (λ e. IsSpan ws e.parts) es
    → cells_of (ws ++ us) es ≡ cells_of ws es
cells_longer ws us [] s = refl
cells_longer ws us (e ∷ es) s =
    let first = parts_longer ws us e.parts (All-head (λ (x : Entry). IsSpan ws x.parts) e es s) in
    let rest = cells_longer ws us es (All-tail (λ (x : Entry). IsSpan ws x.parts) e es s) in
    cc

span_longer : (ws us : List Word) (p : Parts) → IsSpan ws p → IsSpan (ws ++ us) p
span_longer ws us (parts.Pair h t) s = tt
span_longer ws us (parts.Block start len) s = omega (arith, length-append ws us)

pub spans_longer : (ws us : List Word) (es : List Entry) → All (λ e. IsSpan ws e.parts) es
    → All (λ e. IsSpan (ws ++ us) e.parts) es
spans_longer ws us es s =
    All-weaker (λ (e : Entry). IsSpan ws e.parts) (λ (e : Entry). IsSpan (ws ++ us) e.parts)
    (λ e x. span_longer ws us e.parts x) es s

pub sound_longer : (ws us vs : List Word) (es : List Entry) → vs ≡ ws ++ us → IsSound ws es → IsSound vs es
sound_longer ws us vs es is s =
    let same = cells_longer ws us es s.spans in
    let sound : IsSound (ws ++ us) es = record {
      spans = spans_longer ws us es s.spans;
      ordered = subst IsInOrder (sym same) s.ordered;
      measured = subst (λ (h : List Cell). AreMeasured es (cell_values h)) (sym same) s.measured;
    } in
    subst (λ (x : List Word). IsSound x es) (sym is) sound

-- what was put at the end is read there
pub block_at_end : (ws us : List Word) → take (length us) (drop (length ws) (ws ++ us)) ≡ us
block_at_end ws us = ap (take (length us)) (drop_at ws us (length ws) refl) ∙ take_all (length us) us (omega arith)

-- ---- one more entry

cells_push : (ws : List Word) (es : List Entry) (e : Entry)
    → cells_of ws (es ++ e ∷ []) ≡ cells_of ws es ++ cell_of ws e ∷ []
cells_push ws es e = map-append (cell_of ws) es (e ∷ [])

measured_push : (es : List Entry) (e : Entry) (h : List Cell) (c : Cell) → length h ≡ length es
    → AreMeasured es (cell_values h) → IsSizeOf e.size (cell_value (cell_values h) c)
    → AreMeasured (es ++ e ∷ []) (cell_values (h ++ c ∷ []))
measured_push es e h c n m s k d lt =
    let P : Entry → Value → Type 0 = λ x v. IsSizeOf x.size v in
    let before : k < length es → P (get_or (es ++ e ∷ []) k d) (get_or (cell_values (h ++ c ∷ [])) k (list none)) =
    λ below.
    subst (λ (x : Entry). P x (get_or (cell_values (h ++ c ∷ [])) k (list none)))
    (sym (get_or_append_left es (e ∷ []) d k below))
    (subst (P (get_or es k d)) (sym (values_front h (c ∷ []) k (list none) (omega arith))) (m k d below)) in
    let last : length es ≡ k → P (get_or (es ++ e ∷ []) k d) (get_or (cell_values (h ++ c ∷ [])) k (list none)) = λ at.
    let v : get_or (cell_values (h ++ c ∷ [])) k (list none) ≡ cell_value (cell_values h) c =
    ap (λ (vs : List Value). get_or vs k (list none)) (values_push h c) ∙ get_or_push (cell_values h)
    (cell_value (cell_values h) c) (list none) k (count_values h ∙ n ∙ at) in
    subst (λ (x : Entry). P x (get_or (cell_values (h ++ c ∷ [])) k (list none))) (sym (get_or_push es e d k at))
    (subst (P e) (sym v) s) in
    elim (cases_lt k (length es)) [ inl below ↦ before below | inr above ↦ last (omega (arith, length_push es e)) ]

module _ (ws vs : List Word) (es : List Entry) (e : Entry) (fs : List Entry) (is : fs ≡ es ++ e ∷ [])
    (same : cells_of vs es ≡ cells_of ws es) where
  pub pushed_view : cells_of vs fs ≡ cells_of ws es ++ cell_of vs e ∷ []
  pushed_view = ap (cells_of vs) is ∙ cells_push vs es e ∙ ap (λ (h : List Cell). h ++ cell_of vs e ∷ []) same

  pub pushed_sound : IsSound ws es → All (λ x. IsSpan vs x.parts) es → IsSpan vs e.parts
      → ArePartsBelow (cells_of ws es) (length (cells_of ws es)) (cell_of vs e)
      → IsSizeOf e.size (cell_value (cell_values (cells_of ws es)) (cell_of vs e)) → IsSound vs fs
  pushed_sound s spans span below size =
      let h = cells_of ws es in
      let c = cell_of vs e in
      record {
        spans = subst (All (λ x. IsSpan vs x.parts)) (sym is) (All-push (λ x. IsSpan vs x.parts) es e spans span);
        ordered = subst IsInOrder (sym pushed_view) (order_push h c s.ordered below);
        measured = subst (λ (g : List Cell). AreMeasured fs (cell_values g)) (sym pushed_view)
            (subst (λ (x : List Entry). AreMeasured x (cell_values (h ++ c ∷ []))) (sym is)
            (measured_push es e h c (length-map es (cell_of ws)) s.measured size));
      }

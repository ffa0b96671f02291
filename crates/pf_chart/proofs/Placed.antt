-- Rows are in the order of their events, and those before an event are counted.
use Rattle.std.proofs.Common.{◌≡◌, ◌+◌, ◌<◌, ◌≤◌, ℕ, zero, suc, Bool, true, false, cond, List, [], ◌∷◌, ◌++◌, length}
use Rattle.std.proofs.Common.{take, get_or, map, sym, ap, ◌∙◌, subst, arith}
use Rattle.std.specs.Prelude.{if◌then◌else◌, nat_lt}
use Rattle.std.specs.List.Sorted.{IsNonDecreasingBy, IsPartitionPoint}
use Rattle.std.proofs.lemmas.List.{length-map, length-take-le, map_more}
use Rattle.std.proofs.lemmas.List.Sums.{sum_by-cons}
use Rattle.std.proofs.Math.ListN.{get_or-map}
use Rattle.pf_model.specs.Meaning.{Event}
use Rattle.pf_chart.specs.Chart.{has_row, rows_from}
use Rattle.pf_chart.specs.Sheets.{rows_before}
use Rattle.pf_chart.specs.declared.rows.EventRow.{EventRow}

abbrev places : List EventRow → List ℕ
places rows = map (λ r. r.index) rows

-- ---- how many are before an event

next : (n e : ℕ) (ns : List ℕ) → rows_before (n ∷ ns) e ≡ cond (nat_lt n e) 1 0 + rows_before ns e
next n e ns = sum_by-cons (λ k. cond (nat_lt k e) 1 0) n ns

pub counted : (rows : List EventRow) (e i : ℕ) → i ≤ length rows
    → IsPartitionPoint (λ r. nat_lt r.index e ≡ true) (λ r. nat_lt r.index e ≡ false) rows i
    → i ≡ rows_before (places rows) e
counted [] e i within h = let none : i ≡ 0 = omega (arith, within) in none
counted (r ∷ rows) e zero within h =
    let none : nat_lt r.index e ≡ false = h.1 0 r (omega arith) (omega arith) in
    let rest : 0 ≡ rows_before (places rows) e =
    counted rows e zero (omega arith) (
      λ k d low high. absurd (omega arith),
      λ k d low high.
          h.1 (suc k) d (omega arith) (omega arith),
    ) in
    let all : rows_before (places (r ∷ rows)) e ≡ 0 + rows_before (places rows) e =
    next r.index e (places rows) ∙ ap (λ (b : Bool). cond b 1 0 + rows_before (places rows) e) none in
    omega (arith, all, rest)
counted (r ∷ rows) e (suc i) within h =
    let one : nat_lt r.index e ≡ true = h.0 0 r (omega arith) (omega arith) in
    let rest : i ≡ rows_before (places rows) e =
    counted rows e i (omega arith) (
      λ k d low high. h.0 (suc k) d (omega arith) (omega arith),
      λ k d low high.
          h.1 (suc k) d (omega arith) (omega arith),
    ) in
    let all : rows_before (places (r ∷ rows)) e ≡ 1 + rows_before (places rows) e =
    next r.index e (places rows) ∙ ap (λ (b : Bool). cond b 1 0 + rows_before (places rows) e) one in
    omega (arith, all, rest)

-- ---- order

record AreFrom (n : ℕ) (ns : List ℕ) : Type 0 where
  pub least : (i d : ℕ) → i < length ns → n ≤ get_or ns i d
  pub order : (i j d : ℕ) → i ≤ j → j < length ns → get_or ns i d ≤ get_or ns j d

least_of : (n : ℕ) (ns : List ℕ) → AreFrom (suc n) ns → (i d : ℕ) → i < length (n ∷ ns) → n ≤ get_or (n ∷ ns) i d
least_of n ns h zero d low = omega arith
least_of n ns h (suc i) d low = let from = h.least i d (omega arith) in omega (arith, from)

order_of : (n : ℕ) (ns : List ℕ) → AreFrom (suc n) ns → (i j d : ℕ) → i ≤ j → j < length (n ∷ ns)
    → get_or (n ∷ ns) i d ≤ get_or (n ∷ ns) j d
order_of n ns h zero j d le low = least_of n ns h j d low
order_of n ns h (suc i) zero d le low = absurd (omega arith)
order_of n ns h (suc i) (suc j) d le low = h.order i j d (omega arith) (omega arith)

one_more : (n : ℕ) (has : Bool) (ns : List ℕ) → AreFrom (suc n) ns → AreFrom n (if has then n ∷ ns else ns)
one_more n true ns h = record { least = least_of n ns h; order = order_of n ns h }
one_more n false ns h = record {
  least = λ i d low. (let from = h.least i d low in omega (arith, from));
  order = h.order;
}

rise : (compact : Bool) (n : ℕ) (es : List Event) → AreFrom n (rows_from compact n es)
rise compact n [] = record { least = λ i d low. absurd (omega arith); order = λ i j d le low. absurd (omega arith) }
rise compact n (e ∷ es) = one_more n (has_row compact e) (rows_from compact (suc n) es) (rise compact (suc n) es)

pub in_order : (compact : Bool) (rows : List EventRow) (es : List Event) → places rows ≡ rows_from compact 0 es
    → IsNonDecreasingBy (λ r. r.index) rows
in_order compact rows es are i j d le low =
    let count : length (rows_from compact 0 es) ≡ length rows = ap length (sym are) ∙ length-map rows (λ r. r.index) in
    let rises = (rise compact 0 es).order i j d.index le (omega (arith, count)) in
    let reported : get_or (places rows) i d.index ≤ get_or (places rows) j d.index =
    subst (λ ns. get_or ns i d.index ≤ get_or ns j d.index) (sym are) rises in
    let one = get_or-map (λ (r : EventRow). r.index) rows i d in
    let other = get_or-map (λ (r : EventRow). r.index) rows j d in
    omega (arith, reported, one, other)

-- ---- one event more

one : (n : ℕ) (has : Bool) (ns ms more : List ℕ) → ns ≡ ms ++ more
    → (if has then n ∷ ns else ns) ≡ (if has then n ∷ ms else ms) ++ more
one n true ns ms more h = ap (λ (ks : List ℕ). n ∷ ks) h
one n false ns ms more h = h

pub places_more : (compact : Bool) (n : ℕ) (es : List Event) (e : Event)
    → rows_from compact n (es ++ e ∷ []) ≡ rows_from compact n es
    ++ (if has_row compact e then (n + length es) ∷ [] else [])
places_more compact n [] e =
    let here : n ≡ n + length {A = Event} [] = omega arith in
    ap (λ (k : ℕ). if has_row compact e then k ∷ [] else []) here
places_more compact n (x ∷ es) e =
    let there : suc n + length es ≡ n + length (x ∷ es) = omega arith in
    let rest = places_more compact (suc n) es e
    ∙ ap (λ (k : ℕ). rows_from compact (suc n) es ++ (if has_row compact e then k ∷ [] else [])) there in
    one n (has_row compact x) (rows_from compact (suc n) (es ++ e ∷ [])) (rows_from compact (suc n) es) _ rest

-- the row of one event more, which was read
pub place_next : {X : Type 0} (g : X → Event) (compact : Bool) (es : List X) (i : ℕ) (d : X) → i < length es
    → rows_from compact 0 (map g (take (i + 1) es)) ≡ rows_from compact 0 (map g (take i es))
    ++ (if has_row compact (g (get_or es i d)) then i ∷ [] else [])
place_next g compact es i d below =
    let within : i ≤ length es = omega arith in
    let count : length (map g (take i es)) ≡ i = length-map (take i es) g ∙ length-take-le i es within in
    let size : 0 + length (map g (take i es)) ≡ i = omega (arith, count) in
    ap (rows_from compact 0) (map_more g es i d below) ∙ places_more compact 0 (map g (take i es)) (g (get_or es i d))
    ∙ ap (λ (k : ℕ). rows_from compact 0 (map g (take i es)) ++ (if has_row compact (g (get_or es i d)) then
    k ∷ [] else [])) size

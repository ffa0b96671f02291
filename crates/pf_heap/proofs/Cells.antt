-- Heaps of cells: values by index, and what a heap that grows keeps.
use Rattle.std.proofs.Common.{◌≡◌, ℕ, ◌+◌, ◌<◌, ◌≤◌, List, [], ◌∷◌, ◌++◌, length, get_or, take, drop, refl, sym, ap}
use Rattle.std.proofs.Common.{◌∙◌, arith, subst}
use Rattle.std.specs.Prelude.{fold}
use Rattle.std.specs.List.{All}
use Rattle.std.proofs.lemmas.List.{get_or_append_left, get_or_push, length_push, take_more, take-append-drop}
use Rattle.std.proofs.lemmas.List.{length-take-le, length-append}
use Rattle.std.proofs.lemmas.Bool.{cases_lt}
use Rattle.std.proofs.Common.{inl, inr}
use Rattle.std.proofs.lemmas.List.Elements.{All-head, All-tail, All-weaker}
use Rattle.pf_terms.specs.Value.{Value, int, atom, ref, pid, tuple, list, none, nodes, nodes_in, depth, depth_in}
use Rattle.pf_heap.specs.Heap.{Cell, pair, block, elements, value_over, values_over, cell_value, with_cell, cell_values}
use Rattle.pf_heap.specs.Heap.{cell_at, IsPair, IsBlock, IsBelow, IsWordOf, IsList, ArePartsBelow, IsInOrder, Keeps}
use Rattle.pf_heap.specs.declared.word.Word.{Word}
use Rattle.pf_heap.specs.declared.word.Word.TheVariants as word

-- ---- values by index

fold_push : (vs : List Value) (h : List Cell) (c : Cell)
    → fold with_cell vs (h ++ c ∷ []) ≡ with_cell (fold with_cell vs h) c
fold_push vs [] c = refl
fold_push vs (x ∷ h) c = fold_push (with_cell vs x) h c

fold_append : (vs : List Value) (h g : List Cell) → fold with_cell vs (h ++ g) ≡ fold with_cell (fold with_cell vs h) g
fold_append vs [] g = refl
fold_append vs (x ∷ h) g = fold_append (with_cell vs x) h g

fold_length : (vs : List Value) (h : List Cell) → length (fold with_cell vs h) ≡ length vs + length h
fold_length vs [] = omega arith
fold_length vs (x ∷ h) = omega (arith, fold_length (with_cell vs x) h, length_push vs (cell_value vs x))

fold_front : (vs : List Value) (h : List Cell) (i : ℕ) (d : Value) → i < length vs
    → get_or (fold with_cell vs h) i d ≡ get_or vs i d
fold_front vs [] i d lt = refl
fold_front vs (x ∷ h) i d lt =
    let n = length_push vs (cell_value vs x) in
    let longer : i < length (with_cell vs x) = omega arith in
    fold_front (with_cell vs x) h i d longer ∙ get_or_append_left vs (cell_value vs x ∷ []) d i lt

pub values_push : (h : List Cell) (c : Cell) → cell_values (h ++ c ∷ []) ≡ cell_values h
    ++ cell_value (cell_values h) c ∷ []
unfolding cell_values
values_push h c = fold_push [] h c

pub values_none : cell_values [] ≡ []
unfolding cell_values
values_none = refl

pub count_values : (h : List Cell) → length (cell_values h) ≡ length h
unfolding cell_values
count_values h = omega (arith, fold_length [] h)

pub values_front : (h g : List Cell) (i : ℕ) (d : Value) → i < length h
    → get_or (cell_values (h ++ g)) i d ≡ get_or (cell_values h) i d
unfolding cell_values
values_front h g i d lt =
    let n = fold_length [] h in
    let within : i < length (fold with_cell [] h) = omega arith in
    ap (λ (vs : List Value). get_or vs i d) (fold_append [] h g) ∙ fold_front (fold with_cell [] h) g i d within

-- ---- a value depends on the cells below alone

pub over_below : (us vs : List Value) (h : List Cell) (k : ℕ) (w : Word) → IsBelow h k w
    → ((i : ℕ) → i < k → get_or us i (list none) ≡ get_or vs i (list none)) → value_over us w ≡ value_over vs w
over_below us vs h k (word.Int n) b same = refl
over_below us vs h k (word.Atom a) b same = refl
over_below us vs h k (word.Ref r) b same = refl
over_below us vs h k (word.Pid p) b same = refl
over_below us vs h k (word.Tuple i) b same = same i b.0
over_below us vs h k word.Nil b same = refl
over_below us vs h k (word.Cons i) b same = same i b.0

pub all_over_below : (us vs : List Value) (h : List Cell) (k : ℕ) (ws : List Word) → All (IsBelow h k) ws
    → ((i : ℕ) → i < k → get_or us i (list none) ≡ get_or vs i (list none)) → values_over us ws ≡ values_over vs ws
all_over_below us vs h k [] b same = refl
all_over_below us vs h k (w ∷ ws) b same =
    let first = over_below us vs h k w (All-head (IsBelow h k) w ws b) same in
    let rest = all_over_below us vs h k ws (All-tail (IsBelow h k) w ws b) same in
    cc

pub cell_below : (us vs : List Value) (h : List Cell) (k : ℕ) (c : Cell) → ArePartsBelow h k c
    → ((i : ℕ) → i < k → get_or us i (list none) ≡ get_or vs i (list none)) → cell_value us c ≡ cell_value vs c
cell_below us vs h k (pair a t) b same =
    let first = over_below us vs h k a b.0 same in
    let rest = over_below us vs h k t b.1 same in
    cc
cell_below us vs h k (block ws) b same = ap tuple (all_over_below us vs h k ws b same)

-- the value at an index is that of its cell
pub value_at : (h : List Cell) (k : ℕ) → IsInOrder h → k < length h
    → get_or (cell_values h) k (list none) ≡ cell_value (cell_values h) (cell_at h k)
value_at h k o lt =
    let d : Cell = block [] in
    let c = cell_at h k in
    let front = take k h in
    let n : length front ≡ k = length-take-le k h (omega arith) in
    let one : take (k + 1) h ≡ front ++ c ∷ [] = take_more h k d lt in
    let whole : (front ++ c ∷ []) ++ drop (k + 1) h ≡ h = ap (λ (x : List Cell). x ++ drop (k + 1) h) (sym one)
    ∙ take-append-drop (k + 1) h in
    let more_than : k < length (front ++ c ∷ []) = omega (arith, length_push front c) in
    let m : length (cell_values front) ≡ k = count_values front ∙ n in
    let at : get_or (cell_values h) k (list none) ≡ cell_value (cell_values front) c =
    ap (λ (x : List Cell). get_or (cell_values x) k (list none)) (sym whole) ∙ values_front (front ++ c ∷ [])
    (drop (k + 1) h) k (list none) more_than
    ∙ ap (λ (vs : List Value). get_or vs k (list none)) (values_push front c) ∙ get_or_push (cell_values front)
    (cell_value (cell_values front) c) (list none) k m in
    let same : (i : ℕ) → i < k → get_or (cell_values front) i (list none) ≡ get_or (cell_values h) i (list none) =
    λ i b. sym (values_front front (drop k h) i (list none) (omega arith))
    ∙ ap (λ (x : List Cell). get_or (cell_values x) i (list none)) (take-append-drop k h) in
    at ∙ cell_below (cell_values front) (cell_values h) h k c (o k lt) same

-- ---- a heap that grows

pub below_more : (h : List Cell) (k m : ℕ) (w : Word) → k ≤ m → IsBelow h k w → IsBelow h m w
below_more h k m (word.Int n) le b = tt
below_more h k m (word.Atom a) le b = b
below_more h k m (word.Ref r) le b = tt
below_more h k m (word.Pid p) le b = b
below_more h k m (word.Tuple i) le b = (omega (arith, b.0), b.1)
below_more h k m word.Nil le b = tt
below_more h k m (word.Cons i) le b = (omega (arith, b.0), b.1)

pub cell_front : (h g : List Cell) (i : ℕ) → i < length h → cell_at (h ++ g) i ≡ cell_at h i
cell_front h g i lt = get_or_append_left h g (block []) i lt

pub below_longer : (h g : List Cell) (k : ℕ) (w : Word) → k ≤ length h → IsBelow h k w → IsBelow (h ++ g) k w
below_longer h g k (word.Int n) le b = tt
below_longer h g k (word.Atom a) le b = b
below_longer h g k (word.Ref r) le b = tt
below_longer h g k (word.Pid p) le b = b
below_longer h g k (word.Tuple i) le b = (b.0, subst IsBlock (sym (cell_front h g i (omega (arith, b.0)))) b.1)
below_longer h g k word.Nil le b = tt
below_longer h g k (word.Cons i) le b = (b.0, subst IsPair (sym (cell_front h g i (omega (arith, b.0)))) b.1)

pub parts_longer : (h g : List Cell) (k : ℕ) (c : Cell) → k ≤ length h → ArePartsBelow h k c
    → ArePartsBelow (h ++ g) k c
parts_longer h g k (pair a t) le b = (below_longer h g k a le b.0, below_longer h g k t le b.1, b.2)
parts_longer h g k (block ws) le b =
    All-weaker (IsBelow h k) (IsBelow (h ++ g) k) (λ w x. below_longer h g k w le x) ws b

pub keeps_itself : (h : List Cell) → Keeps h h
keeps_itself h = record { words = λ w b. b; values = λ w b. refl }

pub keeps_append : (h g : List Cell) → Keeps h (h ++ g)
keeps_append h g = record {
  words = λ w b. below_more (h ++ g) (length h) (length (h ++ g)) w (omega (arith, length-append h g))
      (below_longer h g (length h) w (omega arith) b);
  values = λ w b. over_below (cell_values (h ++ g)) (cell_values h) h (length h) w b
      (λ i lt. values_front h g i (list none) lt);
}

pub keeps_then : (h g f : List Cell) → Keeps h g → Keeps g f → Keeps h f
keeps_then h g f a b = record {
  words = λ w x. b.words w (a.words w x);
  values = λ w x. b.values w (a.words w x) ∙ a.values w x;
}

pub order_push : (h : List Cell) (c : Cell) → IsInOrder h → ArePartsBelow h (length h) c → IsInOrder (h ++ c ∷ [])
order_push h c o b k lt =
    let last : (n : ℕ) → length h ≡ n → ArePartsBelow (h ++ c ∷ []) n (cell_at (h ++ c ∷ []) n) = λ n e.
    subst (ArePartsBelow (h ++ c ∷ []) n) (sym (get_or_push h c (block []) n e))
    (subst (λ m. ArePartsBelow (h ++ c ∷ []) m c) e (parts_longer h (c ∷ []) (length h) c (omega arith) b)) in
    elim (cases_lt k (length h)) [
      | inl below ↦ subst (ArePartsBelow (h ++ c ∷ []) k) (sym (cell_front h (c ∷ []) k below))
          (parts_longer h (c ∷ []) k (cell_at h k) (omega arith) (o k below))
      | inr above ↦ last k (omega (arith, length_push h c))
    ]

pub cell_pushed : (h : List Cell) (c : Cell) (n : ℕ) → n ≡ length h → cell_at (h ++ c ∷ []) n ≡ c
cell_pushed h c n e = get_or_push h c (block []) n (sym e)

pub value_pushed : (h : List Cell) (c : Cell) (n : ℕ) → n ≡ length h
    → get_or (cell_values (h ++ c ∷ [])) n (list none) ≡ cell_value (cell_values h) c
value_pushed h c n e =
    ap (λ (vs : List Value). get_or vs n (list none)) (values_push h c) ∙ get_or_push (cell_values h)
    (cell_value (cell_values h) c) (list none) n (count_values h ∙ sym e)

-- ---- a heap with one more cell

module _ (h g : List Cell) (c : Cell) (added : g ≡ h ++ c ∷ []) where
  pub keeps_pushed : Keeps h g
  keeps_pushed = subst (Keeps h) (sym added) (keeps_append h (c ∷ []))

  pub made_pushed : (n : ℕ) → n ≡ length h → get_or (cell_values g) n (list none) ≡ cell_value (cell_values h) c
  made_pushed n e = ap (λ (x : List Cell). get_or (cell_values x) n (list none)) added ∙ value_pushed h c n e

  pub cell_is : (n : ℕ) → n ≡ length h → cell_at g n ≡ c
  cell_is n e = ap (λ (x : List Cell). cell_at x n) added ∙ cell_pushed h c n e

  pub longer : (n : ℕ) → n ≡ length h → n < length g
  longer n e = omega (arith, ap length added, length_push h c)

pub pair_pushed : (h g : List Cell) (a t : Word) → g ≡ h ++ pair a t ∷ [] → (n : ℕ) → n ≡ length h
    → IsWordOf g (word.Cons n) × IsList (word.Cons n)
pair_pushed h g a t added n e = (
  (
    longer h g (pair a t) added n e,
    subst IsPair (sym (cell_is h g (pair a t) added n e)) tt,
  ),
  tt,
)

pub block_pushed : (h g : List Cell) (ws : List Word) → g ≡ h ++ block ws ∷ [] → (n : ℕ) → n ≡ length h
    → IsWordOf g (word.Tuple n)
block_pushed h g ws added n e = (
  longer h g (block ws) added n e,
  subst IsBlock (sym (cell_is h g (block ws) added n e)) tt,
)

pub nodes_elements : (v : Value) → nodes v ≡ 1 + nodes_in (elements v)
nodes_elements (int z) = refl
nodes_elements (atom a) = refl
nodes_elements (ref r) = refl
nodes_elements (pid p) = refl
nodes_elements (tuple vs) = refl
nodes_elements (list vs) = refl

pub depth_elements : (v : Value) → depth v ≡ 1 + depth_in (elements v)
depth_elements (int z) = refl
depth_elements (atom a) = refl
depth_elements (ref r) = refl
depth_elements (pid p) = refl
depth_elements (tuple vs) = refl
depth_elements (list vs) = refl

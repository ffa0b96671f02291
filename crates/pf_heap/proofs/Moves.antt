-- Cells that are moved to another heap, one after another.
use Rattle.std.proofs.Common.{◌≡◌, ℕ, ◌+◌, ◌<◌, ◌≤◌, Bool, true, false, List, [], ◌∷◌, ◌++◌, length, get_or, refl, sym}
use Rattle.std.proofs.Common.{ap, ◌∙◌, arith, subst, inl, inr}
use Rattle.std.specs.Prelude.{map}
use Rattle.std.specs.List.{All}
use Rattle.std.proofs.lemmas.Bool.{cases_lt}
use Rattle.std.proofs.lemmas.List.{get_or_append_left, get_or_push}
use Rattle.std.proofs.lemmas.List.Elements.{All-nil, All-cons, All-head, All-tail}
use Rattle.pf_terms.specs.Value.{Value, list, tuple, none}
use Rattle.pf_heap.specs.Heap.{Cell, pair, block, value_over, values_over, cell_value, cell_values, cell_at, word_value}
use Rattle.pf_heap.specs.Heap.{word_values, IsPair, IsBlock, IsBelow, IsWordOf, IsList, ArePartsBelow, IsInOrder, Keeps}
use Rattle.pf_heap.specs.Marks.{IsMarked, ArePartsMarked, renamed, renamed_cell, Moves}
use Rattle.pf_heap.proofs.Cells.{value_at, keeps_pushed, made_pushed, cell_is, longer}
use Rattle.pf_heap.specs.declared.word.Word.{Word}
use Rattle.pf_heap.specs.declared.word.Word.TheVariants as word

-- ---- what was moved has the values that it had

module _ (h : List Cell) (i : ℕ) (ms : List Bool) (ps : List ℕ) (g : List Cell) (moves : Moves h i ms ps g) where
  pub moved_values : (ws : List Word) → All (IsBelow h i) ws → All (IsMarked ms) ws
      → word_values g (map (renamed ps) ws) ≡ word_values h ws
  moved_values [] b m = refl
  moved_values (w ∷ ws) b m =
      let first = moves.values w (All-head (IsBelow h i) w ws b) (All-head (IsMarked ms) w ws m) in
      let rest = moved_values ws (All-tail (IsBelow h i) w ws b) (All-tail (IsMarked ms) w ws m) in
      cc

  pub moved_words : (ws : List Word) → All (IsBelow h i) ws → All (IsMarked ms) ws
      → All (IsWordOf g) (map (renamed ps) ws)
  moved_words [] b m = All-nil (IsWordOf g)
  moved_words (w ∷ ws) b m =
      let first = moves.words w (All-head (IsBelow h i) w ws b) (All-head (IsMarked ms) w ws m) in
      let rest = moved_words ws (All-tail (IsBelow h i) w ws b) (All-tail (IsMarked ms) w ws m) in
      All-cons (IsWordOf g) (renamed ps w) (map (renamed ps) ws) first rest

  pub moved_cell : (c : Cell) → ArePartsBelow h i c → ArePartsMarked ms c
      → cell_value (cell_values g) (renamed_cell ps c) ≡ cell_value (cell_values h) c
  moved_cell (pair a t) b m =
      let first = moves.values a b.0 m.0 in
      let rest = moves.values t b.1 m.1 in
      cc
  moved_cell (block ws) b m = ap tuple (moved_values ws b m)

  renamed_list : (w : Word) → IsList w → IsList (renamed ps w)
  renamed_list word.Nil l = tt
  renamed_list (word.Cons j) l = tt
  renamed_list (word.Int n) l = absurd l
  renamed_list (word.Atom a) l = absurd l
  renamed_list (word.Ref r) l = absurd l
  renamed_list (word.Pid p) l = absurd l
  renamed_list (word.Tuple j) l = absurd l

  pub moved_parts : (c : Cell) → ArePartsBelow h i c → ArePartsMarked ms c
      → ArePartsBelow g (length g) (renamed_cell ps c)
  moved_parts (pair a t) b m = (moves.words a b.0 m.0, moves.words t b.1 m.1, renamed_list t b.2)
  moved_parts (block ws) b m = moved_words ws b m

none_words : (h : List Cell) (w : Word) → IsBelow h 0 w → IsWordOf [] (renamed [] w)
none_words h (word.Int n) b = b
none_words h (word.Atom a) b = b
none_words h (word.Ref r) b = b
none_words h (word.Pid p) b = b
none_words h (word.Tuple i) b = absurd (omega (arith, b.0))
none_words h (word.Cons i) b = absurd (omega (arith, b.0))
none_words h word.Nil b = b

none_values : (h : List Cell) (w : Word) → IsBelow h 0 w → word_value [] (renamed [] w) ≡ word_value h w
none_values h (word.Int n) b = refl
none_values h (word.Atom a) b = refl
none_values h (word.Ref r) b = refl
none_values h (word.Pid p) b = refl
none_values h (word.Tuple i) b = absurd (omega (arith, b.0))
none_values h (word.Cons i) b = absurd (omega (arith, b.0))
none_values h word.Nil b = refl

pub moves_none : (h : List Cell) (ms : List Bool) → Moves h 0 ms [] []
moves_none h ms = record { words = λ w b m. none_words h w b; values = λ w b m. none_values h w b }

-- ---- one cell more

-- the place of a cell that was moved before stays
place_before : (ps : List ℕ) (i n j : ℕ) → length ps ≡ i → j < i → get_or (ps ++ n ∷ []) j 0 ≡ get_or ps j 0
place_before ps i n j c lt = get_or_append_left ps (n ∷ []) 0 j (omega arith)

renamed_before : (h : List Cell) (ps : List ℕ) (i n : ℕ) (w : Word) → length ps ≡ i → IsBelow h i w
    → renamed (ps ++ n ∷ []) w ≡ renamed ps w
renamed_before h ps i n (word.Int x) c b = refl
renamed_before h ps i n (word.Atom a) c b = refl
renamed_before h ps i n (word.Ref r) c b = refl
renamed_before h ps i n (word.Pid p) c b = refl
renamed_before h ps i n (word.Tuple j) c b = ap (λ (x : ℕ). word.Tuple x) (place_before ps i n j c b.0)
renamed_before h ps i n word.Nil c b = refl
renamed_before h ps i n (word.Cons j) c b = ap (λ (x : ℕ). word.Cons x) (place_before ps i n j c b.0)

-- a word below one more index is below that index, or it names the cell of that index
data Where (h : List Cell) (i : ℕ) (w : Word) : Type 0 where
  before : IsBelow h i w → Where h i w
  pair_here : w ≡ word.Cons i → IsPair (cell_at h i) → Where h i w
  block_here : w ≡ word.Tuple i → IsBlock (cell_at h i) → Where h i w

found : (h : List Cell) (i : ℕ) (w : Word) → IsBelow h (i + 1) w → Where h i w
found h i (word.Int n) b = before tt
found h i (word.Atom a) b = before b
found h i (word.Ref r) b = before tt
found h i (word.Pid p) b = before b
found h i word.Nil b = before tt
found h i (word.Tuple j) b = elim (cases_lt j i) [
  | inl lt ↦ before (lt, b.1)
  | inr ge ↦ let e : j ≡ i = omega (arith, b.0) in block_here (ap (λ (x : ℕ). word.Tuple x) e)
      (subst (λ (x : ℕ). IsBlock (cell_at h x)) e b.1)
]
found h i (word.Cons j) b = elim (cases_lt j i) [
  | inl lt ↦ before (lt, b.1)
  | inr ge ↦ let e : j ≡ i = omega (arith, b.0) in
      pair_here (ap (λ (x : ℕ). word.Cons x) e) (subst (λ (x : ℕ). IsPair (cell_at h x)) e b.1)
]

renamed_pair : (ps : List ℕ) (c : Cell) → IsPair c → IsPair (renamed_cell ps c)
renamed_pair ps (pair a t) p = tt
renamed_pair ps (block ws) p = absurd p

renamed_block : (ps : List ℕ) (c : Cell) → IsBlock c → IsBlock (renamed_cell ps c)
renamed_block ps (pair a t) p = absurd p
renamed_block ps (block ws) p = tt

-- a word has its value in the other heap by its new name
pub record Arrives (h : List Cell) (w : Word) (g : List Cell) (v : Word) : Type 0 where
  pub here : IsWordOf g v
  pub same : word_value g v ≡ word_value h w

module _ (h : List Cell) (i : ℕ) (ms : List Bool) (ps : List ℕ) (g : List Cell) (count : length ps ≡ i)
    (moves : Moves h i ms ps g) where
  arrives_before : (f : List Cell) (n : ℕ) (w : Word) → Keeps g f → IsBelow h i w → IsMarked ms w
      → Arrives h w f (renamed (ps ++ n ∷ []) w)
  arrives_before f n w k b m =
      let same = renamed_before h ps i n w count b in
      let there = moves.words w b m in
      subst (Arrives h w f) (sym same) (record {
        here = k.words (renamed ps w) there;
        same =
            k.values (renamed ps w) there ∙ moves.values w b m;
      })

  module _ (f : List Cell) (ordered : IsInOrder h) (within : i < length h) (parts : ArePartsMarked ms (cell_at h i))
      (added : f ≡ g ++ renamed_cell ps (cell_at h i) ∷ []) where
    here_value : get_or (cell_values f) (length g) (list none) ≡ get_or (cell_values h) i (list none)
    here_value =
        let c = cell_at h i in
        made_pushed g f (renamed_cell ps c) added (length g) refl ∙ moved_cell h i ms ps g moves c (ordered i within)
        parts ∙ sym (value_at h i ordered within)

    here_place : get_or (ps ++ length g ∷ []) i 0 ≡ length g
    here_place = get_or_push ps (length g) 0 i count

    arrives_pair : IsPair (cell_at h i) → Arrives h (word.Cons i) f (renamed (ps ++ length g ∷ []) (word.Cons i))
    arrives_pair p =
        let c = renamed_cell ps (cell_at h i) in
        let at : IsWordOf f (word.Cons (length g)) = (
          longer g f c added (length g) refl,
          subst IsPair (sym (cell_is g f c added (length g) refl))
              (renamed_pair ps (cell_at h i) p),
        ) in
        subst (λ (x : ℕ). Arrives h (word.Cons i) f (word.Cons x)) (sym here_place)
        (record { here = at; same = here_value })

    arrives_block : IsBlock (cell_at h i) → Arrives h (word.Tuple i) f (renamed (ps ++ length g ∷ []) (word.Tuple i))
    arrives_block p =
        let c = renamed_cell ps (cell_at h i) in
        let at : IsWordOf f (word.Tuple (length g)) = (
          longer g f c added (length g) refl,
          subst IsBlock (sym (cell_is g f c added (length g) refl))
              (renamed_block ps (cell_at h i) p),
        ) in
        subst (λ (x : ℕ). Arrives h (word.Tuple i) f (word.Tuple x)) (sym here_place)
        (record { here = at; same = here_value })

    arrives : (w : Word) → IsBelow h (i + 1) w → IsMarked ms w → Arrives h w f (renamed (ps ++ length g ∷ []) w)
    arrives w b m = elim (found h i w b) [
      | before x ↦ arrives_before f (length g) w (keeps_pushed g f (renamed_cell ps (cell_at h i)) added) x m
      | pair_here e p ↦ subst (λ (v : Word). Arrives h v f (renamed (ps ++ length g ∷ []) v)) (sym e) (arrives_pair p)
      | block_here e p ↦ subst (λ (v : Word). Arrives h v f (renamed (ps ++ length g ∷ []) v)) (sym e) (arrives_block p)
    ]

    pub moves_step : Moves h (i + 1) ms (ps ++ length g ∷ []) f
    moves_step = record { words = λ w b m. (arrives w b m).here; values = λ w b m. (arrives w b m).same }

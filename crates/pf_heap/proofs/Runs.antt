-- Runs of words: their values, in a heap and in one that keeps its words.
use Rattle.std.proofs.Common.{◌≡◌, ℕ, List, [], ◌∷◌, ◌++◌, refl, sym, ap, ◌∙◌}
use Rattle.std.specs.List.{All}
use Rattle.std.proofs.lemmas.List.Elements.{All-head, All-tail, All-weaker}
use Rattle.pf_terms.specs.Value.{Value, Values, tuple, list, none, more}
use Rattle.pf_heap.specs.Heap.{Cell, pair, block, elements, value_over, values_over, cell_value, cell_values, cell_at}
use Rattle.pf_heap.specs.Heap.{word_value, word_values, IsPair, IsBlock, IsWordOf, IsList, IsInOrder, Keeps}
use Rattle.pf_heap.proofs.Cells.{value_at}
use Rattle.pf_heap.specs.declared.word.Word.{Word}
use Rattle.pf_heap.specs.declared.word.Word.TheVariants as word

-- ---- elements, and then these

abbrev pub joined : Values → Values → Values
joined none us = us
joined (more v vs) us = more v (joined vs us)

pub joined_none : (vs : Values) → joined vs none ≡ vs
joined_none none = refl
joined_none (more v vs) = ap (more v) (joined_none vs)

pub joined_push : (vs : List Value) (ws : List Word) (w : Word) (us : Values)
    → joined (values_over vs (ws ++ w ∷ [])) us ≡ joined (values_over vs ws) (more (value_over vs w) us)
joined_push vs [] w us = refl
joined_push vs (x ∷ ws) w us = ap (more (value_over vs x)) (joined_push vs ws w us)

-- ---- what keeps its words keeps runs of them

pub values_kept : (h g : List Cell) (ws : List Word) → Keeps h g → All (IsWordOf h) ws
    → word_values g ws ≡ word_values h ws
values_kept h g [] k a = refl
values_kept h g (w ∷ ws) k a =
    let first = k.values w (All-head (IsWordOf h) w ws a) in
    let rest = values_kept h g ws k (All-tail (IsWordOf h) w ws a) in
    cc

pub words_kept : (h g : List Cell) (ws : List Word) → Keeps h g → All (IsWordOf h) ws → All (IsWordOf g) ws
words_kept h g ws k a = All-weaker (IsWordOf h) (IsWordOf g) k.words ws a

-- ---- a word names what its kind says

pair_is_list : (vs : List Value) (c : Cell) → IsPair c → cell_value vs c ≡ list (elements (cell_value vs c))
pair_is_list vs (pair a t) p = refl
pair_is_list vs (block ws) p = absurd p

block_is_tuple : (vs : List Value) (c : Cell) → IsBlock c → cell_value vs c ≡ tuple (elements (cell_value vs c))
block_is_tuple vs (pair a t) p = absurd p
block_is_tuple vs (block ws) p = refl

pub cons_is_list : (h : List Cell) (i : ℕ) → IsInOrder h → IsWordOf h (word.Cons i)
    → word_value h (word.Cons i) ≡ list (elements (word_value h (word.Cons i)))
cons_is_list h i o b =
    let e = value_at h i o b.0 in
    e ∙ pair_is_list (cell_values h) (cell_at h i) b.1 ∙ ap (λ v. list (elements v)) (sym e)

pub tuple_is_tuple : (h : List Cell) (i : ℕ) → IsInOrder h → IsWordOf h (word.Tuple i)
    → word_value h (word.Tuple i) ≡ tuple (elements (word_value h (word.Tuple i)))
tuple_is_tuple h i o b =
    let e = value_at h i o b.0 in
    e ∙ block_is_tuple (cell_values h) (cell_at h i) b.1 ∙ ap (λ v. tuple (elements v)) (sym e)

pub list_is_list : (h : List Cell) (w : Word) → IsInOrder h → IsWordOf h w → IsList w
    → word_value h w ≡ list (elements (word_value h w))
list_is_list h word.Nil o b l = refl
list_is_list h (word.Cons i) o b l = cons_is_list h i o b
list_is_list h (word.Int n) o b l = absurd l
list_is_list h (word.Atom a) o b l = absurd l
list_is_list h (word.Ref r) o b l = absurd l
list_is_list h (word.Pid p) o b l = absurd l
list_is_list h (word.Tuple i) o b l = absurd l

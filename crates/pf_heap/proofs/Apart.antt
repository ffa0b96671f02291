-- Words of different kinds have different values.
use Rattle.std.proofs.Common.{◌≡◌, ℕ, ℤ, ◌+◌, ◌≤◌, Bool, true, false, List, [], ◌∷◌, refl, sym, ap, ◌∙◌, arith, subst}
use Rattle.pf_terms.specs.Value.{Value, Values, int, atom, ref, pid, tuple, list, none, more, nodes, same, same_all}
use Rattle.pf_heap.specs.Heap.{Cell, pair, block, elements, cell_value, cell_values, cell_at, word_value, IsPair}
use Rattle.pf_heap.specs.Heap.{IsWordOf, IsList, IsInOrder}
use Rattle.pf_heap.proofs.Cells.{value_at, nodes_elements}
use Rattle.pf_heap.proofs.Runs.{cons_is_list, tuple_is_tuple, list_is_list}
use Rattle.pf_heap.specs.declared.word.Word.{Word}
use Rattle.pf_heap.specs.declared.word.Word.TheVariants as word

pub nodes_positive : (v : Value) → 1 ≤ nodes v
nodes_positive v = omega (arith, nodes_elements v)

pub lists_same : (h : List Cell) (v w : Word) → IsInOrder h → IsWordOf h v → IsWordOf h w → IsList v → IsList w
    → same_all (elements (word_value h v)) (elements (word_value h w)) ≡ same (word_value h v) (word_value h w)
lists_same h v w o a b l m =
    let first = list_is_list h v o a l in
    let second = list_is_list h w o b m in
    sym (ap (λ (x : Value). same x (word_value h w)) first ∙ ap (same (list (elements (word_value h v)))) second)

-- a test that no kind but one passes fails at a word of another kind
first_is : (u v w : Value) → v ≡ u → false ≡ same u w → false ≡ same v w
first_is u v w e f = f ∙ ap (λ (x : Value). same x w) (sym e)

second_is : (u v w : Value) → w ≡ v → false ≡ same u v → false ≡ same u w
second_is u v w e f = f ∙ ap (same u) (sym e)

pair_has_more : (vs : List Value) (c : Cell) → IsPair c → false ≡ same (cell_value vs c) (list none)
pair_has_more vs (pair a t) p = refl
pair_has_more vs (block ws) p = absurd p

nil_has_none : (vs : List Value) (c : Cell) → IsPair c → false ≡ same (list none) (cell_value vs c)
nil_has_none vs (pair a t) p = refl
nil_has_none vs (block ws) p = absurd p

other_than_int : (h : List Cell) (x : ℤ) (w : Word) → IsInOrder h → IsWordOf h w → ((j : ℤ) → w ≡ word.Int j → ⊥)
    → false ≡ same (int x) (word_value h w)
other_than_int h x (word.Int n) o b not = absurd (not n refl)
other_than_int h x (word.Atom a) o b not = refl
other_than_int h x (word.Ref r) o b not = refl
other_than_int h x (word.Pid p) o b not = refl
other_than_int h x (word.Tuple i) o b not = second_is (int x) (tuple (elements (word_value h (word.Tuple i))))
    (word_value h (word.Tuple i)) (tuple_is_tuple h i o b) refl
other_than_int h x (word.Cons i) o b not = second_is (int x) (list (elements (word_value h (word.Cons i))))
    (word_value h (word.Cons i)) (cons_is_list h i o b) refl
other_than_int h x word.Nil o b not = refl

other_than_atom : (h : List Cell) (x : ℕ) (w : Word) → IsInOrder h → IsWordOf h w → ((j : ℕ) → w ≡ word.Atom j → ⊥)
    → false ≡ same (atom x) (word_value h w)
other_than_atom h x (word.Int n) o b not = refl
other_than_atom h x (word.Atom a) o b not = absurd (not a refl)
other_than_atom h x (word.Ref r) o b not = refl
other_than_atom h x (word.Pid p) o b not = refl
other_than_atom h x (word.Tuple i) o b not = second_is (atom x) (tuple (elements (word_value h (word.Tuple i))))
    (word_value h (word.Tuple i)) (tuple_is_tuple h i o b) refl
other_than_atom h x (word.Cons i) o b not = second_is (atom x) (list (elements (word_value h (word.Cons i))))
    (word_value h (word.Cons i)) (cons_is_list h i o b) refl
other_than_atom h x word.Nil o b not = refl

other_than_ref : (h : List Cell) (x : ℕ) (w : Word) → IsInOrder h → IsWordOf h w → ((j : ℕ) → w ≡ word.Ref j → ⊥)
    → false ≡ same (ref x) (word_value h w)
other_than_ref h x (word.Int n) o b not = refl
other_than_ref h x (word.Atom a) o b not = refl
other_than_ref h x (word.Ref r) o b not = absurd (not r refl)
other_than_ref h x (word.Pid p) o b not = refl
other_than_ref h x (word.Tuple i) o b not = second_is (ref x) (tuple (elements (word_value h (word.Tuple i))))
    (word_value h (word.Tuple i)) (tuple_is_tuple h i o b) refl
other_than_ref h x (word.Cons i) o b not = second_is (ref x) (list (elements (word_value h (word.Cons i))))
    (word_value h (word.Cons i)) (cons_is_list h i o b) refl
other_than_ref h x word.Nil o b not = refl

other_than_pid : (h : List Cell) (x : ℕ) (w : Word) → IsInOrder h → IsWordOf h w → ((j : ℕ) → w ≡ word.Pid j → ⊥)
    → false ≡ same (pid x) (word_value h w)
other_than_pid h x (word.Int n) o b not = refl
other_than_pid h x (word.Atom a) o b not = refl
other_than_pid h x (word.Ref r) o b not = refl
other_than_pid h x (word.Pid p) o b not = absurd (not p refl)
other_than_pid h x (word.Tuple i) o b not = second_is (pid x) (tuple (elements (word_value h (word.Tuple i))))
    (word_value h (word.Tuple i)) (tuple_is_tuple h i o b) refl
other_than_pid h x (word.Cons i) o b not = second_is (pid x) (list (elements (word_value h (word.Cons i))))
    (word_value h (word.Cons i)) (cons_is_list h i o b) refl
other_than_pid h x word.Nil o b not = refl

other_than_tuple : (h : List Cell) (x : Values) (w : Word) → IsInOrder h → IsWordOf h w
    → ((j : ℕ) → w ≡ word.Tuple j → ⊥) → false ≡ same (tuple x) (word_value h w)
other_than_tuple h x (word.Int n) o b not = refl
other_than_tuple h x (word.Atom a) o b not = refl
other_than_tuple h x (word.Ref r) o b not = refl
other_than_tuple h x (word.Pid p) o b not = refl
other_than_tuple h x (word.Tuple i) o b not = absurd (not i refl)
other_than_tuple h x (word.Cons i) o b not = second_is (tuple x) (list (elements (word_value h (word.Cons i))))
    (word_value h (word.Cons i)) (cons_is_list h i o b) refl
other_than_tuple h x word.Nil o b not = refl

pub int_apart : (h : List Cell) (v w : Word) (x : ℤ) → v ≡ word.Int x → IsInOrder h → IsWordOf h v → IsWordOf h w
    → ((j : ℤ) → w ≡ word.Int j → ⊥) → false ≡ same (word_value h v) (word_value h w)
int_apart h v w x e o a b not = first_is (int x) (word_value h v) (word_value h w) (ap (word_value h) e)
    (other_than_int h x w o b not)

pub atom_apart : (h : List Cell) (v w : Word) (x : ℕ) → v ≡ word.Atom x → IsInOrder h → IsWordOf h v → IsWordOf h w
    → ((j : ℕ) → w ≡ word.Atom j → ⊥) → false ≡ same (word_value h v) (word_value h w)
atom_apart h v w x e o a b not = first_is (atom x) (word_value h v) (word_value h w) (ap (word_value h) e)
    (other_than_atom h x w o b not)

pub ref_apart : (h : List Cell) (v w : Word) (x : ℕ) → v ≡ word.Ref x → IsInOrder h → IsWordOf h v → IsWordOf h w
    → ((j : ℕ) → w ≡ word.Ref j → ⊥) → false ≡ same (word_value h v) (word_value h w)
ref_apart h v w x e o a b not = first_is (ref x) (word_value h v) (word_value h w) (ap (word_value h) e)
    (other_than_ref h x w o b not)

pub pid_apart : (h : List Cell) (v w : Word) (x : ℕ) → v ≡ word.Pid x → IsInOrder h → IsWordOf h v → IsWordOf h w
    → ((j : ℕ) → w ≡ word.Pid j → ⊥) → false ≡ same (word_value h v) (word_value h w)
pid_apart h v w x e o a b not = first_is (pid x) (word_value h v) (word_value h w) (ap (word_value h) e)
    (other_than_pid h x w o b not)

pub tuple_apart : (h : List Cell) (v w : Word) (x : ℕ) → v ≡ word.Tuple x → IsInOrder h → IsWordOf h v → IsWordOf h w
    → ((j : ℕ) → w ≡ word.Tuple j → ⊥) → false ≡ same (word_value h v) (word_value h w)
tuple_apart h v w x e o a b not =
    let vs = elements (word_value h (word.Tuple x)) in
    first_is (tuple vs) (word_value h v) (word_value h w)
    (ap (word_value h) e ∙ tuple_is_tuple h x o (subst (IsWordOf h) e a)) (other_than_tuple h vs w o b not)

nil_first : (h : List Cell) (w : Word) → IsInOrder h → IsWordOf h w → (w ≡ word.Nil → ⊥)
    → false ≡ same (list none) (word_value h w)
nil_first h (word.Int n) o b not = refl
nil_first h (word.Atom a) o b not = refl
nil_first h (word.Ref r) o b not = refl
nil_first h (word.Pid p) o b not = refl
nil_first h (word.Tuple i) o b not = second_is (list none) (tuple (elements (word_value h (word.Tuple i))))
    (word_value h (word.Tuple i)) (tuple_is_tuple h i o b) refl
nil_first h (word.Cons i) o b not = second_is (list none) (cell_value (cell_values h) (cell_at h i))
    (word_value h (word.Cons i)) (value_at h i o b.0) (nil_has_none (cell_values h) (cell_at h i) b.1)
nil_first h word.Nil o b not = absurd (not refl)

pub nil_apart : (h : List Cell) (v w : Word) → v ≡ word.Nil → IsInOrder h → IsWordOf h v → IsWordOf h w
    → (w ≡ word.Nil → ⊥) → false ≡ same (word_value h v) (word_value h w)
nil_apart h v w e o a b not = first_is (list none) (word_value h v) (word_value h w) (ap (word_value h) e)
    (nil_first h w o b not)

cons_first : (h : List Cell) (i : ℕ) (w : Word) → IsInOrder h → IsWordOf h (word.Cons i) → IsWordOf h w
    → ((j : ℕ) → w ≡ word.Cons j → ⊥) → false ≡ same (word_value h (word.Cons i)) (word_value h w)
cons_first h i word.Nil o a b not = first_is (cell_value (cell_values h) (cell_at h i)) (word_value h (word.Cons i))
    (list none) (value_at h i o a.0) (pair_has_more (cell_values h) (cell_at h i) a.1)
cons_first h i (word.Cons j) o a b not = absurd (not j refl)
cons_first h i (word.Int n) o a b not = first_is (list (elements (word_value h (word.Cons i))))
    (word_value h (word.Cons i)) (int n) (cons_is_list h i o a) refl
cons_first h i (word.Atom n) o a b not = first_is (list (elements (word_value h (word.Cons i))))
    (word_value h (word.Cons i)) (atom n) (cons_is_list h i o a) refl
cons_first h i (word.Ref n) o a b not = first_is (list (elements (word_value h (word.Cons i))))
    (word_value h (word.Cons i)) (ref n) (cons_is_list h i o a) refl
cons_first h i (word.Pid n) o a b not = first_is (list (elements (word_value h (word.Cons i))))
    (word_value h (word.Cons i)) (pid n) (cons_is_list h i o a) refl
cons_first h i (word.Tuple j) o a b not =
    first_is (list (elements (word_value h (word.Cons i)))) (word_value h (word.Cons i)) (word_value h (word.Tuple j))
    (cons_is_list h i o a)
    (second_is (list (elements (word_value h (word.Cons i)))) (tuple (elements (word_value h (word.Tuple j))))
    (word_value h (word.Tuple j)) (tuple_is_tuple h j o b) refl)

pub cons_apart : (h : List Cell) (v w : Word) (x : ℕ) → v ≡ word.Cons x → IsInOrder h → IsWordOf h v → IsWordOf h w
    → ((j : ℕ) → w ≡ word.Cons j → ⊥) → false ≡ same (word_value h v) (word_value h w)
cons_apart h v w x e o a b not = first_is (word_value h (word.Cons x)) (word_value h v) (word_value h w)
    (ap (word_value h) e) (cons_first h x w o (subst (IsWordOf h) e a) b not)

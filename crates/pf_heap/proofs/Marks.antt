-- Marks: what is marked stays marked, and a pass down closes them.
use Rattle.std.proofs.Common.{◌≡◌, ◌≢◌, ℕ, ◌+◌, ◌<◌, ◌≤◌, Bool, true, false, List, [], ◌∷◌, ◌++◌, length, get_or, set}
use Rattle.std.proofs.Common.{refl, sym, ap, ◌∙◌, arith, subst, inl, inr}
use Rattle.std.specs.Prelude.{fold}
use Rattle.std.specs.List.{All}
use Rattle.std.proofs.lemmas.Bool.{cases_lt, cases_eq, false≢true}
use Rattle.std.proofs.lemmas.List.{length-set, get_or-set_same, get_or-set_other}
use Rattle.std.proofs.lemmas.List.Elements.{All-nil, All-cons, All-head, All-tail, All-weaker}
use Rattle.pf_heap.specs.Heap.{Cell, pair, block, cell_at, IsBelow, ArePartsBelow}
use Rattle.pf_heap.specs.Marks.{reach, with_mark, with_marks, IsMarked, ArePartsMarked, IsClosedFrom, IsMarkedMore}
use Rattle.pf_heap.specs.declared.word.Word.{Word}
use Rattle.pf_heap.specs.declared.word.Word.TheVariants as word

pub below_reach : (h : List Cell) (k : ℕ) (w : Word) → IsBelow h k w → reach w ≤ k
below_reach h k (word.Tuple i) b = omega (arith, b.0)
below_reach h k (word.Cons i) b = omega (arith, b.0)
below_reach h k (word.Int n) b = omega arith
below_reach h k (word.Atom a) b = omega arith
below_reach h k (word.Ref r) b = omega arith
below_reach h k (word.Pid p) b = omega arith
below_reach h k word.Nil b = omega arith

pub all_below_reach : (h : List Cell) (k : ℕ) (ws : List Word) → All (IsBelow h k) ws → All (λ w. reach w ≤ k) ws
all_below_reach h k ws b = All-weaker (IsBelow h k) (λ w. reach w ≤ k) (λ w x. below_reach h k w x) ws b

-- ---- a mark that is set

set_here : (ms : List Bool) (i : ℕ) → i + 1 ≤ length ms → get_or (set ms i true) i false ≡ true
set_here ms i lt = get_or-set_same ms i true false (omega arith)

set_still : (ms : List Bool) (i k : ℕ) → i + 1 ≤ length ms → get_or ms k false ≡ true
    → get_or (set ms i true) k false ≡ true
set_still ms i k lt m =
    elim (cases_eq k i) [
      | inl e ↦ ap (λ (x : ℕ). get_or (set ms i true) x false) e ∙ set_here ms i lt
      | inr ne ↦ get_or-set_other ms i k true false ne ∙ m
    ]

pub mark_count : (ms : List Bool) (w : Word) → length (with_mark ms w) ≡ length ms
mark_count ms (word.Tuple i) = length-set ms i true
mark_count ms (word.Cons i) = length-set ms i true
mark_count ms (word.Int n) = refl
mark_count ms (word.Atom a) = refl
mark_count ms (word.Ref r) = refl
mark_count ms (word.Pid p) = refl
mark_count ms word.Nil = refl

pub mark_here : (ms : List Bool) (w : Word) → reach w ≤ length ms → IsMarked (with_mark ms w) w
mark_here ms (word.Tuple i) r = set_here ms i r
mark_here ms (word.Cons i) r = set_here ms i r
mark_here ms (word.Int n) r = tt
mark_here ms (word.Atom a) r = tt
mark_here ms (word.Ref x) r = tt
mark_here ms (word.Pid p) r = tt
mark_here ms word.Nil r = tt

mark_keeps : (ms : List Bool) (w : Word) → reach w ≤ length ms → (k : ℕ) → get_or ms k false ≡ true
    → get_or (with_mark ms w) k false ≡ true
mark_keeps ms (word.Tuple i) r k m = set_still ms i k r m
mark_keeps ms (word.Cons i) r k m = set_still ms i k r m
mark_keeps ms (word.Int n) r k m = m
mark_keeps ms (word.Atom a) r k m = m
mark_keeps ms (word.Ref x) r k m = m
mark_keeps ms (word.Pid p) r k m = m
mark_keeps ms word.Nil r k m = m

pub mark_more : (ms : List Bool) (w : Word) → reach w ≤ length ms → IsMarkedMore ms (with_mark ms w)
mark_more ms w r = record { count = mark_count ms w; marks = mark_keeps ms w r }

pub mark_above : (ms : List Bool) (w : Word) (k : ℕ) → reach w ≤ k → get_or (with_mark ms w) k false ≡ get_or ms k false
mark_above ms (word.Tuple i) k r = let ne : k ≢ i = omega arith in get_or-set_other ms i k true false ne
mark_above ms (word.Cons i) k r = let ne : k ≢ i = omega arith in get_or-set_other ms i k true false ne
mark_above ms (word.Int n) k r = refl
mark_above ms (word.Atom a) k r = refl
mark_above ms (word.Ref x) k r = refl
mark_above ms (word.Pid p) k r = refl
mark_above ms word.Nil k r = refl

pub unchanged : (ms : List Bool) → IsMarkedMore ms ms
unchanged ms = record { count = refl; marks = λ k m. m }

pub more_on : (ms ns os : List Bool) → IsMarkedMore ms ns → IsMarkedMore ns os → IsMarkedMore ms os
more_on ms ns os a b = record { count = b.count ∙ a.count; marks = λ k m. b.marks k (a.marks k m) }

pub still_marked : (ms ns : List Bool) (w : Word) → IsMarkedMore ms ns → IsMarked ms w → IsMarked ns w
still_marked ms ns (word.Tuple i) a m = a.marks i m
still_marked ms ns (word.Cons i) a m = a.marks i m
still_marked ms ns (word.Int n) a m = tt
still_marked ms ns (word.Atom x) a m = tt
still_marked ms ns (word.Ref x) a m = tt
still_marked ms ns (word.Pid p) a m = tt
still_marked ms ns word.Nil a m = tt

pub all_still_marked : (ms ns : List Bool) (ws : List Word) → IsMarkedMore ms ns → All (IsMarked ms) ws
    → All (IsMarked ns) ws
all_still_marked ms ns ws a m = All-weaker (IsMarked ms) (IsMarked ns) (λ w x. still_marked ms ns w a x) ws m

pub parts_still_marked : (ms ns : List Bool) (c : Cell) → IsMarkedMore ms ns → ArePartsMarked ms c → ArePartsMarked ns c
parts_still_marked ms ns (pair x t) a m = (still_marked ms ns x a m.0, still_marked ms ns t a m.1)
parts_still_marked ms ns (block ws) a m = all_still_marked ms ns ws a m

-- ---- several marks

pub marks_more : (ms : List Bool) (ws : List Word) → All (λ w. reach w ≤ length ms) ws
    → IsMarkedMore ms (with_marks ms ws)
marks_more ms [] r = unchanged ms
marks_more ms (w ∷ ws) r =
    let n = length ms in
    let here = All-head (λ (x : Word). reach x ≤ n) w ws r in
    let rest = All-tail (λ (x : Word). reach x ≤ n) w ws r in
    let ns = with_mark ms w in
    let there = subst (λ (m : ℕ). All (λ (x : Word). reach x ≤ m) ws) (sym (mark_count ms w)) rest in
    more_on ms ns (with_marks ns ws) (mark_more ms w here) (marks_more ns ws there)

pub marks_here : (ms : List Bool) (ws : List Word) → All (λ w. reach w ≤ length ms) ws
    → All (IsMarked (with_marks ms ws)) ws
marks_here ms [] r = All-nil (IsMarked ms)
marks_here ms (w ∷ ws) r =
    let n = length ms in
    let here = All-head (λ (x : Word). reach x ≤ n) w ws r in
    let rest = All-tail (λ (x : Word). reach x ≤ n) w ws r in
    let ns = with_mark ms w in
    let there = subst (λ (m : ℕ). All (λ (x : Word). reach x ≤ m) ws) (sym (mark_count ms w)) rest in
    All-cons (IsMarked (with_marks ns ws)) w ws (still_marked ns (with_marks ns ws) w (marks_more ns ws there)
    (mark_here ms w here)) (marks_here ns ws there)

pub marks_above : (ms : List Bool) (ws : List Word) (n k : ℕ) → n ≤ k → All (λ w. reach w ≤ n) ws
    → get_or (with_marks ms ws) k false ≡ get_or ms k false
marks_above ms [] n k le r = refl
marks_above ms (w ∷ ws) n k le r =
    let here = All-head (λ (x : Word). reach x ≤ n) w ws r in
    marks_above (with_mark ms w) ws n k le (All-tail (λ (x : Word). reach x ≤ n) w ws r)
    ∙ mark_above ms w k (omega arith)

-- ---- the pass down

pub at_end : (h : List Cell) (n : ℕ) (ms : List Bool) → n ≡ length h → IsClosedFrom h n ms
at_end h n ms e k le lt m = absurd (omega arith)

pub skipped : (h : List Cell) (n : ℕ) (ms : List Bool) → IsClosedFrom h (n + 1) ms → get_or ms n false ≡ false
    → IsClosedFrom h n ms
skipped h n ms c f k le lt m =
    elim (cases_lt n k) [
      | inl above ↦ c k (omega arith) lt m
      | inr here ↦ let e : k ≡ n = omega arith in
          absurd (false≢true (sym f ∙ ap (λ (x : ℕ). get_or ms x false) (sym e) ∙ m))
    ]

pub passed : (h : List Cell) (n : ℕ) (ms ns : List Bool) → IsClosedFrom h (n + 1) ms → IsMarkedMore ms ns
    → ((k : ℕ) → n ≤ k → get_or ns k false ≡ get_or ms k false) → ArePartsMarked ns (cell_at h n) → IsClosedFrom h n ns
passed h n ms ns c a same parts k le lt m =
    elim (cases_lt n k) [
      | inl above ↦ parts_still_marked ms ns (cell_at h k) a (c k (omega arith) lt (sym (same k le) ∙ m))
      | inr here ↦ let e : n ≡ k = omega arith in subst (λ (x : ℕ). ArePartsMarked ns (cell_at h x)) e parts
    ]

-- ---- the parts of one cell

abbrev pub words_of : Cell → List Word
words_of (pair a t) = a ∷ t ∷ []
words_of (block ws) = ws

reached : (h : List Cell) (n : ℕ) (c : Cell) → ArePartsBelow h n c → All (λ w. reach w ≤ n) (words_of c)
reached h n (pair a t) b =
    All-cons (λ w. reach w ≤ n) a (t ∷ []) (below_reach h n a b.0)
    (All-cons (λ w. reach w ≤ n) t [] (below_reach h n t b.1) (All-nil (λ w. reach w ≤ n)))
reached h n (block ws) b = all_below_reach h n ws b

marked_parts : (ms : List Bool) (c : Cell) → All (IsMarked ms) (words_of c) → ArePartsMarked ms c
marked_parts ms (pair a t) m =
    (All-head (IsMarked ms) a (t ∷ []) m, All-head (IsMarked ms) t [] (All-tail (IsMarked ms) a (t ∷ []) m))
marked_parts ms (block ws) m = m

-- what was marked still is, the parts of the cell of an index are, and nothing from that index on is that wasn't
pub record HasPartsMarked (h : List Cell) (i : ℕ) (ms ns : List Bool) : Type 0 where
  pub more : IsMarkedMore ms ns
  pub parts : ArePartsMarked ns (cell_at h i)
  pub above : (k : ℕ) → i ≤ k → get_or ns k false ≡ get_or ms k false

pub cell_marked : (h : List Cell) (ms ns : List Bool) (n : ℕ) (c : Cell) → cell_at h n ≡ c → ArePartsBelow h n c
    → n ≤ length ms → ns ≡ with_marks ms (words_of c) → HasPartsMarked h n ms ns
cell_marked h ms ns n c at below le is =
    let near = reached h n c below in
    let within = All-weaker (λ w. reach w ≤ n) (λ w. reach w ≤ length ms) (λ w r. omega arith) (words_of c) near in
    let os = with_marks ms (words_of c) in
    let made : HasPartsMarked h n ms os = record {
      parts = subst (ArePartsMarked os) (sym at) (marked_parts os c (marks_here ms (words_of c) within));
      more = marks_more ms (words_of c) within;
      above = λ k x. marks_above ms (words_of c) n k x near;
    } in
    subst (HasPartsMarked h n ms) (sym is) made

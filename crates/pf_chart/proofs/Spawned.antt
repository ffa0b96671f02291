-- The processes of a run, event by event.
use Rattle.std.proofs.Common.{◌≡◌, ◌≢◌, ◌+◌, ◌<◌, ◌≤◌, inl, inr, ℕ, suc, List, [], ◌∷◌, ◌++◌, Option, Some, None}
use Rattle.std.proofs.Common.{Result, Ok, Err, length, take, get_or, map, refl, sym, ap, ◌∙◌, append_assoc, append-nil}
use Rattle.std.proofs.Common.{arith}
use Rattle.std.specs.Prelude.{All, IfSome, option_map, option_to_list}
use Rattle.std.specs.List.{HoldsAt}
use Rattle.std.specs.List.Sorted.{IsBinarySearchResult, IsNonDecreasingBy, IsSearchInRange}
use Rattle.std.specs.declared.cmp.Ordering.TheVariants.{Less, Equal, Greater}
use Rattle.std.specs.Ordering.{nat_cmp, ordering_index}
use Rattle.std.specs.Cmp.{nat_cmp_is}
use Rattle.std.specs.Result.{result_ok}
use Rattle.std.proofs.lemmas.Map.Lookups.{exact_unsigned}
use Rattle.std.proofs.lemmas.Bool.{cases_lt}
use Rattle.std.proofs.lemmas.List.{get_or-map, length-map, length-take-le, map-append, map_more}
use Rattle.std.proofs.lemmas.Option.{same_Some}
use Rattle.pf_model.specs.Meaning.{Event}
use Rattle.pf_chart.specs.Processes.{Process, child_in, processes_of, spawned_by, spawned_from}
use Rattle.pf_chart.specs.Origins.{AreAlike, SameProcesses, process_of}
use Rattle.pf_chart.specs.declared.columns.Column.{Column}

-- ---- one event more

abbrev child_of : (n : ℕ) → Event → List Process
child_of n e = option_to_list (spawned_by e.actor (child_in e.label) n)

spawned_more : (n : ℕ) (es : List Event) (e : Event)
    → spawned_from n (es ++ e ∷ []) ≡ spawned_from n es ++ child_of (n + length es) e
spawned_more n [] e =
    let here : n ≡ n + length {A = Event} [] = omega arith in
    append-nil (child_of n e) ∙ ap (λ (k : ℕ). child_of k e) here
spawned_more n (x ∷ es) e =
    let there : suc n + length es ≡ n + length (x ∷ es) = omega arith in
    ap (λ (ps : List Process). child_of n x ++ ps)
    (spawned_more (suc n) es e ∙ ap (λ (k : ℕ). spawned_from (suc n) es ++ child_of k e) there)
    ∙ sym (append_assoc (child_of n x) (spawned_from (suc n) es) (child_of (n + length (x ∷ es)) e))

processes_more : (es : List Event) (e : Event) (n : ℕ) → length es ≡ n
    → processes_of (es ++ e ∷ []) ≡ processes_of es ++ child_of n e
processes_more es e n size =
    let number : 0 + length es ≡ n = omega (arith, size) in
    ap (λ (ps : List Process). record { pid = 0; spawned = None } ∷ ps)
    (spawned_more 0 es e ∙ ap (λ (k : ℕ). spawned_from 0 es ++ child_of k e) number)

of_option : (o : Option Column) → map process_of (option_to_list o) ≡ option_to_list (option_map process_of o)
of_option None = refl
of_option (Some x) = refl

pub spawned_next : {X : Type 0} (g : X → Event) (cs ds : List Column) (o : Option Column) (es : List X) (i : ℕ) (d : X)
    → i < length es
    → map process_of cs ≡ processes_of (map g (take i es)) → ds ≡ cs ++ option_to_list o
    → option_map process_of o ≡ spawned_by (g (get_or es i d)).actor (child_in (g (get_or es i d)).label) i
    → map process_of ds ≡ processes_of (map g (take (i + 1) es))
spawned_next g cs ds o es i d below so put is =
    let front = map g (take i es) in
    let within : i ≤ length es = omega arith in
    let size : length front ≡ i = length-map (take i es) g ∙ length-take-le i es within in
    let more : map g (take (i + 1) es) ≡ front ++ g (get_or es i d) ∷ [] = map_more g es i d below in
    ap (map process_of) put ∙ map-append process_of cs (option_to_list o)
    ∙ ap (λ (ps : List Process). ps ++ map process_of (option_to_list o)) so
    ∙ ap (λ (ps : List Process). processes_of front ++ ps)
    (of_option o ∙ ap (λ (p : Option Process). option_to_list p) is)
    ∙ sym (processes_more front (g (get_or es i d)) i size)
    ∙ ap processes_of (sym more)

-- ---- columns by their pids

pub found_pid : (xs : List Column) (p : ℕ) (r : Result ℕ ℕ) → IsSearchInRange r (length xs)
    → IsBinarySearchResult (λ (c : Column). nat_cmp c.pid p) xs r
    → IfSome (result_ok r) (λ i. (i < length xs) × HoldsAt (λ (c : Column). c.pid ≡ p) xs i)
found_pid xs p (Ok i) within at = (within, λ d. exact_unsigned _ _ (at d))
found_pid xs p (Err i) within at = tt

is_less : (m n : ℕ) → m < n → nat_cmp m n ≡ Less
is_less m n h = sym (nat_cmp_is m n Less h)

is_greater : (m n : ℕ) → n < m → nat_cmp m n ≡ Greater
is_greater m n h = sym (nat_cmp_is m n Greater h)

is_equal : (m n : ℕ) → m ≡ n → nat_cmp m n ≡ Equal
is_equal m n h = sym (nat_cmp_is m n Equal h)

index_rises : (m n p : ℕ) → m ≤ n → ordering_index (nat_cmp m p) ≤ ordering_index (nat_cmp n p)
index_rises m n p le = elim (cases_lt m p) [
  | inl a ↦ rw (is_less m p a) (omega arith)
  | inr b ↦ elim (cases_lt p m) [
    | inl g ↦ (let h : p < n = omega (arith, le, g) in rw (is_greater m p g, is_greater n p h) (omega arith))
    | inr l ↦ elim (cases_lt p n) [
      | inl g ↦ (let e : m ≡ p = omega (arith, b, l) in rw (is_equal m p e, is_greater n p g) (omega arith))
      | inr k ↦ (let e : m ≡ p = omega (arith, b, l) in let f : n ≡ p = omega (arith, le, e, k) in
          rw (is_equal m p e, is_equal n p f) (omega arith))
    ]
  ]
]

pub lacks_pid : (xs : List Column) (p : ℕ) (r : Result ℕ ℕ)
    → IsBinarySearchResult (λ (c : Column). nat_cmp c.pid p) xs r → result_ok r ≡ None
    → IsNonDecreasingBy (λ (c : Column). c.pid) xs → All (λ (c : Column). c.pid ≢ p) xs
lacks_pid xs p (Ok i) at none sorted = absurd (cc)
lacks_pid xs p (Err i) at none sorted = λ k d low is.
    let parted = at (λ a b f le below. index_rises (get_or xs a f).pid (get_or xs b f).pid p (sorted a b f le below)) in
    let equal = is_equal (get_or xs k d).pid p is in
    elim (cases_lt k i) [
      | inl h ↦ (let less = parted.0 k d (omega arith) h in absurd (cc))
      | inr h ↦ (let greater = parted.1 k d h low in absurd (cc))
    ]

pub reported_by_pid : (xs : List Column) → IsNonDecreasingBy (λ (c : Column). c.pid) xs
    → IsNonDecreasingBy (λ (p : Process). p.pid) (map process_of xs)
reported_by_pid [] sorted i j d le low = absurd (omega arith)
reported_by_pid (x ∷ xs) sorted i j d le low =
    let below : j < length (x ∷ xs) = omega (arith, low, length-map (x ∷ xs) process_of) in
    let above : i < length (x ∷ xs) = omega (arith, le, below) in
    let rises = sorted i j x le below in
    let one = ap (λ (p : Process). p.pid) (get_or-map process_of (x ∷ xs) i x d above) in
    let other = ap (λ (p : Process). p.pid) (get_or-map process_of (x ∷ xs) j x d below) in
    omega (arith, rises, one, other)

pub columns_by_pid : (xs : List Column) → IsNonDecreasingBy (λ (p : Process). p.pid) (map process_of xs)
    → IsNonDecreasingBy (λ (c : Column). c.pid) xs
columns_by_pid xs sorted i j d le low =
    let rises = sorted i j (process_of d) le (omega (arith, low, length-map xs process_of)) in
    let one = ap (λ (p : Process). p.pid) (get_or-map process_of xs i d (process_of d) (omega (arith, le, low))) in
    let other = ap (λ (p : Process). p.pid) (get_or-map process_of xs j d (process_of d) low) in
    omega (arith, rises, one, other)

-- ---- columns that are changed

alike : (x y : Column) → y.pid ≡ x.pid → y.spawned ≡ x.spawned → process_of y ≡ process_of x
alike x y pid spawned = rw (pid, spawned) refl

rest_alike : (x y : Column) (xs ys : List Column) → AreAlike (x ∷ xs) (y ∷ ys) → AreAlike xs ys
rest_alike x y xs ys h =
    let count : length ys ≡ length xs = omega (arith, h.count) in
    record { count = count; each = λ i z. h.each (suc i) z }

pub same_processes : (xs ys : List Column) → AreAlike xs ys → SameProcesses xs ys
same_processes [] [] h = refl
same_processes [] (y ∷ ys) h = absurd (omega (arith, h.count))
same_processes (x ∷ xs) [] h = absurd (omega (arith, h.count))
same_processes (x ∷ xs) (y ∷ ys) h =
    let first = h.each 0 y refl in
    let is : x ≡ first.0 = same_Some x first.0 first.1 in
    let head : process_of y ≡ process_of x = alike x y (first.2 ∙ ap (λ (z : Column). z.pid) (sym is))
    (first.3 ∙ ap (λ (z : Column). z.spawned) (sym is)) in
    let tail : map process_of ys ≡ map process_of xs = same_processes xs ys (rest_alike x y xs ys h) in
    ap (λ (p : Process). p ∷ map process_of ys) head ∙ ap (λ (ps : List Process). process_of x ∷ ps) tail

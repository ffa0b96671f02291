-- The counts of the held trials that use each module, where what is held changes.
use Rattle.std.proofs.Common.{◌≡◌, ◌<◌, ◌≤◌, ℕ, zero, suc, ◌+◌, ◌-◌, ◌==◌, true, false, cond, List, [], ◌∷◌, ◌++◌}
use Rattle.std.proofs.Common.{length, Option, Some, None, refl, sym, ap, ◌∙◌, subst, arith}
use Rattle.std.specs.Prelude.{slice_get, slice_index, slice_set, IfSome, IsSome, All, sum_by, count_by, is_some}
use Rattle.std.specs.Option.{option_flatten}
use Rattle.std.proofs.lemmas.Bool.Decides.{nat_tests}
use Rattle.std.proofs.lemmas.List.{length-set}
use Rattle.std.proofs.lemmas.List.Elements.{All-cons, All-head, All-tail, All-push, All-weaker}
use Rattle.std.proofs.lemmas.List.Sums.{sum_by-append, sum_by-cons, sum_by_push, count_by-le-length}
use Rattle.std.proofs.lemmas.Option.{slice_get_within, slice_get-get_or}
use Rattle.pf_check.specs.Module.{ReadModule}
use Rattle.pf_desks.specs.Desk.{Trial, held_at, with_held, all_held}
use Rattle.pf_book.specs.Users.{CountUsers}
use Rattle.pf_desks.proofs.Held.{held_push, Around, around, gap}

-- ---- counts by index

-- at each index is what a function says of that index
abbrev AreAll : List ℕ → (ℕ → ℕ) → Type 0
AreAll us U = (i : ℕ) → IfSome (slice_get us i) (λ k. k ≡ U i)

push_at : (us : List ℕ) (U : ℕ → ℕ) (v : ℕ) → AreAll us U → v ≡ U (length us) → AreAll (us ++ v ∷ []) U
push_at [] U v h e zero = e
push_at [] U v h e (suc i) = tt
push_at (u ∷ us) U v h e zero = h zero
push_at (u ∷ us) U v h e (suc i) = push_at us (λ j. U (suc j)) v (λ j. h (suc j)) e i

same_at : (o : Option ℕ) (a b : ℕ) → a ≡ b → IfSome o (λ k. k ≡ a) → IfSome o (λ k. k ≡ b)
same_at o a b e h = subst (λ x. IfSome o (λ k. k ≡ x)) e h

set_at : (us : List ℕ) (U V : ℕ → ℕ) (j v : ℕ) → AreAll us U → ((i : ℕ) → (i ≡ j → ⊥) → V i ≡ U i) → v ≡ V j
    → AreAll (slice_set us j v) V
set_at [] U V j v h same e i = tt
set_at (u ∷ us) U V zero v h same e zero = e
set_at (u ∷ us) U V zero v h same e (suc i) = same_at (slice_get us i) (U (suc i)) (V (suc i))
    (sym (same (suc i) (λ k. omega arith))) (h (suc i))
set_at (u ∷ us) U V (suc j) v h same e zero =
    same_at (Some u) (U zero) (V zero) (sym (same zero (λ k. omega arith))) (h zero)
set_at (u ∷ us) U V (suc j) v h same e (suc i) =
    set_at us (λ k. U (suc k)) (λ k. V (suc k)) j v (λ k. h (suc k)) (λ k ne. same (suc k) (λ x. ne (omega arith))) e i

value_at : (us : List ℕ) (U : ℕ → ℕ) (j : ℕ) → AreAll us U → j < length us → slice_index us j ≡ U j
value_at us U j h within = subst (λ (o : Option ℕ). IfSome o (λ k. k ≡ U j)) (slice_get-get_or us j 0 within) (h j)

-- ---- uses of a module

abbrev uses : ℕ → Trial → ℕ
uses n t = cond (t.module_number == n) 1 0

all_around : (P : Trial → Type 0) (before after : List Trial) (x : Trial) → All P (before ++ x ∷ after)
    → P x × All P (before ++ after)
all_around P [] after x h = (All-head P x after h, All-tail P x after h)
all_around P (y ∷ before) after x h =
    let rest : P x × All P (before ++ after) = all_around P before after x (All-tail P y (before ++ x ∷ after) h) in
    (rest.0, All-cons P y (before ++ after) (All-head P y (before ++ x ∷ after) h) rest.1)

all_with : (P : Trial → Type 0) (before after : List Trial) (x : Trial) → P x → All P (before ++ after)
    → All P (before ++ x ∷ after)
all_with P [] after x p h = All-cons P x after p h
all_with P (y ∷ before) after x p h =
    All-cons P y (before ++ x ∷ after) (All-head P y (before ++ after) h)
    (all_with P before after x p (All-tail P y (before ++ after) h))

pub sum_around : {X : Type 0} (f : X → ℕ) (before after : List X) (x : X)
    → sum_by f (before ++ x ∷ after) ≡ sum_by f (before ++ after) + f x
sum_around f before after x =
    omega (arith, sum_by-append f before (x ∷ after), sum_by-cons f x after, sum_by-append f before after)

-- ---- numbers that are held

held_within : {T : Type 0} (xs : List (Option T)) (n : ℕ) → IsSome (held_at xs n) → (1 ≤ n) × (n ≤ length xs)
held_within {T} xs zero h = absurd (cc)
held_within {T} xs (suc i) h = by (slice_get xs i) refl
  where
    by : (o : Option (Option T)) → slice_get xs i ≡ o → (1 ≤ suc i) × (suc i ≤ length xs)
    by None e = let no : false ≡ true = sym (ap (λ (o : Option (Option T)). is_some (option_flatten o)) e)
        ∙ h in absurd (cc)
    by (Some o) e = let w : i < length xs = slice_get_within xs i o e in (omega arith, omega arith)

get_push : {T : Type 0} (xs : List T) (y : T) (i : ℕ) → i < length xs → slice_get (xs ++ y ∷ []) i ≡ slice_get xs i
get_push [] y i h = absurd (omega arith)
get_push (x ∷ xs) y zero h = refl
get_push (x ∷ xs) y (suc i) h = get_push xs y i (omega arith)

held_before : {T : Type 0} (xs : List (Option T)) (y : Option T) (n : ℕ) → IsSome (held_at xs n)
    → IsSome (held_at (xs ++ y ∷ []) n)
held_before {T} xs y zero h = h
held_before {T} xs y (suc i) h =
    let w : (1 ≤ suc i) × (suc i ≤ length xs) = held_within xs (suc i) h in
    subst (λ (o : Option (Option T)). IsSome (option_flatten o)) (sym (get_push xs y i (omega (arith, w.1)))) h

get_other : {T : Type 0} (xs : List T) (i j : ℕ) (y : T) → (j ≡ i → ⊥) → slice_get (slice_set xs i y) j ≡ slice_get xs j
get_other [] i j y ne = refl
get_other (x ∷ xs) zero zero y ne = absurd (ne refl)
get_other (x ∷ xs) zero (suc j) y ne = refl
get_other (x ∷ xs) (suc i) zero y ne = refl
get_other (x ∷ xs) (suc i) (suc j) y ne = get_other xs i j y (λ e. ne (omega arith))

pub held_other : {T : Type 0} (xs : List (Option T)) (n m : ℕ) (y : Option T) → (m ≡ n → ⊥)
    → held_at (with_held xs n y) m ≡ held_at xs m
held_other {T} xs zero m y ne = refl
held_other {T} xs (suc i) zero y ne = refl
held_other {T} xs (suc i) (suc j) y ne = ap (λ (o : Option (Option T)). option_flatten o)
    (get_other xs i j y (λ e. ne (omega arith)))

length_with : {T : Type 0} (xs : List (Option T)) (n : ℕ) (y : Option T) → length (with_held xs n y) ≡ length xs
length_with xs zero y = refl
length_with xs (suc i) y = length-set xs i y

-- ---- a module more, and a module less

-- a number that passes those of the modules is used by none
none_past : (ms : List (Option ReadModule)) (ts : List Trial) (n : ℕ) → length ms < n
    → All (λ t. IsSome (held_at ms t.module_number)) ts → sum_by (uses n) ts ≡ 0
none_past ms [] n past h = refl
none_past ms (t ∷ ts) n past h =
    let P : Trial → Type 0 = λ t. IsSome (held_at ms t.module_number) in
    let w : (1 ≤ t.module_number) × (t.module_number ≤ length ms) =
    held_within ms t.module_number (All-head P t ts h) in
    let rest : sum_by (uses n) ts ≡ 0 = none_past ms ts n past (All-tail P t ts h) in
    let one : uses n t ≡ 0 = grind (arith, nat_tests, w.0, w.1) in
    omega (arith, sum_by-cons (uses n) t ts)

pub module_more : (us : List ℕ) (ms : List (Option ReadModule)) (ts : List (Option Trial)) (m : ReadModule)
    → CountUsers us ms ts → CountUsers (us ++ 0 ∷ []) (ms ++ Some m ∷ []) ts
module_more us ms ts m h = record {
  counted = omega (arith, h.counted, length-push us 0, length-push ms (Some m));
  exact = push_at us (λ i. sum_by (uses (suc i)) (all_held ts)) 0 h.exact
      (sym (none_past ms (all_held ts) (suc (length us)) (omega (arith, h.counted)) h.used));
  used = All-weaker (λ t. IsSome (held_at ms t.module_number))
      (λ t. IsSome (held_at (ms ++ Some m ∷ []) t.module_number)) (λ t k. held_before ms (Some m) t.module_number k)
      (all_held ts) h.used;
}
  where
    length-push : {X : Type 0} (xs : List X) (x : X) → length (xs ++ x ∷ []) ≡ length xs + 1
    length-push [] x = refl
    length-push (y ∷ xs) x = omega (arith, length-push xs x)

-- a module that no held trial uses may go
still_used : (ms : List (Option ReadModule)) (ts : List Trial) (n : ℕ) → sum_by (uses n) ts ≡ 0
    → All (λ t. IsSome (held_at ms t.module_number)) ts
    → All (λ t. IsSome (held_at (with_held ms n None) t.module_number)) ts
still_used ms [] n none h = λ k d w. absurd (omega arith)
still_used ms (t ∷ ts) n none h =
    let P : Trial → Type 0 = λ t. IsSome (held_at ms t.module_number) in
    let Q : Trial → Type 0 = λ t. IsSome (held_at (with_held ms n None) t.module_number) in
    let one : uses n t ≡ 0 = omega (arith, sum_by-cons (uses n) t ts) in
    let rest : sum_by (uses n) ts ≡ 0 = omega (arith, sum_by-cons (uses n) t ts) in
    let other : t.module_number ≡ n → ⊥ = λ e. grind (arith, nat_tests, e, one) in
    All-cons Q t ts
    (subst (λ (o : Option ReadModule). IsSome o) (sym (held_other ms n t.module_number None other)) (All-head P t ts h))
    (still_used ms ts n rest (All-tail P t ts h))

pub module_less : (us : List ℕ) (ms : List (Option ReadModule)) (ts : List (Option Trial)) (n : ℕ)
    → count_by (λ t. t.module_number == n) (all_held ts) ≡ 0
    → CountUsers us ms ts → CountUsers us (with_held ms n None) ts
module_less us ms ts n none h = record {
  counted = h.counted ∙ sym (length_with ms n None);
  exact = h.exact;
  used = still_used ms (all_held ts) n none h.used;
}

-- ---- a trial more, and a trial less

uses_other : (t : Trial) (j i : ℕ) → t.module_number ≡ suc j → (i ≡ j → ⊥) → uses (suc i) t ≡ 0
uses_other t j i e ne = grind (arith, nat_tests, e, ne)

uses_own : (t : Trial) (j : ℕ) → t.module_number ≡ suc j → uses (suc j) t ≡ 1
uses_own t j e = grind (arith, nat_tests, e)

pub trial_more : (us : List ℕ) (ms : List (Option ReadModule)) (ts : List (Option Trial)) (t : Trial)
    → IsSome (held_at ms t.module_number)
    → CountUsers us ms ts → CountUsers (slice_set us (t.module_number - 1) (slice_index us (t.module_number - 1) + 1))
    ms (ts ++ Some t ∷ [])
trial_more us ms ts t held h =
    let w : (1 ≤ t.module_number) × (t.module_number ≤ length ms) = held_within ms t.module_number held in
    let j = t.module_number - 1 in
    let own : t.module_number ≡ suc j = omega (arith, w.0) in
    let P : Trial → Type 0 = λ t. IsSome (held_at ms t.module_number) in
    let U : ℕ → ℕ = λ i. sum_by (uses (suc i)) (all_held ts) in
    let V : ℕ → ℕ = λ i. sum_by (uses (suc i)) (all_held (ts ++ Some t ∷ [])) in
    let more : (i : ℕ) → V i ≡ U i + uses (suc i) t =
    λ i. ap (λ (l : List Trial). sum_by (uses (suc i)) l) (held_push ts t) ∙ sum_by_push (uses (suc i))
    (all_held ts) t in
    let was : slice_index us j ≡ U j = value_at us U j h.exact (omega (arith, w.1, h.counted)) in
    record {
      counted = length-set us j (slice_index us j + 1) ∙ h.counted;
      exact = set_at us U V j (slice_index us j + 1) h.exact
          (λ i ne. omega (arith, more i, uses_other t j i own ne))
          (omega (arith, more j, uses_own t j own, was));
      used = subst (λ (l : List Trial). All P l) (sym (held_push ts t)) (All-push P (all_held ts) t h.used held);
    }

-- a trial that is held counts where its module does
pub counted_user : (us : List ℕ) (ms : List (Option ReadModule)) (ts : List (Option Trial)) (ticket : ℕ) (t : Trial)
    → held_at ts ticket ≡ Some t → CountUsers us ms ts
    → (1 ≤ t.module_number) × (t.module_number ≤ length us) × (1 ≤ slice_index us (t.module_number - 1))
counted_user us ms ts ticket t held h =
    let a : Around ts ticket t = around ts ticket t held in
    let P : Trial → Type 0 = λ t. IsSome (held_at ms t.module_number) in
    let here : P t × All P (a.before ++ a.after) =
    all_around P a.before a.after t (subst (λ (l : List Trial). All P l) a.is h.used) in
    let w : (1 ≤ t.module_number) × (t.module_number ≤ length ms) = held_within ms t.module_number here.0 in
    let j = t.module_number - 1 in
    let own : t.module_number ≡ suc j = omega (arith, w.0) in
    let U : ℕ → ℕ = λ i. sum_by (uses (suc i)) (all_held ts) in
    let was : slice_index us j ≡ U j = value_at us U j h.exact (omega (arith, w.1, h.counted)) in
    let around_it : U j ≡ sum_by (uses (suc j)) (a.before ++ a.after) + uses (suc j) t =
    ap (λ (l : List Trial). sum_by (uses (suc j)) l) a.is ∙ sum_around (uses (suc j)) a.before a.after t in
    (w.0, omega (arith, w.1, h.counted), omega (arith, was, around_it, uses_own t j own))

pub trial_less : (us : List ℕ) (ms : List (Option ReadModule)) (ts : List (Option Trial)) (ticket : ℕ) (t : Trial)
    → held_at ts ticket ≡ Some t → CountUsers us ms ts
    → CountUsers (slice_set us (t.module_number - 1) (slice_index us (t.module_number - 1) - 1)) ms
    (with_held ts ticket None)
trial_less us ms ts ticket t held h =
    let a : Around ts ticket t = around ts ticket t held in
    let P : Trial → Type 0 = λ t. IsSome (held_at ms t.module_number) in
    let here : P t × All P (a.before ++ a.after) =
    all_around P a.before a.after t (subst (λ (l : List Trial). All P l) a.is h.used) in
    let w : (1 ≤ t.module_number) × (t.module_number ≤ length ms) = held_within ms t.module_number here.0 in
    let j = t.module_number - 1 in
    let own : t.module_number ≡ suc j = omega (arith, w.0) in
    let U : ℕ → ℕ = λ i. sum_by (uses (suc i)) (all_held ts) in
    let V : ℕ → ℕ = λ i. sum_by (uses (suc i)) (all_held (with_held ts ticket None)) in
    let less : (i : ℕ) → U i ≡ V i + uses (suc i) t =
    λ i. ap (λ (l : List Trial). sum_by (uses (suc i)) l) a.is ∙ sum_around (uses (suc i)) a.before a.after t
    ∙ ap (λ (l : List Trial). sum_by (uses (suc i)) l + uses (suc i) t) (sym a.gone) in
    let was : slice_index us j ≡ U j = value_at us U j h.exact (omega (arith, w.1, h.counted)) in
    record {
      counted = length-set us j (slice_index us j - 1) ∙ h.counted;
      exact = set_at us U V j (slice_index us j - 1) h.exact
          (λ i ne. omega (arith, less i, uses_other t j i own ne))
          (omega (arith, less j, uses_own t j own, was));
      used = subst (λ (l : List Trial). All P l) (sym a.gone) here.1;
    }

-- where no trial is held there is none to drop
pub trial_gap : (us : List ℕ) (ms : List (Option ReadModule)) (ts : List (Option Trial)) (ticket : ℕ)
    → held_at ts ticket ≡ None
    → CountUsers us ms ts → CountUsers us ms (with_held ts ticket None)
trial_gap us ms ts ticket none h =
    let same = gap ts ticket none in
    let P : Trial → Type 0 = λ t. IsSome (held_at ms t.module_number) in
    record {
      counted = h.counted;
      exact = λ i. same_at (slice_get us i) _ _
          (ap (λ (l : List Trial). sum_by (uses (suc i)) l) (sym same)) (h.exact i);
      used = subst (λ (l : List Trial). All P l) (sym same) h.used;
    }

-- ---- the same trials but for their states

-- a trial of the same module in the place of one
pub trial_again : (us : List ℕ) (ms : List (Option ReadModule)) (ts : List (Option Trial)) (ticket : ℕ) (t t' : Trial)
    → held_at ts ticket ≡ Some t
    → t'.module_number ≡ t.module_number → CountUsers us ms ts → CountUsers us ms (with_held ts ticket (Some t'))
trial_again us ms ts ticket t t' held same h =
    let a : Around ts ticket t = around ts ticket t held in
    let P : Trial → Type 0 = λ t. IsSome (held_at ms t.module_number) in
    let here : P t × All P (a.before ++ a.after) =
    all_around P a.before a.after t (subst (λ (l : List Trial). All P l) a.is h.used) in
    let now : P t' = subst (λ n. IsSome (held_at ms n)) (sym same) here.0 in
    let as_many : (i : ℕ) → sum_by (uses (suc i)) (all_held ts) ≡ sum_by (uses (suc i))
    (all_held (with_held ts ticket (Some t'))) =
    λ i. ap (λ (l : List Trial). sum_by (uses (suc i)) l) a.is
    ∙ sum_around (uses (suc i)) a.before a.after t
    ∙ ap (λ n. sum_by (uses (suc i)) (a.before ++ a.after) + cond (n == suc i) 1 0) (sym same)
    ∙ sym (sum_around (uses (suc i)) a.before a.after t')
    ∙ ap (λ (l : List Trial). sum_by (uses (suc i)) l) (sym (a.other t')) in
    record {
      counted = h.counted;
      exact = λ i. same_at (slice_get us i) _ _ (as_many i) (h.exact i);
      used = subst (λ (l : List Trial). All P l) (sym (a.other t')) (all_with P a.before a.after t' now here.1);
    }

-- ---- what a count says

length_held : {T : Type 0} (xs : List (Option T)) → length (all_held xs) ≤ length xs
length_held [] = omega arith
length_held (None ∷ xs) = omega (arith, length_held xs)
length_held (Some x ∷ xs) = omega (arith, length_held xs)

-- the count at the number of a module that is held is that of its users
pub count_is : (us : List ℕ) (ms : List (Option ReadModule)) (ts : List (Option Trial)) (n : ℕ) → IsSome (held_at ms n)
    → CountUsers us ms ts
    → slice_index us (n - 1) ≡ count_by (λ t. t.module_number == n) (all_held ts)
count_is us ms ts n held h =
    let w : (1 ≤ n) × (n ≤ length ms) = held_within ms n held in
    let own : n ≡ suc (n - 1) = omega (arith, w.0) in
    value_at us (λ i. sum_by (uses (suc i)) (all_held ts)) (n - 1) h.exact (omega (arith, w.0, w.1, h.counted))
    ∙ ap (λ k. sum_by (uses k) (all_held ts)) (sym own)

pub number_within : (us : List ℕ) (ms : List (Option ReadModule)) (ts : List (Option Trial)) (n : ℕ)
    → IsSome (held_at ms n) → CountUsers us ms ts → (1 ≤ n) × (n ≤ length us)
number_within us ms ts n held h =
    let w : (1 ≤ n) × (n ≤ length ms) = held_within ms n held in
    (w.0, omega (arith, w.1, h.counted))

-- it is at most as large as there are numbers of trials
pub counted_fits : (us : List ℕ) (ms : List (Option ReadModule)) (ts : List (Option Trial)) (n : ℕ)
    → IsSome (held_at ms n) → CountUsers us ms ts → slice_index us (n - 1) ≤ length ts
counted_fits us ms ts n held h =
    omega (
      arith,
      count_is us ms ts n held h,
      count_by-le-length (λ t. t.module_number == n) (all_held ts),
      length_held ts,
    )

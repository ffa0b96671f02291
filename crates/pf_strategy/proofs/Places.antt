-- Those that are held, before an index and from it on: one key more is gone through.
use Rattle.std.proofs.Common.{◌≡◌, ℕ, suc, ◌+◌, ◌<◌, ◌≤◌, Bool, true, false, List, [], ◌∷◌, ◌++◌, length, refl, sym, ap}
use Rattle.std.proofs.Common.{◌∙◌, arith, get_or, append_assoc}
use Rattle.std.specs.Prelude.{drop, take, map, nat_lt, if◌then◌else◌}
use Rattle.std.specs.List.{remove}
use Rattle.std.proofs.Math.Seq.{drop-append-add, drop-cons, take-append-add}
use Rattle.std.proofs.lemmas.Bool.Decides.{nat_tests}
use Rattle.std.proofs.lemmas.List.{append-nil, drop_all, length-append, length-map, length-take-le}
use Rattle.pf_strategy.specs.declared.priorities.HeldPriority.{HeldPriority}
use Rattle.pf_strategy.specs.Keys.{channel_key, keys_among}
use Rattle.pf_strategy.specs.Priorities.{PriorityState, Given, all_given, with_front, choice, given, held, highest}
use Rattle.pf_strategy.specs.Priorities.{highest_from, without_highest}

is_below : (a b : ℕ) → a < b → nat_lt a b ≡ true
is_below a b h = by (nat_lt a b) refl
  where
    by : (e : Bool) → nat_lt a b ≡ e → e ≡ true
    by true e = refl
    by false e = absurd (grind (arith, nat_tests))

pub isnt_below : (a b : ℕ) → b ≤ a → nat_lt a b ≡ false
isnt_below a b h = by (nat_lt a b) refl
  where
    by : (e : Bool) → nat_lt a b ≡ e → e ≡ false
    by true e = absurd (grind (arith, nat_tests))
    by false e = refl

-- some are before others
abbrev pub following : {G : Type 0} → List HeldPriority → PriorityState G → PriorityState G
following xs s = record { generator = s.generator; held = xs ++ s.held }

-- one more
one_after : {G : Type 0} (xs : List HeldPriority) (h : HeldPriority) (s : PriorityState G)
    → following xs (with_front h s) ≡ following (xs ++ h ∷ []) s
one_after xs h s = ap (λ l. record { generator = s.generator; held = l }) (sym (append_assoc xs (h ∷ []) s.held))

module _ {G : Type 0} (step : G → ℕ × G) (keys : List ℕ) (g g' : G) (hs ns : List HeldPriority) (i k p : ℕ) where
  abbrev one : Given G
  one = given step k g (drop i hs)

  abbrev rest : PriorityState G
  rest = all_given step (drop (i + 1) keys) g' (drop (i + 1) ns)

  -- what the call leaves
  pub record Gave : Type 0 where
    pub within : i ≤ length hs
    pub key : i < length keys
    pub is_key : k ≡ get_or keys i 0
    pub priority : p ≡ one.priority
    pub generator : g' ≡ one.generator
    pub holders : ns ≡ take i hs ++ held k p ∷ one.rest

  front : Gave → length (take i hs) ≡ i
  front w = length-take-le i hs w.within

  taken : Gave → take (i + 1) ns ≡ take i hs ++ held k p ∷ []
  taken w =
      ap (take (i + 1)) w.holders
      ∙ ap (λ n. take (n + 1) (take i hs ++ held k p ∷ one.rest)) (sym (front w))
      ∙ take-append-add (take i hs) (held k p ∷ one.rest) 1

  dropped : Gave → drop (i + 1) ns ≡ one.rest
  dropped w =
      ap (drop (i + 1)) w.holders
      ∙ ap (λ n. drop (n + 1) (take i hs ++ held k p ∷ one.rest)) (sym (front w))
      ∙ drop-append-add (take i hs) (held k p ∷ one.rest) 1

  -- those of the keys that are left begin with this one
  begins : Gave → all_given step (drop i keys) g (drop i hs) ≡ with_front (held k p) rest
  begins w =
      let after : suc i ≡ i + 1 = omega arith in
      let ks : drop i keys ≡ k ∷ drop (i + 1) keys =
      drop-cons keys i 0 w.key ∙ ap (λ n. n ∷ drop (suc i) keys) (sym w.is_key) ∙ ap (λ n. k ∷ drop n keys) after in
      ap (λ l. all_given step l g (drop i hs)) ks
      ∙ ap (λ q. with_front (held k q) (all_given step (drop (i + 1) keys) one.generator one.rest)) (sym w.priority)
      ∙ ap (λ z. with_front (held k p) (all_given step (drop (i + 1) keys) z one.rest)) (sym w.generator)
      ∙ ap (λ l. with_front (held k p) (all_given step (drop (i + 1) keys) g' l)) (sym (dropped w))

  pub one_given : Gave → following (take i hs) (all_given step (drop i keys) g (drop i hs)) ≡ following
      (take (i + 1) ns) rest
  one_given w =
      ap (following (take i hs)) (begins w) ∙ one_after (take i hs) (held k p) rest ∙ ap (λ l. following l rest)
      (sym (taken w))

  -- the highest so far
  highest_is : Gave → (best most : ℕ) → (e : Bool) → nat_lt most p ≡ e
      → highest_from i best most (all_given step (drop i keys) g (drop i hs)).held
      ≡ (if e then highest_from (i + 1) i p rest.held else highest_from (i + 1) best most rest.held)
  highest_is w best most e test =
      let after : suc i ≡ i + 1 = omega arith in
      ap (λ s. highest_from i best most s.held) (begins w)
      ∙ ap (λ n. if nat_lt most p then highest_from n i p rest.held else highest_from n best most rest.held) after
      ∙ ap (λ t. if t then highest_from (i + 1) i p rest.held else highest_from (i + 1) best most rest.held) test

  pub higher : Gave → (best most best' most' : ℕ) → most < p → best' ≡ i → most' ≡ p
      → highest_from i best most (all_given step (drop i keys) g (drop i hs)).held ≡ highest_from (i + 1) best'
      most' rest.held
  higher w best most best' most' more a b =
      highest_is w best most true (is_below most p more)
      ∙ ap (λ x. highest_from (i + 1) x p rest.held) (sym a) ∙ ap (λ x. highest_from (i + 1) best' x rest.held) (sym b)

  pub no_higher : Gave → (best most best' most' : ℕ) → p ≤ most → best' ≡ best → most' ≡ most
      → highest_from i best most (all_given step (drop i keys) g (drop i hs)).held ≡ highest_from (i + 1) best'
      most' rest.held
  no_higher w best most best' most' few a b =
      highest_is w best most false (isnt_below most p few)
      ∙ ap (λ x. highest_from (i + 1) x most rest.held) (sym a)
      ∙ ap (λ x. highest_from (i + 1) best' x rest.held) (sym b)

  -- one more is before the index
  pub long : Gave → i + 1 ≤ length ns
  long w =
      let all = ap length w.holders in
      let sum = length-append (take i hs) (held k p ∷ one.rest) in
      let n = front w in
      omega arith

  -- the same list as before
  pub same_list : Gave → take i hs ++ (all_given step (drop i keys) g (drop i hs)).held ≡ take (i + 1) ns ++ rest.held
  same_list w = ap (λ s. s.held) (one_given w)

-- ---- keys

pub count_of_keys : (ps : List ℕ) (hs : List (ℕ × ℕ)) → length (keys_among ps hs) ≡ length ps + length hs
count_of_keys ps hs = length-append ps (map (λ h. channel_key h.0 h.1) hs) ∙ ap (λ n. length ps + n)
    (length-map hs (λ h. channel_key h.0 h.1))

-- ---- all of them

module _ {G : Type 0} (step : G → ℕ × G) (keys : List ℕ) (g : G) (hs : List HeldPriority) (i : ℕ) where
  abbrev others : PriorityState G
  others = all_given step (drop i keys) g (drop i hs)

  abbrev none : PriorityState G
  none = record { generator = g; held = [] }

  abbrev left : List HeldPriority → PriorityState G
  left xs = record { generator = g; held = xs }

  none_other : length keys ≤ i → others ≡ none
  none_other h = ap (λ l. all_given step l g (drop i hs)) (drop_all i keys h)

  -- once all were gone through, the highest goes
  pub all_gone : (s : PriorityState G) (best most : ℕ) → length keys ≤ i
      → all_given step keys s.generator s.held ≡ following (take i hs) others
      → highest_from 0 0 0 (take i hs ++ others.held) ≡ highest_from i best most others.held
      → choice step s keys ≡ (best, left (remove (take i hs) best))
  all_gone s best most h given top =
      let t = take i hs in
      let e = none_other h in
      let nil : t ++ [] ≡ t = append-nil t in
      let all : all_given step keys s.generator s.held ≡ left t = given ∙ ap (following t) e ∙ ap left nil in
      let is_best : highest t ≡ best =
      ap highest (sym nil) ∙ ap (λ z. highest_from 0 0 0 (t ++ z.held)) (sym e) ∙ top
      ∙ ap (λ z. highest_from i best most z.held) e in
      ap (λ a. (highest a.held, without_highest a)) all ∙ ap (λ b. (b, left (remove t b))) is_best

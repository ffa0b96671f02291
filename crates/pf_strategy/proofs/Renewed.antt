-- The one who went last has a new priority in its place.
use Rattle.std.proofs.Common.{◌≡◌, ℕ, zero, suc, ◌+◌, ◌<◌, ◌≤◌, true, false, List, [], ◌∷◌, length, refl, sym}
use Rattle.std.proofs.Common.{ap, ◌∙◌, arith, Some, get_or, slice_get, slice_index_or, slice_set}
use Rattle.std.proofs.Common.{subst}
use Rattle.std.specs.Prelude.{drop, nat_eq, if◌then◌else◌}
use Rattle.std.specs.List.{remove}
use Rattle.std.proofs.lemmas.Bool.Decides.{nat_tests}
use Rattle.std.proofs.lemmas.Option.{same_Some}
use Rattle.pf_strategy.specs.declared.priorities.HeldPriority.{HeldPriority}
use Rattle.pf_strategy.specs.Places.{IsBelow, KeepsPlace}
use Rattle.pf_strategy.specs.Priorities.{Given, PriorityState, all_given, choice, drawn, from_key, given, given_from}
use Rattle.pf_strategy.specs.Priorities.{held, highest, with_front, without_highest}
use Rattle.pf_strategy.proofs.Places.{isnt_below}

is_same : (a b : ℕ) → a ≡ b → nat_eq a b ≡ true
is_same a b h = by (nat_eq a b) refl
  where
    by : (e : _) → nat_eq a b ≡ e → e ≡ true
    by true e = refl
    by false e = absurd (grind (arith, nat_tests))

isnt_same : (a b : ℕ) → b < a → nat_eq a b ≡ false
isnt_same a b h = by (nat_eq a b) refl
  where
    by : (e : _) → nat_eq a b ≡ e → e ≡ false
    by true e = absurd (grind (arith, nat_tests))
    by false e = refl

module _ {G : Type 0} (step : G → ℕ × G) where
  -- the own priority, if it is the first that is held
  own : (k : ℕ) (g : G) (h : HeldPriority) (hs : List HeldPriority) → h.key ≡ k
      → given step k g (h ∷ hs) ≡ record { priority = h.priority; generator = g; rest = hs }
  own k g h hs same =
      ap (λ b. given_from step k g (if b then from_key k hs else h ∷ hs)) (isnt_below h.key k (omega arith))
      ∙ ap (λ b. if b then record { priority = h.priority; generator = g; rest = hs } else drawn (step g) (h ∷ hs))
      (is_same h.key k same)

  -- the next word, if the first that is held has a higher key
  next : (k : ℕ) (g : G) (hs : List HeldPriority) → IsBelow k hs → given step k g hs ≡ drawn (step g) hs
  next k g [] below = refl
  next k g (h ∷ hs) below =
      ap (λ b. given_from step k g (if b then from_key k hs else h ∷ hs)) (isnt_below h.key k (omega (arith, below)))
      ∙ ap (λ b. if b then record { priority = h.priority; generator = g; rest = hs } else drawn (step g) (h ∷ hs))
      (isnt_same h.key k below)

  -- one who is given this is before others
  abbrev first_given : (k : ℕ) (ks : List ℕ) → Given G → PriorityState G
  first_given k ks d = with_front (held k d.priority) (all_given step ks d.generator d.rest)

  -- the next word in the place of the priority that is spent is what would be drawn there
  renewed : (ks : List ℕ) (hs : List HeldPriority) (n : ℕ) (g : G) (old p : HeldPriority) → KeepsPlace ks hs n
      → old ≡ slice_index_or hs n old → p.key ≡ old.key → p.priority ≡ (step g).0
      → all_given step ks g (remove hs n) ≡ all_given step ks (step g).1 (slice_set hs n p)
  renewed [] hs n g old p keeps is same word = absurd keeps
  renewed (k ∷ ks) [] n g old p keeps is same word = absurd keeps
  renewed (k ∷ ks) (h ∷ hs) zero g old p keeps is same word =
      ap (first_given k ks) (next k g hs keeps.1)
      ∙ ap (λ q. first_given k ks (record { priority = q; generator = (step g).1; rest = hs })) (sym word)
      ∙ ap (first_given k ks) (sym (own k (step g).1 p hs (same ∙ ap (λ x. x.key) is ∙ keeps.0)))
  renewed (k ∷ ks) (h ∷ hs) (suc n) g old p keeps is same word =
      ap (first_given k ks) (own k g h (remove hs n) keeps.0)
      ∙ ap (with_front (held k h.priority)) (renewed ks hs n g old p keeps.1 is same word)
      ∙ ap (first_given k ks) (sym (own k (step g).1 h (slice_set hs n p) keeps.0))

  choose_alike : (s t : PriorityState G) (ks : List ℕ)
      → all_given step ks s.generator s.held ≡ all_given step ks t.generator t.held
      → choice step s ks ≡ choice step t ks
  choose_alike s t ks all = ap (λ a. (highest a.held, without_highest a)) all

  pub chosen_alike : (ks : List ℕ) (hs ns : List HeldPriority) (n : ℕ) (g g' : G) (old p : HeldPriority)
      → KeepsPlace ks hs n → old ≡ slice_index_or hs n old → p.key ≡ old.key → p.priority ≡ (step g).0
      → g' ≡ (step g).1 → ns ≡ slice_set hs n p
      → choice step (record { generator = g; held = remove hs n }) ks
      ≡ choice step (record { generator = g'; held = ns }) ks
  chosen_alike ks hs ns n g g' old p keeps is same word stepped set =
      choose_alike (record { generator = g; held = remove hs n }) (record { generator = g'; held = ns }) ks
      (renewed ks hs n g old p keeps is same word ∙ ap (λ x. all_given step ks x (slice_set hs n p)) (sym stepped)
      ∙ ap (all_given step ks g') (sym set))

-- nobody's priority is spent where the index is past the end
pub nobody : (hs : List HeldPriority) (n : ℕ) → length hs ≤ n → remove hs n ≡ hs
nobody [] zero l = refl
nobody [] (suc n) l = refl
nobody (h ∷ hs) zero l = absurd (omega arith)
nobody (h ∷ hs) (suc n) l = ap (λ xs. h ∷ xs) (nobody hs n (omega arith))

-- ---- the comparison of keys, from an index on

pub keeps_last : (ks : List ℕ) (hs : List HeldPriority) (n : ℕ) (h : HeldPriority) (k : ℕ)
    → slice_get ks n ≡ Some k → slice_get hs n ≡ Some h → h.key ≡ k → IsBelow k (drop (suc n) hs)
    → KeepsPlace (drop n ks) (drop n hs) zero
keeps_last [] hs n h k at is same below = absurd (cc)
keeps_last (j ∷ ks) [] n h k at is same below = absurd (cc)
keeps_last (j ∷ ks) (x ∷ hs) zero h k at is same below =
    let first : j ≡ k = same_Some j k at in
    let own : x ≡ h = same_Some x h is in
    (ap (λ y. y.key) own ∙ same ∙ sym first, subst (λ y. IsBelow y hs) (sym first) below)
keeps_last (j ∷ ks) (x ∷ hs) (suc n) h k at is same below = keeps_last ks hs n h k at is same below

keeps_more : (ks : List ℕ) (hs : List HeldPriority) (at n : ℕ) (h : HeldPriority) (k : ℕ)
    → slice_get ks at ≡ Some k → slice_get hs at ≡ Some h → h.key ≡ k
    → KeepsPlace (drop (suc at) ks) (drop (suc at) hs) n
    → KeepsPlace (drop at ks) (drop at hs) (suc n)
keeps_more [] hs at n h k is own same keeps = absurd (cc)
keeps_more (j ∷ ks) [] at n h k is own same keeps = absurd (cc)
keeps_more (j ∷ ks) (x ∷ hs) zero n h k is own same keeps =
    let first : j ≡ k = same_Some j k is in
    let here : x ≡ h = same_Some x h own in
    (ap (λ y. y.key) here ∙ same ∙ sym first, keeps)
keeps_more (j ∷ ks) (x ∷ hs) (suc at) n h k is own same keeps = keeps_more ks hs at n h k is own same keeps

pub keeps_one_more : (ks : List ℕ) (hs : List HeldPriority) (at n : ℕ) (h : HeldPriority) (k : ℕ)
    → slice_get ks at ≡ Some k → slice_get hs at ≡ Some h → h.key ≡ k
    → KeepsPlace (drop (at + 1) ks) (drop (at + 1) hs) n
    → KeepsPlace (drop at ks) (drop at hs) (suc n)
keeps_one_more ks hs at n h k is own same keeps =
    let after : at + 1 ≡ suc at = omega arith in
    keeps_more ks hs at n h k is own same (subst (λ x. KeepsPlace (drop x ks) (drop x hs) n) after keeps)

-- ---- the one after an index

pub next_above : (hs : List HeldPriority) (n k : ℕ) (d : HeldPriority) → n < length hs → k < (get_or hs n d).key
    → IsBelow k (drop n hs)
next_above [] n k d l above = absurd (omega arith)
next_above (h ∷ hs) zero k d l above = above
next_above (h ∷ hs) (suc n) k d l above = next_above hs n k d (omega arith) above

pub none_next : (hs : List HeldPriority) (n k : ℕ) → length hs ≤ n → IsBelow k (drop n hs)
none_next [] zero k l = tt
none_next [] (suc n) k l = tt
none_next (h ∷ hs) zero k l = absurd (omega arith)
none_next (h ∷ hs) (suc n) k l = none_next hs n k (omega arith)

-- Rows: what one more counts, and the rows of two parts.
use Rattle.std.proofs.Common.{◌≡◌, ◌≢◌, ◌⊎◌, inl, inr, ◌+◌, ◌-◌, ◌^◌, ◌<◌, ◌≤◌, ℕ, suc, Bool, true, false, ◌&&◌, List}
use Rattle.std.proofs.Common.{[], ◌∷◌, Option, Some, None, refl, sym, ap, ap₂, ◌∙◌, subst, arith}
use Rattle.std.specs.Prelude.{if◌then◌else◌, ◌↔◌, nat_eq}
use Rattle.std.specs.Cmp.Lexicographic.{bytes_decides}
use Rattle.std.proofs.lemmas.Bool.{and_parts}
use Rattle.std.proofs.lemmas.Bool.Decides.{eqb_tells}
use Rattle.pf_terms.proofs.SameValues.{same_true, same_itself}
use Rattle.pf_model.specs.Meaning.{Job, Report}
use Rattle.pf_model.specs.Properties.{Outcome, finished, ended, deadlock, limit, memory}
use Rattle.pf_hunt.specs.Rows.{OutcomeRow, met, same_verdict, same_outcome, is_like, more_often, with_row, rows_joined}
use Rattle.pf_hunt.specs.Rows.{seeds_counted}
use Rattle.pf_hunt.specs.Hashes.{outcome_hash}
use Rattle.pf_strategy.specs.Strategies.{MeansBySeed}
use Rattle.pf_strategy.specs.declared.strategy.Strategy.{Strategy}
use Rattle.pf_strategy.proofs.Meant.{one_report}
use Rattle.pf_hunt.specs.Hunts.{Tallies, no_seed, and_seed}

-- ---- sameness

verdicts : (v w : Option Bool) → same_verdict v w ≡ true → v ≡ w
verdicts None None e = refl
verdicts (Some true) (Some true) e = refl
verdicts (Some false) (Some false) e = refl
verdicts _ _ e = absurd (cc)

verdict_itself : (v : Option Bool) → same_verdict v v ≡ true
verdict_itself None = refl
verdict_itself (Some true) = refl
verdict_itself (Some false) = refl

outcomes : (o p : Outcome) → same_outcome o p ≡ true → o ≡ p
outcomes (finished v) (finished w) e = ap finished (same_true v w e)
outcomes (ended v) (ended w) e = ap ended (same_true v w e)
outcomes (deadlock ps) (deadlock qs) e = ap deadlock ((bytes_decides ps qs).0 e)
outcomes limit limit e = refl
outcomes memory memory e = refl
outcomes _ _ e = absurd (cc)

outcome_itself : (o : Outcome) → same_outcome o o ≡ true
outcome_itself (finished v) = same_itself v
outcome_itself (ended v) = same_itself v
outcome_itself (deadlock ps) = (bytes_decides ps ps).1 refl
outcome_itself limit = refl
outcome_itself memory = refl

pub like_is_same : (x y : OutcomeRow) → (is_like x y ≡ true) ↔ ((x.verdict ≡ y.verdict) × (x.outcome ≡ y.outcome))
like_is_same x y = (
  (λ e. let p = and_parts (same_verdict x.verdict y.verdict) (same_outcome x.outcome y.outcome) e in
      (verdicts _ _ p.0, outcomes _ _ p.1)),
  (λ e. subst (λ v. (same_verdict x.verdict v && same_outcome x.outcome y.outcome) ≡ true) e.0
      (ap (λ b. b && same_outcome x.outcome y.outcome) (verdict_itself x.verdict)
      ∙ subst (λ o. same_outcome x.outcome o ≡ true) e.1 (outcome_itself x.outcome))),
)

-- true or false
either : (b : Bool) → (b ≡ true) ⊎ (b ≡ false)
either true = inl refl
either false = inr refl

-- numbers that differ are not equal
pub unequal : (m n : ℕ) → (m ≢ n) → nat_eq m n ≡ false
unequal m n d = elim (eqb_tells m n) [
  | inl p ↦ absurd (d p.1)
  | inr p ↦ p.0
]

-- outcomes are distinguished by their hashes
pub distinguished : (a b : Outcome) → (outcome_hash a ≢ outcome_hash b) → same_outcome a b ≡ false
distinguished a b d = elim (either (same_outcome a b)) [
  | inl s ↦ absurd (d (ap outcome_hash (outcomes a b s)))
  | inr e ↦ e
]

-- what is like one of two that are alike is like the other
alike : (x y z : OutcomeRow) → is_like x y ≡ true → is_like x z ≡ is_like y z
alike x y z e =
    let p = (like_is_same x y).0 e in
    ap₂ (λ v o. same_verdict v z.verdict && same_outcome o z.outcome) p.0 p.1

alike_right : (x y z : OutcomeRow) → is_like y z ≡ true → is_like x y ≡ is_like x z
alike_right x y z e =
    let p = (like_is_same y z).0 e in
    ap₂ (λ v o. same_verdict x.verdict v && same_outcome x.outcome o) p.0 p.1

-- ---- what one more counts

-- what `with_row` makes of rows, where it is known whether the first is like it
abbrev placed : Bool → OutcomeRow → List OutcomeRow → OutcomeRow → List OutcomeRow
placed b x xs y = if b then more_often x y.count ∷ xs else x ∷ with_row xs y

pub at_like : (x : OutcomeRow) (xs : List OutcomeRow) (y : OutcomeRow) → is_like x y ≡ true
    → with_row (x ∷ xs) y ≡ more_often x y.count ∷ xs
at_like x xs y e = ap (λ b. placed b x xs y) e

pub past_unlike : (x : OutcomeRow) (xs : List OutcomeRow) (y : OutcomeRow) → is_like x y ≡ false
    → with_row (x ∷ xs) y ≡ x ∷ with_row xs y
past_unlike x xs y e = ap (λ b. placed b x xs y) e

pub counts_more : (xs : List OutcomeRow) (y : OutcomeRow) → seeds_counted (with_row xs y) ≡ seeds_counted xs + y.count
counts_more [] y = omega arith
counts_more (x ∷ xs) y = elim (either (is_like x y)) [
  | inl e ↦ ap seeds_counted (at_like x xs y e) ∙ omega arith
  | inr e ↦ ap seeds_counted (past_unlike x xs y e) ∙ (let h = counts_more xs y in omega arith)
]

-- ---- the rows of two parts

-- some row is like this one
data HasLike (y : OutcomeRow) : List OutcomeRow → Type 0 where
  here : (x : OutcomeRow) (xs : List OutcomeRow) → is_like x y ≡ true → HasLike y (x ∷ xs)
  there : (x : OutcomeRow) (xs : List OutcomeRow) → HasLike y xs → HasLike y (x ∷ xs)

has_it : (xs : List OutcomeRow) (y r : OutcomeRow) → is_like y r ≡ true → HasLike r (with_row xs y)
has_it [] y r e = here y [] e
has_it (x ∷ xs) y r e = elim (either (is_like x y)) [
  | inl f ↦ subst (HasLike r) (sym (at_like x xs y f)) (here (more_often x y.count) xs (alike x y r f ∙ e))
  | inr f ↦ subst (HasLike r) (sym (past_unlike x xs y f)) (there x (with_row xs y) (has_it xs y r e))
]

still_has : (y r : OutcomeRow) (xs : List OutcomeRow) → HasLike r xs → HasLike r (with_row xs y)
still_has y r _ (here x xs e) = elim (either (is_like x y)) [
  | inl f ↦ subst (HasLike r) (sym (at_like x xs y f)) (here (more_often x y.count) xs e)
  | inr f ↦ subst (HasLike r) (sym (past_unlike x xs y f)) (here x (with_row xs y) e)
]
still_has y r _ (there x xs h) = elim (either (is_like x y)) [
  | inl f ↦ subst (HasLike r) (sym (at_like x xs y f)) (there (more_often x y.count) xs h)
  | inr f ↦ subst (HasLike r) (sym (past_unlike x xs y f)) (there x (with_row xs y) (still_has y r xs h))
]

more_twice : (x : OutcomeRow) (m n : ℕ) → more_often (more_often x m) n ≡ more_often (more_often x n) m
more_twice x m n = let e : x.count + m + n ≡ x.count + n + m = omega arith in
    ap (λ k. let z : OutcomeRow = record x { count = k } in z) e

more_once : (x : OutcomeRow) (m n : ℕ) → more_often x (m + n) ≡ more_often (more_often x m) n
more_once x m n = let e : x.count + (m + n) ≡ x.count + m + n = omega arith in
    ap (λ k. let z : OutcomeRow = record x { count = k } in z) e

-- where a row is already, it makes no difference whether what it counts comes before or after another
swapped_at : (y r x : OutcomeRow) (xs : List OutcomeRow) → is_like x r ≡ true
    → with_row (with_row (x ∷ xs) r) y ≡ with_row (with_row (x ∷ xs) y) r
swapped_at y r x xs e = elim (either (is_like x y)) [
  | inl f ↦ ap (λ zs. with_row zs y) (at_like x xs r e) ∙ at_like (more_often x r.count) xs y f
      ∙ ap (λ z. z ∷ xs) (more_twice x r.count y.count)
      ∙ sym (ap (λ zs. with_row zs r) (at_like x xs y f) ∙ at_like (more_often x y.count) xs r e)
  | inr f ↦ ap (λ zs. with_row zs y) (at_like x xs r e) ∙ past_unlike (more_often x r.count) xs y f
      ∙ sym (ap (λ zs. with_row zs r) (past_unlike x xs y f) ∙ at_like x (with_row xs y) r e)
]

swapped : (y r : OutcomeRow) (xs : List OutcomeRow) → HasLike r xs
    → with_row (with_row xs r) y ≡ with_row (with_row xs y) r
swapped y r _ (here x xs e) = swapped_at y r x xs e
swapped y r _ (there x xs h) = elim (either (is_like x r)) [
  | inl e ↦ swapped_at y r x xs e
  | inr e ↦ elim (either (is_like x y)) [
    | inl f ↦ ap (λ zs. with_row zs y) (past_unlike x xs r e) ∙ at_like x (with_row xs r) y f
        ∙ sym (ap (λ zs. with_row zs r) (at_like x xs y f) ∙ past_unlike (more_often x y.count) xs r e)
    | inr f ↦ ap (λ zs. with_row zs y) (past_unlike x xs r e) ∙ past_unlike x (with_row xs r) y f
        ∙ ap (λ zs. x ∷ zs) (swapped y r xs h)
        ∙ sym (ap (λ zs. with_row zs r) (past_unlike x xs y f) ∙ past_unlike x (with_row xs y) r e)
  ]
]

joined_after : (xs ys : List OutcomeRow) (r : OutcomeRow) → HasLike r xs
    → rows_joined (with_row xs r) ys ≡ with_row (rows_joined xs ys) r
joined_after xs [] r h = refl
joined_after xs (y ∷ ys) r h = ap (λ zs. rows_joined zs ys) (swapped y r xs h) ∙ joined_after (with_row xs y) ys r
    (still_has y r xs h)

-- what a row counts more is counted after it
counts_after : (xs : List OutcomeRow) (y r : OutcomeRow) → is_like y r ≡ true
    → with_row xs (more_often y r.count) ≡ with_row (with_row xs y) r
counts_after [] y r e = sym (at_like y [] r e)
counts_after (x ∷ xs) y r e = elim (either (is_like x y)) [
  | inl f ↦ at_like x xs (more_often y r.count) f ∙ ap (λ z. z ∷ xs) (more_once x y.count r.count)
      ∙ sym (ap (λ zs. with_row zs r) (at_like x xs y f) ∙ at_like (more_often x y.count) xs r (alike x y r f ∙ e))
  | inr f ↦ past_unlike x xs (more_often y r.count) f ∙ ap (λ zs. x ∷ zs) (counts_after xs y r e)
      ∙ sym (ap (λ zs. with_row zs r) (past_unlike x xs y f) ∙ past_unlike x (with_row xs y) r
      (sym (alike_right x y r e) ∙ f))
]

-- one row more after the second part is one more after both
pub joined_more : (xs ys : List OutcomeRow) (r : OutcomeRow)
    → rows_joined xs (with_row ys r) ≡ with_row (rows_joined xs ys) r
joined_more xs [] r = refl
joined_more xs (y ∷ ys) r = elim (either (is_like y r)) [
  | inl e ↦ ap (rows_joined xs) (at_like y ys r e) ∙ ap (λ zs. rows_joined zs ys) (counts_after xs y r e)
      ∙ joined_after (with_row xs y) ys r (has_it xs y r e)
  | inr e ↦ ap (rows_joined xs) (past_unlike y ys r e) ∙ joined_more (with_row xs y) ys r
]

module _ (w : Strategy) (j : Job) where
  pub parts_are_the_whole : (a c b : ℕ) (xs ys : List OutcomeRow) → a ≤ c → c ≤ b → Tallies w j a c xs
      → Tallies w j c b ys → Tallies w j a b (rows_joined xs ys)
  parts_are_the_whole a c _ xs _ l k h (no_seed b m) = let e : c ≡ b = omega arith in
      subst (λ n. Tallies w j a n xs) e h
  parts_are_the_whole a c _ xs _ l k h (and_seed b ys r m t n) =
      subst (Tallies w j a (suc b)) (sym (joined_more xs ys (met b r)))
      (and_seed b (rows_joined xs ys) r (omega arith) (parts_are_the_whole a c b xs ys l m h t) n)

  -- the rows of what came after joined those so far
  pub rows_on : (a c b : ℕ) (xs ys all : List OutcomeRow) → a ≤ c → c ≤ b → Tallies w j a c xs → Tallies w j c b ys
      → all ≡ rows_joined xs ys → Tallies w j a b all
  rows_on a c b xs ys all l k t u e = subst (Tallies w j a b) (sym e) (parts_are_the_whole a c b xs ys l k t u)

  pub each_is_counted : (a b : ℕ) (rows : List OutcomeRow) → Tallies w j a b rows → seeds_counted rows ≡ b - a
  each_is_counted a _ _ (no_seed b l) = omega arith
  each_is_counted a _ _ (and_seed b rows r l t m) =
      let h = each_is_counted a b rows t in
      let e = counts_more rows (met b r) in
      omega arith

  pub one_tally : (a b : ℕ) (xs ys : List OutcomeRow) → Tallies w j a b xs → Tallies w j a b ys → xs ≡ ys
  one_tally a _ _ _ (no_seed b l) t = none_there b _ l t
    where
      none_there : (b : ℕ) (ys : List OutcomeRow) → b ≤ a → Tallies w j a b ys → [] ≡ ys
      none_there _ _ l (no_seed b k) = refl
      none_there _ _ l (and_seed b rows r k t m) = absurd (omega arith)
  one_tally a _ _ _ (and_seed b rows r l t m) (no_seed _ k) = absurd (omega arith)
  one_tally a _ _ _ (and_seed b rows r l t m) (and_seed _ others q k u n) =
      ap₂ (λ zs z. with_row zs (met b z)) (one_tally a b rows others t u) (one_report w j b r q m n)

  -- the rows to where the seeds end
  pub ends_there : (a b s : ℕ) (rows : List OutcomeRow) → Tallies w j a s rows → (s ≡ a) ⊎ (s ≤ b) → b ≤ s
      → Tallies w j a b rows
  ends_there a b s rows t (inl e) l =
      let q = one_tally a s rows [] t (no_seed s (omega arith)) in
      subst (Tallies w j a b) (sym q) (no_seed b (omega arith))
  ends_there a b s rows t (inr k) l = let e : s ≡ b = omega arith in subst (λ n. Tallies w j a n rows) e t

  -- one seed more
  pub one_seed_more : (a s : ℕ) (rows : List OutcomeRow) (r : Report) → a ≤ s → Tallies w j a s rows
      → MeansBySeed w j s r
      → Tallies w j a (s + 1) (with_row rows (met s r))
  one_seed_more a s rows r l t m =
      let e : suc s ≡ s + 1 = omega arith in subst (λ n. Tallies w j a n (with_row rows (met s r))) e
      (and_seed s rows r l t m)

  -- what two parts count, one after the other, is within bounds
  pub counted_both : (a c b : ℕ) (xs ys : List OutcomeRow) → a ≤ c → c ≤ b → b < 2 ^ 64 → Tallies w j a c xs
      → Tallies w j c b ys
      → seeds_counted xs + seeds_counted ys < 2 ^ 64
  counted_both a c b xs ys l k fits t u =
      let first = each_is_counted a c xs t in
      let second = each_is_counted c b ys u in
      omega arith

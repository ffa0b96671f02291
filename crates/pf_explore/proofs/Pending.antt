-- What the runs so far say, and which are still to be made.
use Rattle.std.proofs.Common.{◌≡◌, ◌∙◌, ◌⊎◌, inl, inr, refl, sym, ap, subst, ℕ, zero, ◌+◌, ◌≤◌, Bool, true, false}
use Rattle.std.proofs.Common.{not, ◌&&◌}
use Rattle.std.proofs.Common.{true≢false, List, [], Option, Some, None, arith}
use Rattle.std.specs.Prelude.{is_some, unwrap_or}
use Rattle.pf_model.specs.Meaning.{Job, Report}
use Rattle.pf_strategy.specs.Noted.{MakesChoices, MeansBySchedule}
use Rattle.pf_strategy.specs.declared.noted.ChoicePoint.{ChoicePoint}
use Rattle.pf_explore_laws.specs.Last.{HoldsByEachLast, HoldsWithinLast, other_choices}
use Rattle.pf_explore_laws.specs.Parting.{AreBy}
use Rattle.pf_explore_laws.proofs.Parting.{choices_part, choices_are_by_schedule, replay_of_choices, same_choices}
use Rattle.pf_explore_laws.proofs.Parting.{some_choices}
use Rattle.pf_explore.specs.Branching.{none_seen, seen_all, deviating}
use Rattle.pf_explore.specs.Failing.{IsFailingLast}
use Rattle.pf_explore.specs.Steps.{StepsAreWithin}
use Rattle.pf_explore.proofs.Order.{choices, IsFrom, Branches, Follow, follow}
use Rattle.pf_explore.proofs.Branching.{ComesAfter, branch_of, none_between}

-- the run of a report that fails, by the choices of its events
pub failing : (p : Option ℕ) (j : Job) (ns : List ℕ) (es : List ChoicePoint) (r : Report) → MakesChoices p j ns es r
    → r.verdict ≡ Some false → IsFailingLast p j r
failing p j ns es r makes fails = ((replay_of_choices p j ns es r makes, fails), (ns, es, makes))

-- the property of a run holds, and it has no more steps than this
abbrev pub IsGood : ℕ → Report → Type 0
IsGood n s = (s.verdict ≡ Some true) × (s.steps ≤ n)

good_within : (n m : ℕ) (s : Report) → n ≤ m → IsGood n s → IsGood m s
good_within n m s more good = let few = good.1 in (good.0, omega arith)

-- a schedule deviates no oftener than is asked for, if any was left out that does
abbrev pub MayBeLeftOut : (most : ℕ) → (all : Bool) → List ChoicePoint → Type 0
MayBeLeftOut most all fs = all ≡ false → other_choices fs ≤ most

-- before a run by a schedule: it is the first, or leaves another run; each that isn't left out holds within so many
-- steps, or comes with it or after it
pub record IsPending (p : Option ℕ) (j : Job) (most : ℕ) (all : Bool) (n : ℕ) (ns : List ℕ) : Type 0 where
  pub leaves : (ns ≡ [])
      ⊎ ((ms : List ℕ) × (es : List ChoicePoint) × (r : Report) × MakesChoices p j ms es r × Branches ns es)
  pub earlier : (ms : List ℕ) (fs : List ChoicePoint) (s : Report) → MakesChoices p j ms fs s
      → MayBeLeftOut most all fs → IsGood n s ⊎ IsFrom ns (choices fs)

pub first_pending : (p : Option ℕ) (j : Job) (most : ℕ) → IsPending p j most true 0 []
first_pending p j most = record { leaves = inl refl; earlier = λ ms fs s makes may. inr tt }

none_is_some : {A : Type 0} {T : Type 0} (o : Option A) (v : A) → o ≡ None → o ≡ Some v → T
none_is_some o v none some = absurd (true≢false (ap is_some (sym some ∙ none)))

module _ (p : Option ℕ) (j : Job) (most : ℕ) (all : Bool) (n m : ℕ) (ns : List ℕ) (es : List ChoicePoint) (r : Report)
    (pending : IsPending p j most all n ns) (makes : MakesChoices p j ns es r) (more : n ≤ m) (holds : IsGood m r) where
  abbrev left_out : Bool
  left_out = (seen_all (none_seen most) zero es).left_out

  -- the run by this schedule has its choices, and the first after them
  own : Follow ns es
  own =
      let by = choices_are_by_schedule p j ns es r makes in
      elim pending.leaves [
        | inl e ↦ subst (λ ms. Follow ms es) (sym e) (subst (λ ms. AreBy ms es) e by)
        | inr h ↦ follow ns h.1 es h.4 (choices_part p j h.0 ns h.1 es h.2 r h.3 makes) by
      ]

  still_left_out : (left : Bool) → left_out ≡ left → (fs : List ChoicePoint) → MayBeLeftOut most (all && not left) fs
      → left_out ≡ true → other_choices fs ≤ most
  still_left_out true e fs may out = may (false_of all)
    where
      false_of : (b : Bool) → (b && false) ≡ false
      false_of true = refl
      false_of false = refl
  still_left_out false e fs may out = absurd (true≢false (sym out ∙ e))

  was_left_out : (left : Bool) (fs : List ChoicePoint) → MayBeLeftOut most (all && not left) fs
      → MayBeLeftOut most all fs
  was_left_out left fs may nothing = may (ap (λ b. b && not left) nothing)

  -- each other that isn't left out holds, or comes with the next schedule or after it
  pub after_run : (left : Bool) → left_out ≡ left → (ms : List ℕ) (fs : List ChoicePoint) (s : Report)
      → MakesChoices p j ms fs s → MayBeLeftOut most (all && not left) fs
      → IsGood m s ⊎ ComesAfter (none_seen most) zero es fs
  after_run left e ms fs s also may =
      elim (pending.earlier ms fs s also (was_left_out left fs may)) [
        | inl good ↦ inl (good_within n m s more good)
        | inr from ↦ elim (none_between (none_seen most) zero ns es fs (choices_part p j ns ms es fs r s makes also)
            own from (still_left_out left e fs may)) [
              | inl same ↦ inl (subst (IsGood m) (same_choices p j ns ms es r s makes
                  (subst (λ gs. MakesChoices p j ms gs s) (sym same) also)) holds)
              | inr h ↦ inr h
            ]
      ]

  -- after the last run
  module _ (left : Bool) (e : left_out ≡ left) (last : (seen_all (none_seen most) zero es).branch ≡ None) where
    good : (ms : List ℕ) (fs : List ChoicePoint) (s : Report) → MakesChoices p j ms fs s
        → MayBeLeftOut most (all && not left) fs → IsGood m s
    good ms fs s also may =
        elim (after_run left e ms fs s also may)
        [ inl h ↦ h | inr h ↦ none_is_some (seen_all (none_seen most) zero es).branch (zero + h.0, h.1) last h.2 ]

    pub within : HoldsWithinLast p most j
    within ms fs s also few = (good ms fs s also (λ b. few)).0

    whole_good : (all && not left) ≡ true → (ms : List ℕ) (s : Report) → MeansBySchedule p j ms s → IsGood m s
    whole_good whole ms s means =
        let also = some_choices p j ms s means in
        good ms also.0 s also.1 (λ nothing. absurd (true≢false (sym whole ∙ nothing)))

    pub by_each : (all && not left) ≡ true → HoldsByEachLast p j × StepsAreWithin p m j
    by_each whole = (λ ms s also. (whole_good whole ms s also).0, λ ms s also. (whole_good whole ms s also).1)

  -- before the next
  pub next_pending : (left : Bool) → left_out ≡ left → (b : ℕ × ℕ)
      → (seen_all (none_seen most) zero es).branch ≡ Some b
      → IsPending p j most (all && not left) m (deviating es b.0 b.1)
  next_pending left e b branch =
      record {
        leaves = inr (ns, es, r, makes, new);
        earlier =
            λ ms fs s also may. elim (after_run left e ms fs s also may) [
              | inl h ↦ inl h
              | inr h ↦ inr (subst (λ q. IsFrom (deviating es q.0 q.1) (choices fs)) (place h.0 h.1 h.2) h.3)
            ];
      }
    where
      place : (k n : ℕ) → (seen_all (none_seen most) zero es).branch ≡ Some (zero + k, n) → (k, n) ≡ b
      place k n h =
          let zero_more : k ≡ zero + k = omega arith in
          let same : Some (zero + k, n) ≡ Some b = sym h ∙ branch in
          ap (λ i. (i, n)) zero_more ∙ ap (λ o. unwrap_or o b) same

      new : Branches (deviating es b.0 b.1) es
      new =
          elim (branch_of (none_seen most) zero es) [
            | inl h ↦ none_is_some (seen_all (none_seen most) zero es).branch b h branch
            | inr h ↦ subst (λ q. Branches (deviating es q.0 q.1) es) (place h.0 h.1 h.2) h.3
          ]

-- What one project sees of hands and deques, and that chores about its trials are the same with all else out of sight.
use Rattle.std.proofs.Common.{◌≡◌, ℕ, ◌≤◌, ◌==◌, Bool, true, false, ◌&&◌, [], ◌∷◌, ◌++◌, Option, Some, None, refl, sym}
use Rattle.std.proofs.Common.{ap, ◌∙◌, arith, append-nil}
use Rattle.std.specs.Prelude.{if◌then◌else◌, nat_lt, length, unwrap_or}
use Rattle.std.specs.Option.{option_map}
use Rattle.std.proofs.lemmas.Bool.Decides.{nat_tests}
use Rattle.pf_desks.specs.Desk.{Desk, held_at}
use Rattle.pf_desks.specs.Work.{claim_step, file_step, hand_back_step}
use Rattle.pf_world.specs.World.{RunProfile, RunProgress, going, over, ClaimedRun, Hand, Deque}
use Rattle.pf_world.specs.Chores.{Effect, MOST_PARKED, new_run, is_run_of, is_going, sliced, in_hand, from_deque}
use Rattle.pf_world.specs.Chores.{onto_deque, claimed_as, hand_emptied, claim_effect, deque_effect, file_effect}
use Rattle.pf_world.specs.Chores.{free_effect, busy_effect, chore_effect}
use Rattle.pf_request.specs.declared.step.Chore.{Chore}
use Rattle.pf_request.specs.declared.step.Chore.TheVariants.{Claim, Slice, Park, TakeUp, Steal, File, HandBack}
use Rattle.pf_world.proofs.Effects.{from_some, where_so, where_claimed, where_from_deque}
use Rattle.pf_world.proofs.Isolated.{same_project}

pub itself : (q : ℕ) → (q == q) ≡ true
itself q = grind (arith, nat_tests)

left_of : (a b : Bool) → (a && b) ≡ true → a ≡ true
left_of true b h = refl
left_of false b h = h

module _ (q : ℕ) where
  abbrev pub keep : Hand → Hand
  keep None = None
  keep (Some r) = if r.project == q then Some r else None

  abbrev pub keep_runs : Deque → Deque
  keep_runs [] = []
  keep_runs (r ∷ rs) = if r.project == q then r ∷ keep_runs rs else keep_runs rs

  keep_own : (r : ClaimedRun) → (r.project == q) ≡ true → keep (Some r) ≡ Some r
  keep_own r h = ap (λ (b : Bool). if b then Some r else None) h

  keep_other : (r : ClaimedRun) → (r.project == q) ≡ false → keep (Some r) ≡ None
  keep_other r h = ap (λ (b : Bool). if b then Some r else None) h

  runs_own : (r : ClaimedRun) (rs : Deque) → (r.project == q) ≡ true → keep_runs (r ∷ rs) ≡ r ∷ keep_runs rs
  runs_own r rs h = ap (λ (b : Bool). if b then r ∷ keep_runs rs else keep_runs rs) h

  runs_other : (r : ClaimedRun) (rs : Deque) → (r.project == q) ≡ false → keep_runs (r ∷ rs) ≡ keep_runs rs
  runs_other r rs h = ap (λ (b : Bool). if b then r ∷ keep_runs rs else keep_runs rs) h

  runs_more : (rs : Deque) (r : ClaimedRun) → keep_runs (rs ++ r ∷ []) ≡ keep_runs rs ++ keep_runs (r ∷ [])
  runs_more [] r = refl
  runs_more (x ∷ rs) r = by (x.project == q) (runs_more rs r)
    where
      by : (b : Bool) → keep_runs (rs ++ r ∷ []) ≡ keep_runs rs ++ keep_runs (r ∷ [])
          → (if b then x ∷ keep_runs (rs ++ r ∷ []) else keep_runs (rs ++ r ∷ []))
          ≡ (if b then x ∷ keep_runs rs else keep_runs rs) ++ keep_runs (r ∷ [])
      by true h = ap (λ (ks : Deque). x ∷ ks) h
      by false h = h

  fewer : (rs : Deque) → length (keep_runs rs) ≤ length rs
  fewer [] = omega arith
  fewer (x ∷ rs) = by (x.project == q) (fewer rs)
    where
      by : (b : Bool) → length (keep_runs rs) ≤ length rs
          → length (if b then x ∷ keep_runs rs else keep_runs rs) ≤ length (x ∷ rs)
      by true h = grind (arith, h)
      by false h = grind (arith, h)

  still_room : (b : Bool) (m n k : ℕ) → m ≤ n → (b && nat_lt n k) ≡ true → (b && nat_lt m k) ≡ true
  still_room true m n k h is = grind (arith, nat_tests)
  still_room false m n k h is = absurd (cc)

  -- an effect, as the project sees it
  abbrev pub own_effect : Effect → Effect
  own_effect e = record {
    desk = e.desk;
    hand = keep e.hand;
    deque = option_map keep_runs e.deque;
    response = e.response;
  }

  own_emptied : (o : Option Desk) → hand_emptied o ≡ own_effect (hand_emptied o)
  own_emptied (Some d) = refl
  own_emptied None = refl

  module _ (p : RunProfile) where
    -- ---- chores about the project's own trials, with other projects' runs out of sight

    deque_own : (t : ℕ) (rs : Deque) (e : Effect) → deque_effect q t rs ≡ Some e
        → deque_effect q t (keep_runs rs) ≡ Some (own_effect e)
    deque_own t rs e h = where_from_deque (λ e. deque_effect q t (keep_runs rs) ≡ Some (own_effect e)) q t rs e
        h (λ r ks i is.
        let mine : (r.project == q) ≡ true = left_of (r.project == q) (r.ticket == t) is in
        ap (λ (xs : Deque). deque_effect q t xs) (ap keep_runs i ∙ runs_own r ks mine)
        ∙ ap (λ (b : Bool). if b then Some (from_deque r (keep_runs ks)) else None) is
        ∙ ap (λ (x : Hand). Some (record (from_deque r (keep_runs ks)) { hand = x })) (sym (keep_own r mine)))

    free_own : (t : ℕ) (k : Chore) (d : Desk) (rs : Deque) (e : Effect) → free_effect q t k d rs ≡ Some e
        → free_effect q t k d (keep_runs rs) ≡ Some (own_effect e)
    free_own t Claim d rs e h =
        where_claimed (λ e. claim_effect q t (held_at d.trials t) (claim_step d t) ≡ Some (own_effect e)) q t
        (held_at d.trials t) (claim_step d t) e h (λ x k i j.
        (λ n. claim_effect q t (i n) (j n))
        ∙ ap (λ (x' : Hand). Some (record (claimed_as k (new_run q t x.job)) { hand = x' }))
        (sym (keep_own (new_run q t x.job) (itself q))))
    free_own t TakeUp d rs e h = deque_own t rs e h
    free_own t (Steal v) d rs e h = deque_own t rs e h
    free_own t (Slice n) d rs e h = absurd (cc)
    free_own t Park d rs e h = absurd (cc)
    free_own t File d rs e h = absurd (cc)
    free_own t HandBack d rs e h = absurd (cc)

    busy_own : (t : ℕ) (k : Chore) (d : Desk) (r : ClaimedRun) (rs : Deque) (e : Effect) → (r.project == q) ≡ true
        → busy_effect p t k d r rs ≡ Some e
        → busy_effect p t k d r (keep_runs rs) ≡ Some (own_effect e)
    busy_own t (Slice n) d r rs e mine h =
        where_so (λ e. busy_effect p t (Slice n) d r (keep_runs rs) ≡ Some (own_effect e))
        (is_going r.progress && nat_lt 0 n) _ e h (λ is.
        ap (λ (b : Bool). if b then Some (in_hand (sliced p n r)) else None) is
        ∙ ap (λ (x : Hand). Some (record (in_hand (sliced p n r)) { hand = x })) (sym (keep_own (sliced p n r) mine)))
    busy_own t Park d r rs e mine h =
        where_so (λ e. busy_effect p t Park d r (keep_runs rs) ≡ Some (own_effect e))
        (is_going r.progress && nat_lt (length rs) MOST_PARKED) _ e h (λ is.
        ap (λ (b : Bool). if b then Some (onto_deque r (keep_runs rs)) else None)
        (still_room (is_going r.progress) (length (keep_runs rs)) (length rs) MOST_PARKED (fewer rs) is)
        ∙ ap (λ (xs : Deque). Some (record (onto_deque r rs) { deque = Some xs }))
        (sym (runs_more rs r ∙ ap (λ (xs : Deque). keep_runs rs ++ xs) (runs_own r [] mine))))
    busy_own t File d r rs e mine h = by r.progress h
      where
        by : (g : RunProgress) → file_effect p t d g ≡ Some e → file_effect p t d g ≡ Some (own_effect e)
        by (going k) h = absurd (cc)
        by (over m) h =
            from_some (λ e. file_effect p t d (over m) ≡ Some (own_effect e)) _ e h
            (ap (λ (x : Effect). Some x) (own_emptied (file_step p.profile d t m)))
    busy_own t HandBack d r rs e mine h =
        from_some (λ e. busy_effect p t HandBack d r (keep_runs rs) ≡ Some (own_effect e)) _ e h
        (ap (λ (x : Effect). Some x) (own_emptied (hand_back_step d t)))
    busy_own t Claim d r rs e mine h = absurd (cc)
    busy_own t TakeUp d r rs e mine h = absurd (cc)
    busy_own t (Steal v) d r rs e mine h = absurd (cc)

    pub chore_own : (t : ℕ) (k : Chore) (d : Desk) (hand : Hand) (rs : Deque) (e : Effect)
        → chore_effect p q t k d hand rs ≡ Some e
        → chore_effect p q t k d (keep hand) (keep_runs rs) ≡ Some (own_effect e)
    chore_own t k d None rs e h = free_own t k d rs e h
    chore_own t k d (Some r) rs e h = by (is_run_of q t r) refl h
      where
        by : (b : Bool) → is_run_of q t r ≡ b → (if b then busy_effect p t k d r rs else None) ≡ Some e
            → chore_effect p q t k d (keep (Some r)) (keep_runs rs) ≡ Some (own_effect e)
        by true is h =
            (let mine : (r.project == q) ≡ true = left_of (r.project == q) (r.ticket == t) is in
            ap (λ (x : Hand). chore_effect p q t k d x (keep_runs rs)) (keep_own r mine)
            ∙ ap (λ (b : Bool). if b then busy_effect p t k d r (keep_runs rs) else None) is
            ∙ busy_own t k d r rs e mine h)
        by false is h = absurd (cc)

    -- ---- chores about another project's trials aren't seen

    abbrev pub IsUnseen : Hand → Deque → Effect → Type 0
    IsUnseen hand rs e = (keep e.hand ≡ keep hand) × (keep_runs (unwrap_or e.deque rs) ≡ keep_runs rs)

    module _ (r : ℕ) (apart : (r == q) ≡ false) where
      theirs : (t : ℕ) (x : ClaimedRun) → is_run_of r t x ≡ true → (x.project == q) ≡ false
      theirs t x h = ap (λ (n : ℕ). n == q) (same_project r x.project (left_of (x.project == r) (x.ticket == t) h))
          ∙ apart

      unseen_emptied : (x : ClaimedRun) (rs : Deque) (o : Option Desk) → (x.project == q) ≡ false
          → IsUnseen (Some x) rs (hand_emptied o)
      unseen_emptied x rs (Some d) h = (sym (keep_other x h), refl)
      unseen_emptied x rs None h = (sym (keep_other x h), refl)

      unseen_from_deque : (t : ℕ) (rs : Deque) (e : Effect) → deque_effect r t rs ≡ Some e → IsUnseen None rs e
      unseen_from_deque t rs e h = where_from_deque (IsUnseen None rs) r t rs e h (λ x ks i is.
          (keep_other x (theirs t x is), sym (ap keep_runs i ∙ runs_other x ks (theirs t x is))))

      free_unseen : (t : ℕ) (k : Chore) (d : Desk) (rs : Deque) (e : Effect) → free_effect r t k d rs ≡ Some e
          → IsUnseen None rs e
      free_unseen t Claim d rs e h =
          where_claimed (IsUnseen None rs) r t (held_at d.trials t) (claim_step d t) e h
          (λ x k i j. (keep_other (new_run r t x.job) apart, refl))
      free_unseen t TakeUp d rs e h = unseen_from_deque t rs e h
      free_unseen t (Steal v) d rs e h = unseen_from_deque t rs e h
      free_unseen t (Slice n) d rs e h = absurd (cc)
      free_unseen t Park d rs e h = absurd (cc)
      free_unseen t File d rs e h = absurd (cc)
      free_unseen t HandBack d rs e h = absurd (cc)

      busy_unseen : (t : ℕ) (k : Chore) (d : Desk) (x : ClaimedRun) (rs : Deque) (e : Effect) → (x.project == q) ≡ false
          → busy_effect p t k d x rs ≡ Some e → IsUnseen (Some x) rs e
      busy_unseen t (Slice n) d x rs e out h =
          where_so (IsUnseen (Some x) rs) (is_going x.progress && nat_lt 0 n) _ e h
          (λ is. (keep_other (sliced p n x) out ∙ sym (keep_other x out), refl))
      busy_unseen t Park d x rs e out h =
          where_so (IsUnseen (Some x) rs) (is_going x.progress && nat_lt (length rs) MOST_PARKED) _ e h (λ is. (
            sym (keep_other x out),
            runs_more rs x ∙ ap (λ (xs : Deque). keep_runs rs ++ xs) (runs_other x [] out)
                ∙ append-nil (keep_runs rs),
          ))
      busy_unseen t File d x rs e out h = by x.progress h
        where
          by : (g : RunProgress) → file_effect p t d g ≡ Some e → IsUnseen (Some x) rs e
          by (going k) h = absurd (cc)
          by (over m) h = from_some (IsUnseen (Some x) rs) _ e h (unseen_emptied x rs (file_step p.profile d t m) out)
      busy_unseen t HandBack d x rs e out h =
          from_some (IsUnseen (Some x) rs) _ e h (unseen_emptied x rs (hand_back_step d t) out)
      busy_unseen t Claim d x rs e out h = absurd (cc)
      busy_unseen t TakeUp d x rs e out h = absurd (cc)
      busy_unseen t (Steal v) d x rs e out h = absurd (cc)

      pub chore_unseen : (t : ℕ) (k : Chore) (d : Desk) (hand : Hand) (rs : Deque) (e : Effect)
          → chore_effect p r t k d hand rs ≡ Some e → IsUnseen hand rs e
      chore_unseen t k d None rs e h = free_unseen t k d rs e h
      chore_unseen t k d (Some x) rs e h = by (is_run_of r t x) refl h
        where
          by : (b : Bool) → is_run_of r t x ≡ b → (if b then busy_effect p t k d x rs else None) ≡ Some e
              → IsUnseen (Some x) rs e
          by true is h = busy_unseen t k d x rs e (theirs t x is) h
          by false is h = absurd (cc)

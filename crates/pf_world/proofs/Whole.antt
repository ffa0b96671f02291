-- Where no allocation fails, each run that is over is whole.
use Rattle.std.proofs.Common.{◌≡◌, ℕ, ◌+◌, Bool, true, false, ◌&&◌, List, [], ◌∷◌, Option, Some, None, refl, sym}
use Rattle.std.specs.Prelude.{if◌then◌else◌, nat_lt, length, All}
use Rattle.std.proofs.lemmas.List.Elements.{All-nil, All-head, All-tail, All-same, All-replicate, All-set, All-push}
use Rattle.pf_model.specs.Meaning as model
use Rattle.pf_desks.specs.Desk.{Desk, held_at}
use Rattle.pf_desks.specs.declared.mark.FileMark.TheVariants.{Whole}
use Rattle.pf_desks.specs.Work.{claim_step, file_step, hand_back_step}
use Rattle.pf_desks.specs.Desks.{desk_at}
use Rattle.pf_desks.proofs.Isolated.{pick}
use Rattle.pf_world.specs.World.{RunProfile, RunProgress, going, over, ClaimedRun, Hand, Deque, World, new_world}
use Rattle.pf_world.specs.Chores.{Effect, MOST_PARKED, is_run_of, is_going, progress_after, hand_emptied, file_effect}
use Rattle.pf_world.specs.Chores.{free_effect, busy_effect, chore_effect}
use Rattle.pf_request.specs.declared.step.Chore.{Chore}
use Rattle.pf_request.specs.declared.step.Chore.TheVariants.{Claim, Slice, Park, TakeUp, Steal, File, HandBack}
use Rattle.pf_world.specs.Steps.{WorldStep, client_calls, worker_does, deque_owner, with_deque, with_effect, effect_of}
use Rattle.pf_world.specs.Steps.{take_step}
use Rattle.pf_world.proofs.Effects.{from_some, where_so, where_claimed, where_from_deque, where_done, all_at}

abbrev pub IsWholeProgress : RunProgress → Type 0
IsWholeProgress (going k) = Unit {0}
IsWholeProgress (over m) = m ≡ Whole

abbrev pub IsWhole : ClaimedRun → Type 0
IsWhole r = IsWholeProgress r.progress

abbrev pub IsWholeHand : Hand → Type 0
IsWholeHand None = Unit {0}
IsWholeHand (Some r) = IsWhole r

abbrev IsWholeDeck : Option Deque → Type 0
IsWholeDeck None = Unit {0}
IsWholeDeck (Some rs) = All IsWhole rs

abbrev IsWholeEffect : Effect → Type 0
IsWholeEffect e = IsWholeHand e.hand × IsWholeDeck e.deque

-- each run that is over is whole, in all hands and on all deques
abbrev pub IsWholeWorld : World → Type 0
IsWholeWorld s = All IsWholeHand s.hands × All (All IsWhole) s.deques

module _ (p : RunProfile) where
  whole_after : (n : ℕ) (j : model.Job) (g : RunProgress) → IsWholeProgress g → IsWholeProgress (progress_after p n j g)
  whole_after n j (going k) h = pick IsWholeProgress (nat_lt (k + n) (p.events j)) (going (k + n)) (over Whole) tt refl
  whole_after n j (over m) h = h

  whole_emptied : (o : Option Desk) → IsWholeEffect (hand_emptied o)
  whole_emptied (Some d) = (tt, tt)
  whole_emptied None = (tt, tt)

  both_whole : (rs : Deque) (r : ClaimedRun) (ks : Deque) → rs ≡ r ∷ ks → All IsWhole rs → IsWhole r × All IsWhole ks
  both_whole rs r ks i all =
      let both : All IsWhole (r ∷ ks) = All-same IsWhole (r ∷ ks) rs (sym i) all in
      (All-head IsWhole r ks both, All-tail IsWhole r ks both)

  free_whole : (q t : ℕ) (k : Chore) (d : Desk) (rs : Deque) (e : Effect) → free_effect q t k d rs ≡ Some e
      → All IsWhole rs → IsWholeEffect e
  free_whole q t Claim d rs e h all = where_claimed IsWholeEffect q t (held_at d.trials t) (claim_step d t) e h
      (λ x k i j. (tt, tt))
  free_whole q t TakeUp d rs e h all = where_from_deque IsWholeEffect q t rs e h (λ r ks i is. both_whole rs r ks i all)
  free_whole q t (Steal v) d rs e h all = where_from_deque IsWholeEffect q t rs e h
      (λ r ks i is. both_whole rs r ks i all)
  free_whole q t (Slice n) d rs e h all = absurd (cc)
  free_whole q t Park d rs e h all = absurd (cc)
  free_whole q t File d rs e h all = absurd (cc)
  free_whole q t HandBack d rs e h all = absurd (cc)

  busy_whole : (t : ℕ) (k : Chore) (d : Desk) (r : ClaimedRun) (rs : Deque) (e : Effect)
      → busy_effect p t k d r rs ≡ Some e → IsWhole r → All IsWhole rs → IsWholeEffect e
  busy_whole t (Slice n) d r rs e h one all =
      where_so IsWholeEffect (is_going r.progress && nat_lt 0 n) _ e h
      (λ is. (whole_after n r.job.asked r.progress one, tt))
  busy_whole t Park d r rs e h one all =
      where_so IsWholeEffect (is_going r.progress && nat_lt (length rs) MOST_PARKED) _ e h
      (λ is. (tt, All-push IsWhole rs r all one))
  busy_whole t File d r rs e h one all = by r.progress h
    where
      by : (g : RunProgress) → file_effect p t d g ≡ Some e → IsWholeEffect e
      by (going k) h = absurd (cc)
      by (over m) h = from_some IsWholeEffect _ e h (whole_emptied (file_step p.profile d t m))
  busy_whole t HandBack d r rs e h one all = from_some IsWholeEffect _ e h (whole_emptied (hand_back_step d t))
  busy_whole t Claim d r rs e h one all = absurd (cc)
  busy_whole t TakeUp d r rs e h one all = absurd (cc)
  busy_whole t (Steal v) d r rs e h one all = absurd (cc)

  chore_whole : (q t : ℕ) (k : Chore) (d : Desk) (hand : Hand) (rs : Deque) (e : Effect)
      → chore_effect p q t k d hand rs ≡ Some e → IsWholeHand hand → All IsWhole rs → IsWholeEffect e
  chore_whole q t k d None rs e h one all = free_whole q t k d rs e h all
  chore_whole q t k d (Some r) rs e h one all = by (is_run_of q t r) h
    where
      by : (b : Bool) → (if b then busy_effect p t k d r rs else None) ≡ Some e → IsWholeEffect e
      by true h = busy_whole t k d r rs e h one all
      by false h = absurd (cc)

  -- ---- steps

  whole_with : (v : ℕ) (o : Option Deque) (ks : List Deque) → All (All IsWhole) ks → IsWholeDeck o
      → All (All IsWhole) (with_deque v o ks)
  whole_with v (Some rs) ks all new = All-set (All IsWhole) ks v rs new all
  whole_with v None ks all new = all

  pub whole_step : (s : World) (x : WorldStep) → IsWholeWorld s → IsWholeWorld (take_step p s x).0
  whole_step s (client_calls q c) h = h
  whole_step s (worker_does w q t k) h = by (effect_of p s w q t k) refl
    where
      by : (o : Option Effect) → effect_of p s w q t k ≡ o → IsWholeWorld (with_effect s w (deque_owner w k) q o).0
      by None i = h
      by (Some e) i =
          let is : IsWholeEffect e =
          where_done IsWholeEffect p s w q t k e i (
          λ hand rs x y done. chore_whole q t k (desk_at q s.desks) hand rs e done
          (all_at IsWholeHand s.hands w hand x h.0) (all_at (All IsWhole) s.deques (deque_owner w k) rs y h.1)
          )
          in
          (All-set IsWholeHand s.hands w e.hand is.0 h.0, whole_with (deque_owner w k) e.deque s.deques h.1 is.1)

pub whole_new : (n : ℕ) → IsWholeWorld (new_world n)
whole_new n = (All-replicate IsWholeHand n None tt, All-replicate (All IsWhole) n [] (All-nil IsWhole))

-- Whatever workers do and wherever allocations fail, the desks of a world are those of a world after some steps.
use Rattle.std.proofs.Common.{◌≡◌, ℕ, Bool, true, false, ◌&&◌, List, [], ◌∷◌, ◌++◌, Option, Some, None, refl, sym, ap}
use Rattle.std.proofs.Common.{◌∙◌, subst}
use Rattle.std.specs.Prelude.{if◌then◌else◌, nat_lt, length}
use Rattle.pf_desks.specs.Desk.{Desk, held_at}
use Rattle.pf_desks.specs.History.{IsLegalDesk}
use Rattle.pf_desks.specs.Legality.{after_steps}
use Rattle.pf_desks.specs.Work.{DeskWork, claim, file, hand_back, claim_step, file_step, hand_back_step, worker_step}
use Rattle.pf_desks.specs.Desks.{Desks, DeskStep, client, worker, desk_at, worked, step}
use Rattle.pf_desks.proofs.Histories as histories
use Rattle.pf_desks.proofs.Within.{legal_within}
use Rattle.pf_world.specs.World.{RunProfile, RunProgress, going, over, ClaimedRun, Hand, Deque, World, new_world}
use Rattle.pf_world.specs.Chores.{Response, Effect, MOST_PARKED, is_run_of, is_going, hand_emptied, file_effect}
use Rattle.pf_world.specs.Chores.{free_effect, busy_effect, chore_effect}
use Rattle.pf_request.specs.declared.step.Chore.{Chore}
use Rattle.pf_request.specs.declared.step.Chore.TheVariants.{Claim, Slice, Park, TakeUp, Steal, File, HandBack}
use Rattle.pf_world.specs.Steps.{WorldStep, client_calls, worker_does, deque_owner, with_effect, effect_of, take_step}
use Rattle.pf_world.specs.Memory.{refused_in, RespondsTo, RespondsInTurn}
use Rattle.pf_world.specs.Laws.{LegalityAmongWorkers, LimitsAmongWorkers}
use Rattle.pf_world.proofs.Effects.{from_some, where_so, where_claimed, where_from_deque, where_done}

module _ (p : RunProfile) where
  -- ---- an effect leaves a desk to which a worker's work at a desk leads, or changes none

  abbrev pub IsWork : Desk → Option Desk → Type 0
  IsWork d None = Unit {0}
  IsWork d (Some d') = (k : DeskWork) × (worker_step p.profile d k ≡ Some d')

  abbrev IsWorkEffect : Desk → Effect → Type 0
  IsWorkEffect d e = IsWork d e.desk

  work_emptied : (d : Desk) (k : DeskWork) (o : Option Desk) → worker_step p.profile d k ≡ o
      → IsWorkEffect d (hand_emptied o)
  work_emptied d k (Some x) h = (k, h)
  work_emptied d k None h = tt

  free_work : (q t : ℕ) (k : Chore) (d : Desk) (rs : Deque) (e : Effect) → free_effect q t k d rs ≡ Some e
      → IsWorkEffect d e
  free_work q t Claim d rs e h = where_claimed (IsWorkEffect d) q t (held_at d.trials t) (claim_step d t) e h
      (λ x k i j. (claim t, j))
  free_work q t TakeUp d rs e h = where_from_deque (IsWorkEffect d) q t rs e h (λ r ks i is. tt)
  free_work q t (Steal v) d rs e h = where_from_deque (IsWorkEffect d) q t rs e h (λ r ks i is. tt)
  free_work q t (Slice n) d rs e h = absurd (cc)
  free_work q t Park d rs e h = absurd (cc)
  free_work q t File d rs e h = absurd (cc)
  free_work q t HandBack d rs e h = absurd (cc)

  busy_work : (t : ℕ) (k : Chore) (d : Desk) (r : ClaimedRun) (rs : Deque) (e : Effect)
      → busy_effect p t k d r rs ≡ Some e → IsWorkEffect d e
  busy_work t (Slice n) d r rs e h = where_so (IsWorkEffect d) (is_going r.progress && nat_lt 0 n) _ e h (λ is. tt)
  busy_work t Park d r rs e h = where_so (IsWorkEffect d) (is_going r.progress && nat_lt (length rs) MOST_PARKED)
      _ e h (λ is. tt)
  busy_work t File d r rs e h = by r.progress h
    where
      by : (g : RunProgress) → file_effect p t d g ≡ Some e → IsWorkEffect d e
      by (going k) h = absurd (cc)
      by (over m) h = from_some (IsWorkEffect d) _ e h (work_emptied d (file t m) (file_step p.profile d t m) refl)
  busy_work t HandBack d r rs e h = from_some (IsWorkEffect d) _ e h
      (work_emptied d (hand_back t) (hand_back_step d t) refl)
  busy_work t Claim d r rs e h = absurd (cc)
  busy_work t TakeUp d r rs e h = absurd (cc)
  busy_work t (Steal v) d r rs e h = absurd (cc)

  pub chore_work : (q t : ℕ) (k : Chore) (d : Desk) (hand : Hand) (rs : Deque) (e : Effect)
      → chore_effect p q t k d hand rs ≡ Some e → IsWorkEffect d e
  chore_work q t k d None rs e h = free_work q t k d rs e h
  chore_work q t k d (Some r) rs e h = by (is_run_of q t r) h
    where
      by : (b : Bool) → (if b then busy_effect p t k d r rs else None) ≡ Some e → IsWorkEffect d e
      by true h = busy_work t k d r rs e h
      by false h = absurd (cc)

  -- ---- steps

  -- these desks are those of a world after some steps
  abbrev IsReached : Desks → Type 0
  IsReached w = (ss : List DeskStep) × (w ≡ after_steps p.profile [] ss)

  one_more : (w : Desks) (ss : List DeskStep) (x : DeskStep)
      → after_steps p.profile w (ss ++ x ∷ []) ≡ (step p.profile (after_steps p.profile w ss) x).0
  one_more w [] x = refl
  one_more w (y ∷ ss) x = one_more (step p.profile w y).0 ss x

  reached_step : (w : Desks) (x : DeskStep) → IsReached w → IsReached (step p.profile w x).0
  reached_step w x h = (h.0 ++ x ∷ [], ap (λ (k : Desks). (step p.profile k x).0) h.1 ∙ sym (one_more [] h.0 x))

  reached_with : (w : Desks) (r : ℕ) (o : Option Desk) → IsWork (desk_at r w) o → IsReached w
      → IsReached (worked r w o).0
  reached_with w r None k h = h
  reached_with w r (Some d) k h =
      subst (λ (o : Option Desk). IsReached (worked r w o).0) k.1 (reached_step w (worker r k.0) h)

  reached_after : (s : World) (x : WorldStep) → IsReached s.desks → IsReached (take_step p s x).0.desks
  reached_after s (client_calls r c) h = reached_step s.desks (client r c) h
  reached_after s (worker_does w r t k) h = by (effect_of p s w r t k) refl
    where
      by : (o : Option Effect) → effect_of p s w r t k ≡ o → IsReached (with_effect s w (deque_owner w k) r o).0.desks
      by None i = h
      by (Some e) i =
          reached_with s.desks r e.desk (
          where_done (IsWorkEffect (desk_at r s.desks)) p s w r t k e i
          (λ hand rs x y done. chore_work r t k (desk_at r s.desks) hand rs e done)
          ) h

  pub refused_desks : (s : World) (x : WorldStep) → (refused_in s x).desks ≡ s.desks
  refused_desks s (client_calls r c) = refl
  refused_desks s (worker_does w r t Claim) = refl
  refused_desks s (worker_does w r t (Slice n)) = refl
  refused_desks s (worker_does w r t Park) = refl
  refused_desks s (worker_does w r t TakeUp) = refl
  refused_desks s (worker_does w r t (Steal v)) = refl
  refused_desks s (worker_does w r t File) = refl
  refused_desks s (worker_does w r t HandBack) = refl

  reached_answer : (s k : World) (x : WorldStep) (a : Option Response) → RespondsTo p s x a k → IsReached s.desks
      → IsReached k.desks
  reached_answer s k x (Some a) to h = subst (λ (r : World × Response). IsReached r.0.desks) to (reached_after s x h)
  reached_answer s k x None to h = subst IsReached (sym (ap (λ (r : World). r.desks) to.1 ∙ refused_desks s x)) h

  reached_from : (s s' : World) (xs : List WorldStep) (ans : List (Option Response)) → RespondsInTurn p s xs ans s'
      → IsReached s.desks → IsReached s'.desks
  reached_from s s' [] [] to h = subst (λ (k : World). IsReached k.desks) (sym to) h
  reached_from s s' [] (a ∷ ans) to h = absurd to
  reached_from s s' (x ∷ xs) [] to h = absurd to
  reached_from s s' (x ∷ xs) (a ∷ ans) to h = reached_from to.0 s' xs ans to.2 (reached_answer s to.0 x a to.1 h)

pub legal : LegalityAmongWorkers
legal p n q xs ans s to =
    let reached : IsReached p s.desks = reached_from p (new_world n) s xs ans to ([], refl) in
    subst (λ (w : Desks). IsLegalDesk p.profile (desk_at q w)) (sym reached.1) (histories.legal p.profile q reached.0)

pub limits : LimitsAmongWorkers
limits p n q xs ans s to = legal_within p.profile (desk_at q s.desks) (legal p n q xs ans s to)

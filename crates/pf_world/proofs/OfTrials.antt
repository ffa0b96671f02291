-- The runs of a world stay those of the jobs of their trials.
use Rattle.std.proofs.Common.{◌≡◌, ℕ, zero, suc, Bool, true, false, ◌&&◌, List, [], ◌∷◌, length, Option, Some, None}
use Rattle.std.proofs.Common.{refl, sym, subst, arith}
use Rattle.std.specs.Prelude.{if◌then◌else◌, nat_lt, All, IfSome, slice_get, replicate}
use Rattle.std.specs.Option.{option_flatten, option_map}
use Rattle.std.proofs.lemmas.List.Elements.{All-cons, All-head, All-tail, All-push, All-set, All-weaker}
use Rattle.pf_desks.specs.Desk.{Trial, Desk, held_at}
use Rattle.pf_desks.specs.Jobs.{IsTicketOf, KeepsAllTickets}
use Rattle.pf_desks.specs.Work.{claim, claim_step, file_step, hand_back_step}
use Rattle.pf_desks.specs.Desks.{Desks, client, desk_at, put_desk, worked, step}
use Rattle.pf_desks.proofs.Jobs.{tickets_placed, tickets_stepped, tickets_worked, ticket_held}
use Rattle.pf_desks.proofs.Isolated.{desk_there}
use Rattle.pf_world.specs.World.{RunProfile, RunProgress, going, over, ClaimedRun, Hand, Deque, World, new_world}
use Rattle.pf_world.specs.Chores.{Response, Effect, MOST_PARKED, new_run, is_run_of, is_going, hand_emptied}
use Rattle.pf_world.specs.Chores.{file_effect, free_effect, busy_effect, chore_effect}
use Rattle.pf_request.specs.declared.step.Chore.{Chore}
use Rattle.pf_request.specs.declared.step.Chore.TheVariants.{Claim, Slice, Park, TakeUp, Steal, File, HandBack}
use Rattle.pf_world.specs.Steps.{WorldStep, client_calls, worker_does, deque_owner, with_deque, with_effect, effect_of}
use Rattle.pf_world.specs.Steps.{take_step}
use Rattle.pf_world.specs.Memory.{out_of_memory, refused_in, RespondsTo, RespondsInTurn}
use Rattle.pf_world.specs.Jobs.{IsOfTrial, RunsAreOfTrials, JobsAmongWorkers}
use Rattle.pf_world.proofs.Effects.{all_at, from_some, where_so, where_claimed, where_from_deque, where_done}
use Rattle.pf_world.proofs.Legal.{IsWork, chore_work}

-- ---- the same runs beside other desks

abbrev pub IsHandOf : Desks → Hand → Type 0
IsHandOf w h = IfSome h (IsOfTrial w)

module _ (w w' : Desks) (keeps : KeepsAllTickets w w') where
  pub run_kept : (r : ClaimedRun) → IsOfTrial w r → IsOfTrial w' r
  run_kept r h = keeps r.project r.ticket r.job h

  hand_kept : (h : Hand) → IsHandOf w h → IsHandOf w' h
  hand_kept None h = tt
  hand_kept (Some r) h = run_kept r h

  pub hands_kept : (hs : List Hand) → All (IsHandOf w) hs → All (IsHandOf w') hs
  hands_kept hs h = All-weaker (IsHandOf w) (IsHandOf w') hand_kept hs h

  deque_kept : (rs : Deque) → All (IsOfTrial w) rs → All (IsOfTrial w') rs
  deque_kept rs h = All-weaker (IsOfTrial w) (IsOfTrial w') run_kept rs h

  pub deques_kept : (ks : List Deque) → All (All (IsOfTrial w)) ks → All (All (IsOfTrial w')) ks
  deques_kept ks h = All-weaker (All (IsOfTrial w)) (All (IsOfTrial w')) deque_kept ks h

module _ (p : RunProfile) where
  -- ---- what a chore leaves

  -- what an effect leaves in the hand and in the deque is of the jobs of trials, beside the desks that it leaves
  abbrev IsOfTrials : (project : ℕ) → Desks → Effect → Type 0
  IsOfTrials q w e = IsHandOf (worked q w e.desk).0 e.hand × IfSome e.deque (All (IsOfTrial (worked q w e.desk).0))

  emptied : (q : ℕ) (w : Desks) (o : Option Desk) → IsOfTrials q w (hand_emptied o)
  emptied q w (Some d) = (tt, tt)
  emptied q w None = (tt, tt)

  pub new_of : (q t : ℕ) (w : Desks) (x : Trial) (d' : Desk) → held_at (desk_at q w).trials t ≡ Some x
      → claim_step (desk_at q w) t ≡ Some d'
      → IsOfTrial (put_desk q d' w) (new_run q t x.job)
  new_of q t w x d' held claims =
      subst (λ (d : Desk). IsTicketOf d t x.job) (sym (desk_there q d' w))
      (tickets_worked p.profile (desk_at q w) d' (claim t) claims t x.job (ticket_held (desk_at q w) t x held))

  free_of : (q t : ℕ) (k : Chore) (w : Desks) (rs : Deque) (e : Effect) → All (IsOfTrial w) rs
      → free_effect q t k (desk_at q w) rs ≡ Some e → IsOfTrials q w e
  free_of q t Claim w rs e all h =
      where_claimed (IsOfTrials q w) q t (held_at (desk_at q w).trials t) (claim_step (desk_at q w) t) e h
      (λ x d i j. (new_of q t w x d i j, tt))
  free_of q t TakeUp w rs e all h = where_from_deque (IsOfTrials q w) q t rs e h
      (λ r ks i is. taken r ks (subst (All (IsOfTrial w)) i all))
    where
      taken : (r : ClaimedRun) (ks : Deque) → All (IsOfTrial w) (r ∷ ks) → IsOfTrial w r × All (IsOfTrial w) ks
      taken r ks a = (All-head (IsOfTrial w) r ks a, All-tail (IsOfTrial w) r ks a)
  free_of q t (Steal v) w rs e all h = where_from_deque (IsOfTrials q w) q t rs e h
      (λ r ks i is. taken r ks (subst (All (IsOfTrial w)) i all))
    where
      taken : (r : ClaimedRun) (ks : Deque) → All (IsOfTrial w) (r ∷ ks) → IsOfTrial w r × All (IsOfTrial w) ks
      taken r ks a = (All-head (IsOfTrial w) r ks a, All-tail (IsOfTrial w) r ks a)
  free_of q t (Slice n) w rs e all h = absurd (cc)
  free_of q t Park w rs e all h = absurd (cc)
  free_of q t File w rs e all h = absurd (cc)
  free_of q t HandBack w rs e all h = absurd (cc)

  busy_of : (q t : ℕ) (k : Chore) (w : Desks) (r : ClaimedRun) (rs : Deque) (e : Effect) → IsOfTrial w r
      → All (IsOfTrial w) rs
      → busy_effect p t k (desk_at q w) r rs ≡ Some e → IsOfTrials q w e
  busy_of q t (Slice n) w r rs e own all h = where_so (IsOfTrials q w) (is_going r.progress && nat_lt 0 n) _ e h
      (λ is. (own, tt))
  busy_of q t Park w r rs e own all h =
      where_so (IsOfTrials q w) (is_going r.progress && nat_lt (length rs) MOST_PARKED) _ e h
      (λ is. (tt, All-push (IsOfTrial w) rs r all own))
  busy_of q t File w r rs e own all h = by r.progress h
    where
      by : (g : RunProgress) → file_effect p t (desk_at q w) g ≡ Some e → IsOfTrials q w e
      by (going k) h = absurd (cc)
      by (over m) h = from_some (IsOfTrials q w) _ e h (emptied q w (file_step p.profile (desk_at q w) t m))
  busy_of q t HandBack w r rs e own all h = from_some (IsOfTrials q w) _ e h
      (emptied q w (hand_back_step (desk_at q w) t))
  busy_of q t Claim w r rs e own all h = absurd (cc)
  busy_of q t TakeUp w r rs e own all h = absurd (cc)
  busy_of q t (Steal v) w r rs e own all h = absurd (cc)

  chore_of : (q t : ℕ) (k : Chore) (w : Desks) (hand : Hand) (rs : Deque) (e : Effect) → IsHandOf w hand
      → All (IsOfTrial w) rs
      → chore_effect p q t k (desk_at q w) hand rs ≡ Some e → IsOfTrials q w e
  chore_of q t k w None rs e own all h = free_of q t k w rs e all h
  chore_of q t k w (Some r) rs e own all h = by (is_run_of q t r) h
    where
      by : (b : Bool) → (if b then busy_effect p t k (desk_at q w) r rs else None) ≡ Some e → IsOfTrials q w e
      by true h = busy_of q t k w r rs e own all h
      by false h = absurd (cc)

  -- ---- steps

  work_keeps : (q : ℕ) (w : Desks) (o : Option Desk) → IsWork p (desk_at q w) o → KeepsAllTickets w (worked q w o).0
  work_keeps q w None k r = λ t j h. h
  work_keeps q w (Some d) k r = tickets_placed r q d w (tickets_worked p.profile (desk_at q w) d k.0 k.1)

  deques_with : (P : Deque → Type 0) (v : ℕ) (o : Option Deque) (ks : List Deque) → IfSome o P → All P ks
      → All P (with_deque v o ks)
  deques_with P v None ks h all = all
  deques_with P v (Some rs) ks h all = All-set P ks v rs h all

  of_effect : (s : World) (w v q : ℕ) (e : Effect) → KeepsAllTickets s.desks (worked q s.desks e.desk).0
      → IsOfTrials q s.desks e → RunsAreOfTrials s
      → RunsAreOfTrials (with_effect s w v q (Some e)).0
  of_effect s w v q e keeps left all =
      let w' = (worked q s.desks e.desk).0 in (
        All-set (IsHandOf w') s.hands w e.hand left.0 (hands_kept s.desks w' keeps s.hands all.0),
        deques_with (All (IsOfTrial w')) v e.deque s.deques left.1 (deques_kept s.desks w' keeps s.deques all.1),
      )

  of_step : (s : World) (x : WorldStep) → RunsAreOfTrials s → RunsAreOfTrials (take_step p s x).0
  of_step s (client_calls q c) all =
      let keeps : KeepsAllTickets s.desks (step p.profile s.desks (client q c)).0 =
      λ r. tickets_stepped p.profile r s.desks (client q c) in
      (hands_kept s.desks _ keeps s.hands all.0, deques_kept s.desks _ keeps s.deques all.1)
  of_step s (worker_does w q t k) all = by (effect_of p s w q t k) refl
    where
      left : (e : Effect) → effect_of p s w q t k ≡ Some e → IsOfTrials q s.desks e
      left e i = where_done (IsOfTrials q s.desks) p s w q t k e i (λ hand rs x y done.
          chore_of q t k s.desks hand rs e (all_at (IsHandOf s.desks) s.hands w hand x all.0)
          (all_at (All (IsOfTrial s.desks)) s.deques (deque_owner w k) rs y all.1) done)

      keeps : (e : Effect) → effect_of p s w q t k ≡ Some e → KeepsAllTickets s.desks (worked q s.desks e.desk).0
      keeps e i = work_keeps q s.desks e.desk
          (where_done (λ x. IsWork p (desk_at q s.desks) x.desk) p s w q t k e i
          (λ hand rs x y done. chore_work p q t k (desk_at q s.desks) hand rs e done))

      by : (o : Option Effect) → effect_of p s w q t k ≡ o → RunsAreOfTrials (with_effect s w (deque_owner w k) q o).0
      by None i = all
      by (Some e) i = of_effect s w (deque_owner w k) q e (keeps e i) (left e i) all

  -- a run in which an allocation failed is of the same job
  pub of_refused : (s : World) (x : WorldStep) → RunsAreOfTrials s → RunsAreOfTrials (refused_in s x)
  of_refused s (client_calls q c) all = all
  of_refused s (worker_does w q t Claim) all = all
  of_refused s (worker_does w q t (Slice n)) all =
      (All-set (IsHandOf s.desks) s.hands w _ (by (slice_get s.hands w) refl) all.0, all.1)
    where
      out : (h : Hand) → IsHandOf s.desks h → IsHandOf s.desks (option_map out_of_memory h)
      out None h = tt
      out (Some r) h = h

      by : (o : Option Hand) → slice_get s.hands w ≡ o → IsHandOf s.desks (option_map out_of_memory (option_flatten o))
      by None e = tt
      by (Some h) e = out h (all_at (IsHandOf s.desks) s.hands w h e all.0)
  of_refused s (worker_does w q t Park) all = all
  of_refused s (worker_does w q t TakeUp) all = all
  of_refused s (worker_does w q t (Steal v)) all = all
  of_refused s (worker_does w q t File) all = all
  of_refused s (worker_does w q t HandBack) all = all

  pub of_answer : (s k : World) (x : WorldStep) (a : Option Response) → RespondsTo p s x a k → RunsAreOfTrials s
      → RunsAreOfTrials k
  of_answer s k x (Some a) to all = subst (λ (r : World × Response). RunsAreOfTrials r.0) to (of_step s x all)
  of_answer s k x None to all = subst RunsAreOfTrials (sym to.1) (of_refused s x all)

  of_from : (s s' : World) (xs : List WorldStep) (ans : List (Option Response)) → RespondsInTurn p s xs ans s'
      → RunsAreOfTrials s → RunsAreOfTrials s'
  of_from s s' [] [] to all = subst RunsAreOfTrials (sym to) all
  of_from s s' [] (a ∷ ans) to all = absurd to
  of_from s s' (x ∷ xs) [] to all = absurd to
  of_from s s' (x ∷ xs) (a ∷ ans) to all = of_from to.0 s' xs ans to.2 (of_answer s to.0 x a to.1 all)

-- ---- a new world

all_same : {X : Type 0} (P : X → Type 0) (n : ℕ) (x : X) → P x → All P (replicate n x)
all_same P zero x h = λ k d within. absurd (omega arith)
all_same P (suc n) x h = All-cons P x (replicate n x) h (all_same P n x h)

pub of_trials : JobsAmongWorkers
of_trials p n xs ans s to =
    let none : All (IsOfTrial []) [] = λ k d within. absurd (omega arith) in
    of_from p (new_world n) s xs ans to (all_same (IsHandOf []) n None tt, all_same (All (IsOfTrial [])) n [] none)

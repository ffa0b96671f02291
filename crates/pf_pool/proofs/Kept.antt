-- Worlds stay sound.
use Rattle.std.proofs.Common.{◌≡◌, ℕ, Bool, true, false, List, [], ◌∷◌, length, Option, Some, None, refl, sym, ◌∙◌, ap}
use Rattle.std.proofs.Common.{subst, arith}
use Rattle.std.specs.Prelude.{Ok, if◌then◌else◌, All, IfSome, slice_get, slice_set, replicate}
use Rattle.std.specs.declared.alloc.Global.{Global}
use Rattle.std.specs.declared.sync.Arc.{Arc}
use Rattle.std.proofs.lemmas.Bool.Decides.{nat_tests}
use Rattle.std.proofs.lemmas.List.{length-set, length-replicate}
use Rattle.std.proofs.lemmas.List.Elements.{All-nil, All-head, All-tail, All-push, All-replicate, All-set}
use Rattle.pf_errors.specs.declared.code.Code.TheVariants as code
use Rattle.pf_model.specs.Shrinking.{nothing_fails}
use Rattle.pf_request.specs.Job.{Job}
use Rattle.pf_desks.specs.Desk.{faulty, Desk, Trial, held_at}
use Rattle.pf_desks.specs.Jobs.{KeepsAllTickets}
use Rattle.pf_desks.specs.Work.{DeskWork, claim, hand_back, is_queued, after_claim, claim_step, hand_back_step}
use Rattle.pf_desks.specs.Work.{worker_step}
use Rattle.pf_desks.specs.Desks.{Desks, Answer, desk_at, put_desk, worked}
use Rattle.pf_desks.proofs.Jobs.{tickets_placed, tickets_worked}
use Rattle.pf_sched.specs.Views.{FinishedView}
use Rattle.pf_book.specs.Answers.{ClaimsAt, SimulatesHandBack}
use Rattle.pf_book.specs.Queued.{job_at}
use Rattle.pf_book.specs.Trials.{JobAt}
use Rattle.pf_book.proofs.Claims.{claimed_world, unclaimed_world}
use Rattle.pf_book.proofs.Worked.{is_waiting, queued_at}
use Rattle.pf_pool.proofs.Own.{own_job}
use Rattle.pf_world.specs.World.{RunProfile, ClaimedRun, Hand, Deque, World, new_world}
use Rattle.pf_world.specs.Chores.{Effect, new_run, is_run_of, from_deque, deque_effect}
use Rattle.pf_world.specs.Jobs.{IsOfTrial}
use Rattle.pf_world.proofs.Effects.{all_at}
use Rattle.pf_world.proofs.OfTrials.{IsHandOf, hands_kept, deques_kept, new_of}
use Rattle.pf_pool.specs.Deques.{Parks, TakesOldest}
use Rattle.pf_pool.specs.Hands.{HoldsSameTrial, TakesFinished}
use Rattle.pf_pool.specs.Sound.{IsSound}

-- some profile: that tickets stay depends on none
abbrev pub any_profile : RunProfile
any_profile = record {
  profile = record {
    reading = λ text. faulty code.NoModule;
    property = λ names text. None;
    meaning =
        λ j. nothing_fails;
  };
  events = λ j. 0;
}

pub nothing_lost : (w : Desks) → KeepsAllTickets w w
nothing_lost w = λ q t j h. h

-- what a worker of a sound world holds or has parked is of the jobs of trials
pub hand_of : (s : World) (w : ℕ) (h : Hand) → IsSound s → slice_get s.hands w ≡ Some h → IsHandOf s.desks h
hand_of s w h sound i = all_at (IsHandOf s.desks) s.hands w h i sound.jobs.0

pub deque_of : (s : World) (v : ℕ) (rs : Deque) → IsSound s → slice_get s.deques v ≡ Some rs
    → All (IsOfTrial s.desks) rs
deque_of s v rs sound i = all_at (All (IsOfTrial s.desks)) s.deques v rs i sound.jobs.1

module _ (s : World) (w' : Desks) (keeps : KeepsAllTickets s.desks w') (sound : IsSound s) where
  pub desks_sound : IsSound (record s { desks = w' })
  desks_sound = record {
    workers = sound.workers;
    jobs = (hands_kept s.desks w' keeps s.hands sound.jobs.0, deques_kept s.desks w' keeps s.deques sound.jobs.1);
  }

  pub hand_sound : (w : ℕ) (h : Hand) → IsHandOf w' h
      → IsSound (record { desks = w'; hands = slice_set s.hands w h; deques = s.deques })
  hand_sound w h own = record {
    workers = length-set s.hands w h ∙ sound.workers;
    jobs = (
      All-set (IsHandOf w') s.hands w h own (hands_kept s.desks w' keeps s.hands sound.jobs.0),
      deques_kept s.desks w' keeps s.deques sound.jobs.1,
    );
  }

  pub both_sound : (w v : ℕ) (h : Hand) (rs : Deque) → IsHandOf w' h → All (IsOfTrial w') rs
      → IsSound (record { desks = w'; hands = slice_set s.hands w h; deques = slice_set s.deques v rs })
  both_sound w v h rs own all = record {
    workers = length-set s.hands w h ∙ sound.workers ∙ sym (length-set s.deques v rs);
    jobs = (
      All-set (IsHandOf w') s.hands w h own (hands_kept s.desks w' keeps s.hands sound.jobs.0),
      All-set (All (IsOfTrial w')) s.deques v rs all (deques_kept s.desks w' keeps s.deques sound.jobs.1),
    );
  }

-- ---- a new world

pub new_sound : (n : ℕ) → IsSound (new_world n)
new_sound n = record {
  workers = length-replicate n None ∙ sym (length-replicate n []);
  jobs = (All-replicate (IsHandOf []) n None tt, All-replicate (All (IsOfTrial [])) n [] (All-nil (IsOfTrial [])));
}

-- ---- the work of workers at a desk keeps tickets

put_keeps : (w : Desks) (q : ℕ) (d' : Desk) (k : DeskWork) → worker_step any_profile.profile (desk_at q w) k ≡ Some d'
    → KeepsAllTickets w (put_desk q d' w)
put_keeps w q d' k done = λ r. tickets_placed r q d' w (tickets_worked any_profile.profile (desk_at q w) d' k done)

pub back_keeps : (w w' : Desks) (q t : ℕ) (b : Bool) → SimulatesHandBack w q t b w' → KeepsAllTickets w w'
back_keeps w w' q t b h = subst (KeepsAllTickets w) (ap (λ (x : Desks × Answer). x.0) h)
    (by (hand_back_step (desk_at q w) t) refl)
  where
    by : (o : Option Desk) → hand_back_step (desk_at q w) t ≡ o → KeepsAllTickets w (worked q w o).0
    by None e = nothing_lost w
    by (Some d) e = put_keeps w q d (hand_back t) e

module _ (w : Desks) (q t : ℕ) (job : Job) (waits : job_at (desk_at q w).trials t ≡ Some job) where
  abbrev d' : Desk
  d' = after_claim (desk_at q w) t

  queued : is_queued (held_at (desk_at q w).trials t) ≡ true
  queued = is_waiting (desk_at q w).trials t job waits

  claims : claim_step (desk_at q w) t ≡ Some d'
  claims = ap (λ (b : Bool). if b then Some d' else None) queued

  claimed_run : IsOfTrial (put_desk q d' w) (new_run q t job)
  claimed_run =
      let a = queued_at (held_at (desk_at q w).trials t) queued in
      let same : job ≡ a.trial.job =
      subst (λ (o : Option Trial). IfSome o (λ x. job ≡ x.job)) a.is
      (own_job (desk_at q w).trials t job job waits refl) in
      subst (λ (j : Job). IsOfTrial (put_desk q d' w) (new_run q t j)) (sym same)
      (new_of any_profile q t w a.trial d' a.is claims)

  -- a claim keeps tickets, and the run that begins is of the trial's job
  pub claim_keeps : (o : Option (Arc Job Global)) (w' : Desks) → ClaimsAt w q t (Ok o) w'
      → KeepsAllTickets w w' × IsOfTrial w' (new_run q t job)
  claim_keeps None w' h = absurd (cc (queued, (unclaimed_world q t w w' h).0))
  claim_keeps (Some a) w' h =
      subst (λ (k : Desks). KeepsAllTickets w k × IsOfTrial k (new_run q t job)) (sym (claimed_world q t w w' a h).1)
      (put_keeps w q d' (claim t) claims, claimed_run)

-- ---- the job of a run is its trial's

of_run : (q t : ℕ) (x : ClaimedRun) → is_run_of q t x ≡ true → (x.project ≡ q) × (x.ticket ≡ t)
of_run q t x h = (grind (arith, nat_tests), grind (arith, nat_tests))

pub job_of_run : (w : Desks) (q t : ℕ) (x : ClaimedRun) (j : Job) → IsOfTrial w x → is_run_of q t x ≡ true → x.job ≡ j
    → JobAt (desk_at q w).trials t j
job_of_run w q t x j own mine same =
    let e = of_run q t x mine in
    subst (λ (k : Job). JobAt (desk_at q w).trials t k) same
    (subst (λ (n : ℕ). JobAt (desk_at q w).trials n x.job) e.1
    (subst (λ (n : ℕ). JobAt (desk_at n w).trials x.ticket x.job) e.0 own.1))

-- what a worker takes from its hand to file is of its trial's job
pub job_taken : (s : World) (w q t : ℕ) (f : FinishedView) (hs' : List Hand) → IsSound s
    → TakesFinished w q t s.hands (Some f) hs'
    → JobAt (desk_at q s.desks).trials t f.job
job_taken s w q t f hs' sound taken = job_of_run s.desks q t taken.0 f.job (hand_of s w (Some taken.0) sound taken.1)
    taken.2.run taken.2.job

-- a run of the same trial is of its job too
pub same_trial : (w : Desks) (h h' : Hand) → HoldsSameTrial h h' → IsHandOf w h → IsHandOf w h'
same_trial w None h' same own = subst (IsHandOf w) (sym same) tt
same_trial w (Some r) None same own = absurd same
same_trial w (Some r) (Some r') same own = subst (IsOfTrial w) (sym same) own

-- a run that is parked or taken is of its trial's job
pub parked_runs : (w : Desks) (rs rs' : Deque) (h h' : Hand) → Parks rs h (Ok tt) rs' h' → IsHandOf w h
    → All (IsOfTrial w) rs → IsHandOf w h' × All (IsOfTrial w) rs'
parked_runs w rs rs' None h' k own all = (subst (IsHandOf w) (sym k.1) tt, subst (All (IsOfTrial w)) (sym k.0) all)
parked_runs w rs rs' (Some r) h' k own all = (
  subst (IsHandOf w) (sym k.1) tt,
  subst (All (IsOfTrial w)) (sym k.0) (All-push (IsOfTrial w) rs r all own),
)

pub taken_runs : (w : Desks) (q t : ℕ) (rs rs' : Deque) (r : ClaimedRun) → TakesOldest q t rs (Some r) rs'
    → All (IsOfTrial w) rs
    → IsOfTrial w r × All (IsOfTrial w) rs'
taken_runs w q t rs rs' r is all = by rs is all
  where
    by : (ks : Deque) → deque_effect q t ks ≡ Some (from_deque r rs') → All (IsOfTrial w) ks
        → IsOfTrial w r × All (IsOfTrial w) rs'
    by [] e k = absurd (cc)
    by (x ∷ xs) e k = on (is_run_of q t x) e
      where
        on : (b : Bool) → (if b then Some (from_deque x xs) else None) ≡ Some (from_deque r rs')
            → IsOfTrial w r × All (IsOfTrial w) rs'
        on false e = absurd (cc)
        on true e =
            let left : from_deque x xs ≡ from_deque r rs' = cc in
            let first : Some x ≡ Some r = ap (λ (a : Effect). a.hand) left in
            let rest : Some xs ≡ Some rs' = ap (λ (a : Effect). a.deque) left in
            let x_is : x ≡ r = cc in
            let xs_is : xs ≡ rs' = cc in (
              subst (IsOfTrial w) x_is (All-head (IsOfTrial w) x xs k),
              subst (All (IsOfTrial w)) xs_is (All-tail (IsOfTrial w) x xs k),
            )

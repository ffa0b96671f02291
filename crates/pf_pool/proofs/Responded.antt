-- A world answers a chore as what happens at its hand, its deque and its desk says.
use Rattle.std.proofs.Common.{◌≡◌, ◌<◌, ◌==◌, ℕ, Bool, true, false, List, [], ◌∷◌, ◌++◌, length, get_or, Option, Some}
use Rattle.std.proofs.Common.{None, refl, sym, ap, ◌∙◌, subst, arith, inl, inr}
use Rattle.std.specs.Prelude.{◌⊎◌, Result, Ok, Err, IsSome, if◌then◌else◌, nat_lt, slice_get, slice_set}
use Rattle.std.specs.Option.{option_flatten, option_map}
use Rattle.std.specs.declared.alloc.Global.{Global}
use Rattle.std.specs.declared.sync.Arc.{Arc}
use Rattle.std.proofs.lemmas.List.{set-get_or}
use Rattle.std.proofs.lemmas.Option.{get_or_from_slice_get}
use Rattle.std.proofs.lemmas.Bool.Decides.{nat_tests}
use Rattle.pf_errors.specs.declared.memory.NoMemory.{NoMemory}
use Rattle.pf_request.specs.Job.{Job}
use Rattle.pf_desks.specs.Desk as desk
use Rattle.pf_desks.specs.Desk.{Desk}
use Rattle.pf_desks.specs.Work.{after_claim, after_file, file_step, hand_back_step}
use Rattle.pf_desks.specs.Desks.{Desks, Answer, work_done, not_now, desk_at, put_desk, worked}
use Rattle.pf_sched.specs.Views.{FinishedView}
use Rattle.pf_book.specs.Answers as book
use Rattle.pf_book.specs.Answers.{ClaimsAt, SimulatesFile, SimulatesHandBack}
use Rattle.pf_book.specs.Profile as book_profile
use Rattle.pf_book.specs.Queued.{job_at}
use Rattle.pf_book.specs.Trials.{JobAt, IsStrayJob}
use Rattle.pf_book.specs.View.{mark_of}
use Rattle.pf_book.proofs.Claims.{claimed_world, unclaimed_world}
use Rattle.pf_book.proofs.Worked.{is_waiting}
use Rattle.pf_world.specs.World.{RunProfile, ClaimedRun, Hand, Deque, World}
use Rattle.pf_world.specs.Chores as chores
use Rattle.pf_world.specs.Chores.{answer, stray, Effect, MOST_PARKED, new_run, is_going, is_run_of, in_hand, onto_deque}
use Rattle.pf_world.specs.Chores.{claimed_as, hand_emptied, sliced, chore_effect}
use Rattle.pf_request.specs.declared.step.Chore.{Chore}
use Rattle.pf_request.specs.declared.step.Chore.TheVariants.{Claim, Slice, Park, TakeUp, Steal, File, HandBack}
use Rattle.pf_world.specs.Steps.{WorldStep, worker_does, deque_owner, is_theft_of_own, effect_among, with_effect}
use Rattle.pf_world.specs.Steps.{effect_of, take_step}
use Rattle.pf_world.specs.Memory.{MayTakeMemory, out_of_memory, refused_in, RespondsTo}
use Rattle.pf_pool.specs.declared.response.Response.{Response}
use Rattle.pf_pool.specs.declared.response.Response.TheVariants as response
use Rattle.pf_pool.specs.Deques.{Parks, TakesOldest}
use Rattle.pf_pool.specs.Hands.{held_of_worker, is_free, hand_holds, holds_going, SlicesHand, RunReached, TakesFinished}
use Rattle.pf_pool.specs.Hands.{TakesUpRun, take_effect}
use Rattle.pf_pool.specs.Profile.{IsRight, ForRight}
use Rattle.pf_pool.specs.Responses.{SimulatesStep, view_of_response, work_response}
use Rattle.pf_pool.proofs.Lifted.{deque_there, at_hand, no_worker, with_its_effect}
use Rattle.pf_pool.proofs.Done.{claim_busy, claim_unqueued, claim_queued, slice_none, slice_zero, slice_does, park_none}
use Rattle.pf_pool.proofs.Done.{park_full, park_does, file_not_held, file_going, file_does, back_none, back_does}
use Rattle.pf_pool.proofs.Taken.{takes_up, steals}

-- what was read and is written again changes nothing
pub set_got : {X : Type 0} (xs : List X) (i : ℕ) (x : X) → slice_get xs i ≡ Some x → slice_set xs i x ≡ xs
set_got xs i x h = ap (slice_set xs i) (sym (get_or_from_slice_get xs i x x h)) ∙ set-get_or xs i x

-- what is read of what is there
pub read_there : {X : Type 0} (xs : List X) (i : ℕ) (x y : X) → slice_get xs i ≡ Some x → y ≡ get_or xs i y → y ≡ x
read_there xs i x y h is = is ∙ get_or_from_slice_get xs i x y h

-- a hand in which nothing changed
pub same_hand : (s : World) (w : ℕ) (h : Hand) → slice_get s.hands w ≡ Some h
    → record s { hands = slice_set s.hands w h } ≡ s
same_hand s w h i = ap (λ (hs : List Hand). record s { hands = hs }) (set_got s.hands w h i)

-- a hand and a deque in which nothing changed
pub same_both : (s : World) (w : ℕ) (h h' : Hand) (rs rs' : Deque) → slice_get s.hands w ≡ Some h
    → slice_get s.deques w ≡ Some rs → h' ≡ h → rs' ≡ rs
    → ◌≡◌ {A = World} (record { desks = s.desks; hands = slice_set s.hands w h'; deques = slice_set s.deques w rs' }) s
same_both s w h h' rs rs' i j a b =
    let hands : slice_set s.hands w h' ≡ s.hands = ap (slice_set s.hands w) a ∙ set_got s.hands w h i in
    let deques : slice_set s.deques w rs' ≡ s.deques = ap (slice_set s.deques w) b ∙ set_got s.deques w rs j in
    (λ z. record { desks = s.desks; hands = hands z; deques = deques z })

-- a world that is the same as another answers as it does
pub seen : (s s0 s' : World) (x : WorldStep) (r : Result Response NoMemory) → s ≡ s0 → SimulatesStep s x r s'
    → SimulatesStep s0 x r s'
seen s s0 s' x r is h = subst (λ (k : World). SimulatesStep k x r s') is h

-- ---- what tests of a worker's hand show

pub free_so : (o : Option Hand) → is_free o ≡ true → o ≡ Some None
free_so None h = absurd (cc)
free_so (Some None) h = refl
free_so (Some (Some r)) h = absurd (cc)

pub held_so : (q t : ℕ) (o : Option Hand) → hand_holds q t (option_flatten o) ≡ true
    → (x : ClaimedRun) × (o ≡ Some (Some x)) × (hand_holds q t (Some x) ≡ true)
held_so q t None h = absurd (cc)
held_so q t (Some None) h = absurd (cc)
held_so q t (Some (Some x)) h = (x, refl, h)

pub going_so : (q t : ℕ) (o : Option Hand) → holds_going q t (option_flatten o) ≡ true
    → (x : ClaimedRun) × (o ≡ Some (Some x)) × (holds_going q t (Some x) ≡ true)
going_so q t None h = absurd (cc)
going_so q t (Some None) h = absurd (cc)
going_so q t (Some (Some x)) h = (x, refl, h)

-- ---- what can't be done now

module _ (s : World) (w q t : ℕ) (k : Chore) where
  pub responds_not_now : ((p : RunProfile) → effect_of p s w q t k ≡ None)
      → SimulatesStep s (worker_does w q t k) (Ok response.NotNow) s
  responds_not_now none p right = with_its_effect p s w q t k None (none p)

  pub responds_no_worker : slice_get s.hands w ≡ None → SimulatesStep s (worker_does w q t k) (Ok response.NotNow) s
  responds_no_worker h = responds_not_now (λ p. no_worker p s w q t k h)

  -- an allocation failed in a claim or a parking, which changed nothing
  pub responds_refused : (e : NoMemory) → MayTakeMemory k → refused_in s (worker_does w q t k) ≡ s
      → ((p : RunProfile) → (x : Effect) × (effect_of p s w q t k ≡ Some x))
      → SimulatesStep s (worker_does w q t k) (Err e) s
  responds_refused e may same some p right = ((may, subst IsSome (sym (some p).1) refl), sym same)

-- ---- at a hand and the worker's own deque

-- what a test says of what a worker holds it says of the hand
pub at_held : (T : Hand → Bool) (b : Bool) (hs : List Hand) (w : ℕ) (h : Hand) → slice_get hs w ≡ Some h
    → T (held_of_worker hs w) ≡ b → T h ≡ b
at_held T b hs w h i test = sym (ap (λ (o : Option Hand). T (option_flatten o)) i) ∙ test

module _ (s : World) (same : length s.hands ≡ length s.deques) (w q t : ℕ) (k : Chore)
    (other : is_theft_of_own w k ≡ false) (own : deque_owner w k ≡ w) where
  -- it can't be done with that hand, whatever the deque is
  not_with : (T : Hand → Type 0) → ((p : RunProfile) (h : Hand) (rs : Deque) → T h
      → chore_effect p q t k (desk_at q s.desks) h rs ≡ None)
      → ((h : Hand) → slice_get s.hands w ≡ Some h → T h) → SimulatesStep s (worker_does w q t k) (Ok response.NotNow) s
  not_with T none at = responds_not_now s w q t k (λ p. by p (slice_get s.hands w) refl)
    where
      by : (p : RunProfile) (o : Option Hand) → slice_get s.hands w ≡ o → effect_of p s w q t k ≡ None
      by p None i = no_worker p s w q t k i
      by p (Some h) i =
          let d = deque_there s w h same i in
          at_hand p s w q t k h d.0 None other i (subst (λ (v : ℕ). slice_get s.deques v ≡ Some d.0) (sym own) d.1)
          (none p h d.0 (at h i))

module _ (s : World) (same : length s.hands ≡ length s.deques) (w q t : ℕ) where
  pub slice_not : (n : ℕ) → holds_going q t (held_of_worker s.hands w) ≡ false
      → SimulatesStep s (worker_does w q t (Slice n)) (Ok response.NotNow) s
  slice_not n missing =
      not_with s same w q t (Slice n) refl refl (λ h. holds_going q t h ≡ false)
      (λ p h rs is. slice_none p q t (desk_at q s.desks) n h rs is)
      (λ h i. at_held (holds_going q t) false s.hands w h i missing)

  pub slice_no_turns : (n : ℕ) → nat_lt 0 n ≡ false
      → SimulatesStep s (worker_does w q t (Slice n)) (Ok response.NotNow) s
  slice_no_turns n missing =
      not_with s same w q t (Slice n) refl refl (λ h. Unit {0})
      (λ p h rs is. slice_zero p q t (desk_at q s.desks) n h rs missing) (λ h i. tt)

  pub park_not : holds_going q t (held_of_worker s.hands w) ≡ false
      → SimulatesStep s (worker_does w q t Park) (Ok response.NotNow) s
  park_not missing =
      not_with s same w q t Park refl refl (λ h. holds_going q t h ≡ false)
      (λ p h rs is. park_none p q t (desk_at q s.desks) h rs is)
      (λ h i. at_held (holds_going q t) false s.hands w h i missing)

  pub back_not : hand_holds q t (held_of_worker s.hands w) ≡ false
      → SimulatesStep s (worker_does w q t HandBack) (Ok response.NotNow) s
  back_not missing =
      not_with s same w q t HandBack refl refl (λ h. hand_holds q t h ≡ false)
      (λ p h rs is. back_none p q t (desk_at q s.desks) h rs is)
      (λ h i. at_held (hand_holds q t) false s.hands w h i missing)

  pub file_not : (hand_holds q t (held_of_worker s.hands w) ≡ false)
      ⊎ (holds_going q t (held_of_worker s.hands w) ≡ true)
      → SimulatesStep s (worker_does w q t File) (Ok response.NotNow) s
  file_not (inl missing) =
      not_with s same w q t File refl refl (λ h. hand_holds q t h ≡ false)
      (λ p h rs is. file_not_held p q t (desk_at q s.desks) h rs is)
      (λ h i. at_held (hand_holds q t) false s.hands w h i missing)
  file_not (inr goes) =
      not_with s same w q t File refl refl (λ h. holds_going q t h ≡ true)
      (λ p h rs is. file_going p q t (desk_at q s.desks) h rs is)
      (λ h i. at_held (holds_going q t) true s.hands w h i goes)

  pub claim_not_free : is_free (slice_get s.hands w) ≡ false
      → SimulatesStep s (worker_does w q t Claim) (Ok response.NotNow) s
  claim_not_free missing =
      not_with s same w q t Claim refl refl (λ h. is_free (Some h) ≡ false)
      (λ p h rs is. claim_busy p q t (desk_at q s.desks) h rs is)
      (λ h i. sym (ap is_free i) ∙ missing)

-- ---- a run is sliced, or an allocation failed in it

pub slice_responds : (s : World) (w q t n : ℕ) (h h' : Hand) (rs : Deque) (r : Result Response NoMemory)
    → slice_get s.hands w ≡ Some h
    → slice_get s.deques w ≡ Some rs → holds_going q t h ≡ true → nat_lt 0 n ≡ true → SlicesHand n h r h'
    → SimulatesStep s (worker_does w q t (Slice n)) r (record s { hands = slice_set s.hands w h' })
slice_responds s w q t n None h' rs r i j hand_holds some k p right = absurd (cc)
slice_responds s w q t n (Some x) h' rs (Ok r) i j hand_holds some k p right =
    with_its_effect p s w q t (Slice n) (Some (in_hand (sliced p n x)))
    (at_hand p s w q t (Slice n) (Some x) rs (Some (in_hand (sliced p n x))) refl i j
    (slice_does p q t (desk_at q s.desks) n x rs hand_holds some))
    ∙ (λ z. (record s { hands = slice_set s.hands w (sym (k.1 p right) z) }, sym k.0 z))
slice_responds s w q t n (Some x) h' rs (Err e) i j hand_holds some k p right =
    let does : effect_of p s w q t (Slice n) ≡ Some (in_hand (sliced p n x)) =
    at_hand p s w q t (Slice n) (Some x) rs (Some (in_hand (sliced p n x))) refl i j
    (slice_does p q t (desk_at q s.desks) n x rs hand_holds some) in (
      (tt, subst IsSome (sym does) refl),
      ap (λ (y : Hand). record s { hands = slice_set s.hands w y })
          (k p right ∙ ap (λ (y : Option Hand). option_map out_of_memory (option_flatten y)) (sym i)),
    )

-- ---- a run is parked, or there was no memory for it

pub park_responds : (s : World) (w q t : ℕ) (h h' : Hand) (rs rs' : Deque) → slice_get s.hands w ≡ Some h
    → slice_get s.deques w ≡ Some rs
    → holds_going q t h ≡ true → nat_lt (length rs) MOST_PARKED ≡ true → Parks rs h (Ok tt) rs' h'
    → SimulatesStep s (worker_does w q t Park) (Ok response.Done)
    (record { desks = s.desks; hands = slice_set s.hands w h'; deques = slice_set s.deques w rs' })
park_responds s w q t None h' rs rs' i j hand_holds room k p right = absurd (cc)
park_responds s w q t (Some r) h' rs rs' i j hand_holds room k p right =
    with_its_effect p s w q t Park (Some (onto_deque r rs))
    (at_hand p s w q t Park (Some r) rs (Some (onto_deque r rs)) refl i j
    (park_does p q t (desk_at q s.desks) r rs hand_holds room))
    ∙ (λ z. (
      record {
        desks = s.desks;
        hands = slice_set s.hands w (sym k.1 z);
        deques =
            slice_set s.deques w (sym k.0 z);
      },
      answer work_done,
    ))

pub park_refused : (s : World) (w q t : ℕ) (h : Hand) (rs : Deque) (e : NoMemory) → slice_get s.hands w ≡ Some h
    → slice_get s.deques w ≡ Some rs
    → holds_going q t h ≡ true → nat_lt (length rs) MOST_PARKED ≡ true
    → SimulatesStep s (worker_does w q t Park) (Err e) s
park_refused s w q t None rs e i j hand_holds room = absurd (cc)
park_refused s w q t (Some r) rs e i j hand_holds room =
    responds_refused s w q t Park e tt refl
    (λ p. (
      onto_deque r rs,
      at_hand p s w q t Park (Some r) rs (Some (onto_deque r rs)) refl i j
          (park_does p q t (desk_at q s.desks) r rs hand_holds room),
    ))

pub park_no_room : (s : World) (w q t : ℕ) (h : Hand) (rs : Deque) → slice_get s.hands w ≡ Some h
    → slice_get s.deques w ≡ Some rs
    → nat_lt (length rs) MOST_PARKED ≡ false → SimulatesStep s (worker_does w q t Park) (Ok response.NotNow) s
park_no_room s w q t h rs i j missing =
    responds_not_now s w q t Park (λ p. at_hand p s w q t Park h rs None refl i j
    (park_full p q t (desk_at q s.desks) h rs missing))

-- ---- a trial is claimed

module _ (s : World) (w q t : ℕ) (rs : Deque) (j : slice_get s.deques w ≡ Some rs) where
  module _ (i : slice_get s.hands w ≡ Some None) where
    pub claim_not_queued : job_at (desk_at q s.desks).trials t ≡ None
        → SimulatesStep s (worker_does w q t Claim) (Ok response.NotNow) s
    claim_not_queued none =
        responds_not_now s w q t Claim (λ p. at_hand p s w q t Claim None rs None refl i j
        (claim_unqueued p q t (desk_at q s.desks) rs none))

    module _ (job : Job) (waits : job_at (desk_at q s.desks).trials t ≡ Some job) where
      abbrev left : Effect
      left = claimed_as (after_claim (desk_at q s.desks) t) (new_run q t job)

      claims : (p : RunProfile) → effect_of p s w q t Claim ≡ Some left
      claims p = at_hand p s w q t Claim None rs (Some left) refl i j
          (claim_queued p q t (desk_at q s.desks) job rs waits)

      pub claim_refused : (e : NoMemory) → SimulatesStep s (worker_does w q t Claim) (Err e) s
      claim_refused e = responds_refused s w q t Claim e tt refl (λ p. (left, claims p))

      pub claim_responds : (o : Option (Arc Job Global)) (w' : Desks) → ClaimsAt s.desks q t (Ok o) w'
          → SimulatesStep s (worker_does w q t Claim) (Ok response.Done)
          (record { desks = w'; hands = slice_set s.hands w (Some (new_run q t job)); deques = s.deques })
      claim_responds None w' h p right = absurd
          (cc (is_waiting (desk_at q s.desks).trials t job waits, (unclaimed_world q t s.desks w' h).0))
      claim_responds (Some a) w' h p right =
          with_its_effect p s w q t Claim (Some left) (claims p)
          ∙ ap (λ (x : Desks). (
            record {
              desks = x;
              hands = slice_set s.hands w (Some (new_run q t job));
              deques =
                  s.deques;
            },
            answer work_done,
          ))
          (sym (claimed_world q t s.desks w' a h).1)

-- ---- a hand is emptied

module _ (s : World) (w v q : ℕ) where
  -- what the desk makes of it
  emptied : (o : Option Desk) (b : Bool) (w' : Desks)
      → ◌≡◌ {A = Desks × Answer} (worked q s.desks o) (w', book.work_answer b)
      → ◌≡◌ {A = World × chores.Response} (with_effect s w v q (Some (hand_emptied o)))
      (record { desks = w'; hands = slice_set s.hands w None; deques = s.deques }, work_response b)
  emptied (Some d) true w' h =
      ap (λ (x : Desks × Answer). (
        record { desks = x.0; hands = slice_set s.hands w None; deques = s.deques },
        answer work_done,
      )) h
  emptied (Some d) false w' h = let reported : work_done ≡ not_now = ap (λ (x : Desks × Answer). x.1) h in absurd (cc)
  emptied None false w' h =
      ap (λ (x : Desks × Answer). (record { desks = x.0; hands = slice_set s.hands w None; deques = s.deques }, stray))
      h
  emptied None true w' h = let reported : not_now ≡ work_done = ap (λ (x : Desks × Answer). x.1) h in absurd (cc)

module _ (s : World) (w q t : ℕ) (h : Hand) (rs : Deque) (i : slice_get s.hands w ≡ Some h)
    (j : slice_get s.deques w ≡ Some rs) where
  pub back_responds : (b : Bool) (r : Response) (w' : Desks) → hand_holds q t h ≡ true
      → view_of_response r ≡ work_response b → SimulatesHandBack s.desks q t b w'
      → SimulatesStep s (worker_does w q t HandBack) (Ok r)
      (record { desks = w'; hands = slice_set s.hands w None; deques = s.deques })
  back_responds b r w' hand_holds reported back p right =
      let o = hand_back_step (desk_at q s.desks) t in
      with_its_effect p s w q t HandBack (Some (hand_emptied o))
      (at_hand p s w q t HandBack h rs (Some (hand_emptied o)) refl i j
      (back_does p q t (desk_at q s.desks) h rs hand_holds))
      ∙ emptied s w w q o b w' back
      ∙ ap (λ (x : chores.Response). (record { desks = w'; hands = slice_set s.hands w None; deques = s.deques }, x))
      (sym reported)

-- what is filed is of the trial's job: so it is stray only if the trial isn't running
filed : (q t : ℕ) (w w' : Desks) (f : FinishedView) (b : Bool) → JobAt (desk_at q w).trials t f.job
    → SimulatesFile w q t f b w'
    → (p : desk.Profile) → book_profile.IsRight p
    → ◌≡◌ {A = Desks × Answer} (worked q w (file_step p (desk_at q w) t (mark_of f.result))) (w', book.work_answer b)
filed q t w w' f true own h p right = h p right
filed q t w w' f false own h p right = by h.0
  where
    by : IsStrayJob (desk_at q w).trials t f.job
        → ◌≡◌ {A = Desks × Answer} (worked q w (file_step p (desk_at q w) t (mark_of f.result))) (w', not_now)
    by (inl rests) =
        ap (λ (c : Bool). worked q w (if c then Some (after_file p (desk_at q w) t (mark_of f.result)) else None)) rests
        ∙ ap (λ (x : Desks). (x, not_now)) (sym h.1)
    by (inr another) = absurd (another own)

module _ (s : World) (w q t : ℕ) (rs : Deque) (j : slice_get s.deques w ≡ Some rs) where
  pub file_responds : (f : FinishedView) (b : Bool) (r : Response) (hs' : List Hand) (w' : Desks)
      → TakesFinished w q t s.hands (Some f) hs'
      → JobAt (desk_at q s.desks).trials t f.job → view_of_response r ≡ work_response b
      → SimulatesFile s.desks q t f b w'
      → SimulatesStep s (worker_does w q t File) (Ok r) (record { desks = w'; hands = hs'; deques = s.deques })
  file_responds f b r hs' w' taken own reported files p right =
      let x = taken.0 in
      let o = file_step p.profile (desk_at q s.desks) t (mark_of f.result) in
      with_its_effect p s w q t File (Some (hand_emptied o))
      (at_hand p s w q t File (Some x) rs (Some (hand_emptied o)) refl taken.1 j
      (file_does p q t (desk_at q s.desks) x rs (mark_of f.result) taken.2.run taken.2.progress))
      ∙ emptied s w w q o b w' (filed q t s.desks w' f b own files p.profile right.desks)
      ∙ (λ z. (record { desks = w'; hands = sym taken.3 z; deques = s.deques }, sym reported z))

-- ---- a run is taken from a deque

pub takes_seen : (s s0 s' : World) (w v q t : ℕ) (r : Response) → s ≡ s0 → TakesUpRun w v q t s r s'
    → TakesUpRun w v q t s0 r s'
takes_seen s s0 s' w v q t r is h = subst (λ (k : World). TakesUpRun w v q t k r s') is h

module _ (s : World) (w v q t : ℕ) (rs rs' : Deque) where
  pub takes_none : slice_get s.hands w ≡ Some None → slice_get s.deques v ≡ Some rs → TakesOldest q t rs None rs'
      → TakesUpRun w v q t s response.NotNow (record s { deques = slice_set s.deques v rs' })
  takes_none i j k =
      (λ z. with_effect s w v q (take_effect q t (i z) (j z)))
      ∙ ap (λ (o : Option Effect). with_effect s w v q o) k.0
      ∙ ap (λ (ks : List Deque). (record s { deques = ks }, answer not_now))
      (sym (ap (slice_set s.deques v) k.1 ∙ set_got s.deques v rs j))

  pub takes_some : (r : ClaimedRun) → slice_get s.hands w ≡ Some None → slice_get s.deques v ≡ Some rs
      → TakesOldest q t rs (Some r) rs'
      → TakesUpRun w v q t s response.Done (record {
        desks = s.desks;
        hands = slice_set s.hands w (Some r);
        deques =
            slice_set s.deques v rs';
      })
  takes_some r i j k =
      (λ z. with_effect s w v q (take_effect q t (i z) (j z))) ∙ ap (λ (o : Option Effect). with_effect s w v q o) k

module _ (s s' : World) (w v q t : ℕ) (r : Response) (takes : TakesUpRun w v q t s r s') where
  pub take_up_responds : v ≡ w → SimulatesStep s (worker_does w q t TakeUp) (Ok r) s'
  take_up_responds own p right =
      ap (λ (o : Option Effect). with_effect s w w q o)
      (takes_up p s.desks q t (slice_get s.hands w) (slice_get s.deques w))
      ∙ subst (λ (u : ℕ). TakesUpRun w u q t s r s') own takes

  pub steal_responds : (v == w) ≡ false → SimulatesStep s (worker_does w q t (Steal v)) (Ok r) s'
  steal_responds other p right =
      ap (λ (b : Bool). with_effect s w v q (if b then None
      else effect_among p s.desks q t (Steal v) (slice_get s.hands w) (slice_get s.deques v))) other
      ∙ ap (λ (o : Option Effect). with_effect s w v q o)
      (steals p s.desks q t v (slice_get s.hands w) (slice_get s.deques v))
      ∙ takes

pub steal_own : (s : World) (w v q t : ℕ) → (v == w) ≡ true
    → SimulatesStep s (worker_does w q t (Steal v)) (Ok response.NotNow) s
steal_own s w v q t own =
    responds_not_now s w q t (Steal v) (λ p. ap (λ (b : Bool). if b then None
    else effect_among p s.desks q t (Steal v) (slice_get s.hands w) (slice_get s.deques v)) own)

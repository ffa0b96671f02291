-- What a slice makes of a run, and a deque of a run.
use Rattle.std.proofs.Common.{◌≡◌, ◌≤◌, ◌<◌, ◌+◌, ℕ, Bool, true, false, Option, Some, None, refl, sym, ap, ◌∙◌, subst}
use Rattle.std.proofs.Common.{arith, inl, inr}
use Rattle.std.specs.Prelude.{◌⊎◌, if◌then◌else◌, MatchBool, nat_lt, not}
use Rattle.std.proofs.lemmas.Bool.Decides.{nat_tests}
use Rattle.pf_model.specs.Shrinking.{Result, IsResult}
use Rattle.pf_request.specs.Job.{Job}
use Rattle.pf_desks.specs.declared.mark.FileMark.{FileMark}
use Rattle.pf_desks.specs.declared.mark.FileMark.TheVariants.{Whole}
use Rattle.pf_sched.specs.Events.{HasEvents}
use Rattle.pf_sched.specs.Views.{ParkedView, FinishedView, without_memory}
use Rattle.pf_sched.specs.declared.slice.Slice.TheVariants.{More, Done}
use Rattle.pf_sched.specs.Slices.{GoesPast, EndsBy, SimulatesSlice}
use Rattle.pf_book.specs.View.{mark_of}
use Rattle.pf_book.proofs.Marks.{result_whole}
use Rattle.pf_world.specs.World.{RunProfile, RunProgress, going, over, ClaimedRun}
use Rattle.pf_world.specs.Chores.{is_going, progress_after, sliced}
use Rattle.pf_world.specs.Memory.{out_of_memory}
use Rattle.pf_pool.specs.declared.claimed_run.RunProgress as code
use Rattle.pf_pool.specs.declared.claimed_run.RunProgress.TheVariants.{Going, Over}
use Rattle.pf_pool.specs.declared.claimed_run.ClaimedRun.TheInside.{Inside}
use Rattle.pf_pool.specs.Profile.{IsRight, ForRight}
use Rattle.pf_pool.specs.Runs.{Slices, is_memory, is_out_of_memory, job_of_progress, progress_in, run_in}

-- ---- marks

-- what isn't whole ran out of memory
pub reported_memory : (b : Bool) (j : Job) (r : Result) → MatchBool b (IsResult j.asked r) (r ≡ without_memory)
    → not b ≡ is_memory (mark_of r)
reported_memory true j r h = sym (ap is_memory (result_whole j.asked r h))
reported_memory false j r h = sym (ap (λ (x : Result). is_memory (mark_of x)) h)

-- ---- slices

abbrev run : (project ticket : ℕ) → Job → RunProgress → ClaimedRun
run q t j g = record { project = q; ticket = t; job = j; progress = g }

module _ (q t : ℕ) (j : Job) (k n : ℕ) where
  -- it has more events
  pub sliced_more : (i : Job) (at : ℕ) → i ≡ j → at ≡ k + n → GoesPast j (k + n)
      → Slices (run q t j (going k)) n (run q t i (going at))
  sliced_more i at same is past = inl (λ p right. goes p right)
    where
      goes : (p : RunProfile) → IsRight p → run q t i (going at) ≡ sliced p n (run q t j (going k))
      goes p right =
          let more : nat_lt (k + n) (p.events j.asked) ≡ true =
          grind (arith, nat_tests, right.events j.asked past.0 past.1, past.2) in
          (λ x. run q t (same x) (going (is x)))
          ∙ sym (ap (λ (b : Bool). run q t j (if b then going (k + n) else over Whole)) more)

  -- it is over, whole or out of memory
  pub sliced_over : (f : FinishedView) → f.job ≡ j → EndsBy j (k + n) f.result ⊎ (f.result ≡ without_memory)
      → Slices (run q t j (going k)) n (run q t f.job (over (mark_of f.result)))
  sliced_over f same (inr out) =
      inr ((λ x. run q t (same x) (over (mark_of f.result))) ∙ ap (λ (r : Result). run q t j (over (mark_of r))) out)
  sliced_over f same (inl ends) = inl (λ p right. goes p right)
    where
      goes : (p : RunProfile) → IsRight p → run q t f.job (over (mark_of f.result)) ≡ sliced p n (run q t j (going k))
      goes p right =
          let no_more : nat_lt (k + n) (p.events j.asked) ≡ false =
          grind (arith, nat_tests, right.events j.asked ends.1.0 ends.1.1, ends.1.2) in
          (λ x. run q t (same x) (over (mark_of f.result)))
          ∙ ap (λ (m : FileMark). run q t j (over m)) (result_whole j.asked f.result ends.0)
          ∙ sym (ap (λ (b : Bool). run q t j (if b then going (k + n) else over Whole)) no_more)

-- the same of the code's own runs
module _ (r : Inside) (self : ClaimedRun) (n : ℕ) (g : code.RunProgress) (seen : run_in r ≡ self) where
  abbrev after : ClaimedRun
  after = run_in (record { project = r.project; ticket = r.ticket; progress = g })

  between : (k m : code.RunProgress) → r.progress ≡ k → g ≡ m
      → Slices (run r.project r.ticket (job_of_progress k) (progress_in k)) n
      (run r.project r.ticket (job_of_progress m) (progress_in m)) → Slices self n after
  between k m was is h =
      subst (λ (x : ClaimedRun). Slices x n after)
      (ap (λ (x : code.RunProgress). run r.project r.ticket (job_of_progress x) (progress_in x)) (sym was) ∙ seen)
      (subst (λ (x : ClaimedRun). Slices (run r.project r.ticket (job_of_progress k) (progress_in k)) n x)
      (ap (λ (x : code.RunProgress). run r.project r.ticket (job_of_progress x) (progress_in x)) (sym is)) h)

  pub after_more : (p p' : ParkedView) → r.progress ≡ Going p → g ≡ Going p' → SimulatesSlice p n (More p')
      → Slices self n after
  after_more p p' was is h =
      between (Going p) (Going p') was is
      (sliced_more r.project r.ticket p.job p.at n p'.job p'.at (ap (λ (x : ParkedView). x.job) h.0)
      (ap (λ (x : ParkedView). x.at) h.0) h.1)

  pub after_done : (p : ParkedView) (f : FinishedView) → r.progress ≡ Going p → g ≡ Over f → SimulatesSlice p n (Done f)
      → Slices self n after
  after_done p f was is h = between (Going p) (Over f) was is (sliced_over r.project r.ticket p.job p.at n f h.0 h.1)

  pub after_over : (f : FinishedView) → r.progress ≡ Over f → g ≡ Over f → Slices self n after
  after_over f was is = between (Over f) (Over f) was is (inl (λ p right. refl))

-- ---- what is answered to a slice

-- a run that wasn't over isn't out of memory after a slice in which no allocation failed
sliced_whole : (p : RunProfile) (n : ℕ) (r : ClaimedRun) → is_going r.progress ≡ true
    → is_out_of_memory (sliced p n r).progress ≡ false
sliced_whole p n r h = by r.progress h
  where
    on : (b : Bool) (m : ℕ) → is_out_of_memory (if b then going m else over Whole) ≡ false
    on true m = refl
    on false m = refl

    by : (g : RunProgress) → is_going g ≡ true → is_out_of_memory (progress_after p n r.job.asked g) ≡ false
    by (going k) h = on (nat_lt (k + n) (p.events r.job.asked)) (k + n)
    by (over m) h = absurd (cc)

module _ (r r' : ClaimedRun) (n : ℕ) where
  pub hand_sliced : is_out_of_memory r'.progress ≡ false → Slices r n r'
      → ForRight (λ p. ◌≡◌ {A = Option ClaimedRun} (Some r') (Some (sliced p n r)))
  hand_sliced h (inl is) = λ p right. ap (λ (x : ClaimedRun). Some x) (is p right)
  hand_sliced h (inr out) = absurd (cc (ap (λ (x : ClaimedRun). is_out_of_memory x.progress) out, h))

  pub hand_refused : is_going r.progress ≡ true → is_out_of_memory r'.progress ≡ true → Slices r n r'
      → ForRight (λ p. ◌≡◌ {A = Option ClaimedRun} (Some r') (Some (out_of_memory r)))
  hand_refused goes h (inr out) = λ p right. ap (λ (x : ClaimedRun). Some x) out
  hand_refused goes h (inl is) = λ p right. absurd
      (cc (ap (λ (x : ClaimedRun). is_out_of_memory x.progress) (is p right), sliced_whole p n r goes, h))

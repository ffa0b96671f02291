-- What claimed runs of the code stand for, and what a slice makes of one.
use Rattle.std.specs.Prelude.{◌≡◌, ◌⊎◌, ℕ, Bool, true, false}
use Rattle.pf_request.specs.Job.{Job}
use Rattle.pf_desks.specs.declared.mark.FileMark.{FileMark}
use Rattle.pf_desks.specs.declared.mark.FileMark.TheVariants.{Whole, Memory}
use Rattle.pf_book.specs.View.{mark_of}
use Rattle.pf_world.specs.World as worlds
use Rattle.pf_world.specs.World.{ClaimedRun, going, over}
use Rattle.pf_world.specs.Chores.{sliced}
use Rattle.pf_world.specs.Memory.{out_of_memory}
use Rattle.pf_pool.specs.declared.claimed_run.RunProgress.{RunProgress}
use Rattle.pf_pool.specs.declared.claimed_run.RunProgress.TheVariants.{Going, Over}
use Rattle.pf_pool.specs.declared.claimed_run.ClaimedRun.TheInside as run
use Rattle.pf_pool.specs.Profile.{ForRight}

-- the job of a run, and how far it is: what is over bears the mark of its result
abbrev pub job_of_progress : RunProgress → Job
job_of_progress (Going p) = p.job
job_of_progress (Over f) = f.job

abbrev pub progress_in : RunProgress → worlds.RunProgress
progress_in (Going p) = going p.at
progress_in (Over f) = over (mark_of f.result)

abbrev pub run_in : run.Inside → ClaimedRun
run_in r = record {
  project = r.project;
  ticket = r.ticket;
  job = job_of_progress r.progress;
  progress =
      progress_in r.progress;
}

-- an allocation failed in it
abbrev pub is_memory : FileMark → Bool
is_memory Whole = false
is_memory Memory = true

abbrev pub is_out_of_memory : worlds.RunProgress → Bool
is_out_of_memory (going n) = false
is_out_of_memory (over m) = is_memory m

-- a run of the same job of the same trial: they differ in how far they are alone
abbrev pub IsOfSameTrial : ClaimedRun → ClaimedRun → Type 0
IsOfSameTrial r r' = r' ≡ record r { progress = r'.progress }

-- a run after a slice, or after one in which an allocation failed
abbrev pub Slices : ClaimedRun → (turns : ℕ) → ClaimedRun → Type 0
Slices r n r' = ForRight (λ p. r' ≡ sliced p n r) ⊎ (r' ≡ out_of_memory r)

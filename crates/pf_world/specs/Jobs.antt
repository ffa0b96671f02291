-- Runs are of the jobs of their trials.
use Rattle.std.specs.Prelude.{ℕ, List, Option, All, IfSome}
use Rattle.pf_desks.specs.Jobs.{IsTicketOf}
use Rattle.pf_desks.specs.Desks.{Desks, desk_at}
use Rattle.pf_world.specs.World.{RunProfile, ClaimedRun, World, new_world}
use Rattle.pf_world.specs.Chores.{Response}
use Rattle.pf_world.specs.Steps.{WorldStep}
use Rattle.pf_world.specs.Memory.{RespondsInTurn}

-- the ticket of a run was given for the run's job: its trial, if it is held yet, is of that job
abbrev pub IsOfTrial : Desks → ClaimedRun → Type 0
IsOfTrial w r = IsTicketOf (desk_at r.project w) r.ticket r.job

-- each run that a worker holds or has parked is of the job of its trial
abbrev pub RunsAreOfTrials : World → Type 0
RunsAreOfTrials s = All (λ h. IfSome h (IsOfTrial s.desks)) s.hands × All (All (IsOfTrial s.desks)) s.deques

-- whatever steps there are, and wherever allocations fail, the runs are of the jobs of their trials
abbrev pub JobsAmongWorkers : Type 0
JobsAmongWorkers =
    (p : RunProfile) (n : ℕ) (xs : List WorldStep) (ans : List (Option Response)) (s : World)
    → RespondsInTurn p (new_world n) xs ans s → RunsAreOfTrials s

-- Worlds: the desks of projects, and workers beside them who run trials, each with what it holds and what it parked.
use Rattle.std.specs.Prelude.{ℕ, List, [], Option, None, replicate}
use Rattle.pf_model.specs.Meaning as model
use Rattle.pf_request.specs.Job.{Job}
use Rattle.pf_desks.specs.Desk.{Profile}
use Rattle.pf_desks.specs.declared.mark.FileMark.{FileMark}
use Rattle.pf_desks.specs.Desks.{Desks}

-- the profile of the language, or what worlds ask of it: what desks ask; and how many events the run of a job has,
-- or of a job with runs its whole shrinking
pub record RunProfile : Type 0 where
  pub profile : Profile
  pub events : model.Job → ℕ

-- ---- what a world holds

-- how far a run is: it made n events and isn't over; or it is over, and a file of it bears a mark: it is whole, or an
-- allocation failed in it
pub data RunProgress : Type 0 where
  going : (made : ℕ) → RunProgress
  over : FileMark → RunProgress

-- the run of a trial that a worker claimed: the trial's project and ticket, its job as it was claimed, and how far the
-- run is
pub record ClaimedRun : Type 0 where
  pub project : ℕ
  pub ticket : ℕ
  pub job : Job
  pub progress : RunProgress

-- a worker holds a run, or it is free
abbrev pub Hand : Type 0
Hand = Option ClaimedRun

-- the runs that a worker parked, the oldest first
abbrev pub Deque : Type 0
Deque = List ClaimedRun

-- the desks of projects, and by worker its hand and its deque
pub record World : Type 0 where
  pub desks : Desks
  pub hands : List Hand
  pub deques : List Deque

-- the world of n workers in which no desk is open, and no worker holds a run or has parked one
abbrev pub new_world : (workers : ℕ) → World
new_world n = record { desks = []; hands = replicate n None; deques = replicate n [] }

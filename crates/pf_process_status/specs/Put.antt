-- Statuses of processes as they are put together.
use Rattle.std.specs.Prelude.{◌≡◌, ◌⊎◌, ◌<◌, ◌==◌, if◌then◌else◌, ℕ, true, List, Option, Some, None, length, slice_get}
use Rattle.pf_syntax.specs.Module.{Checked}
use Rattle.pf_model.specs.Configuration.{Configuration, is_alive, of}
use Rattle.pf_model.specs.Meaning.{Event}
use Rattle.pf_process_status.specs.Fates.{Began, HasEnded, LivesSo, who_ends}
use Rattle.pf_process_status.specs.Known.{checked_of}
use Rattle.pf_process_status.specs.declared.follow.Begun.{Begun}
use Rattle.pf_process_status.specs.declared.known.KnownRun.{KnownRun}
use Rattle.pf_process_status.specs.declared.standing.ProcessFate.{ProcessFate}
use Rattle.pf_process_status.specs.declared.standing.ProcessFate.TheVariants as fate
use Rattle.pf_process_status.specs.declared.standing.ProcessStatus.{ProcessStatus}

-- each of the first n processes has the function in whose call it began, and one that lives its fate
pub record AreStanding (m : Checked) (c : Configuration) (bs : List Begun) (n : ℕ)
    (xs : List ProcessStatus) : Type 0 where
  pub count : length xs ≡ n
  pub begun : (p : ℕ) (x : ProcessStatus) → slice_get xs p ≡ Some x
      → (b : Begun) × (slice_get bs p ≡ Some b) × (x.pid ≡ b.pid) × (x.begun ≡ b.function)
  pub fates : (p : ℕ) (x : ProcessStatus) → slice_get xs p ≡ Some x → is_alive (of c.core p).state ≡ true
      → LivesSo m (of c.core p).state x.fate

-- the same of the run that led to a configuration
pub record AreAtEnd (k : KnownRun) (d : Configuration) (xs : List ProcessStatus) : Type 0 where
  pub count : length xs ≡ length d.core.processes
  pub pids : (p : ℕ) (x : ProcessStatus) → slice_get xs p ≡ Some x → x.pid ≡ p
  pub begun : (p : ℕ) (x : ProcessStatus) → slice_get xs p ≡ Some x → Began k p x.begun
  pub fates : (p : ℕ) (x : ProcessStatus) → slice_get xs p ≡ Some x → is_alive (of d.core p).state ≡ true
      → LivesSo (checked_of k) (of d.core p).state x.fate

-- the status of a process was another, of the same pid and function, and the fates are so
abbrev pub IsStatusOf : (so : ProcessFate → ProcessFate → Type 0) → Option ProcessStatus → ProcessStatus → Type 0
IsStatusOf so o y = (x : ProcessStatus) × (o ≡ Some x) × (y.pid ≡ x.pid) × (y.begun ≡ x.begun) × so x.fate y.fate

-- statuses were these others, each of the same pid and function and with a fate that is so
pub record Are (so : ℕ → ProcessFate → ProcessFate → Type 0) (xs ys : List ProcessStatus) : Type 0 where
  pub count : length ys ≡ length xs
  pub each : (p : ℕ) (y : ProcessStatus) → slice_get ys p ≡ Some y → IsStatusOf (so p) (slice_get xs p) y

-- one process has this fate, and all others have the one that they had
abbrev pub IsPut : ℕ → ProcessFate → List ProcessStatus → List ProcessStatus → Type 0
IsPut p f = Are (λ q x y. y ≡ (if q == p then f else x))

-- no event below this number ended the process
abbrev pub NoneBelow : List Event → ℕ → ℕ → Type 0
NoneBelow es n p = (i : ℕ) (e : Event) → i < n → slice_get es i ≡ Some e → who_ends e.actor e.label ≡ Some p → ⊥

-- a process that an event below this number ended has the fate of one that ended, and all others have the one that they
-- had
abbrev pub ReportsEnds : List Event → ℕ → List ProcessStatus → List ProcessStatus → Type 0
ReportsEnds es n = Are (λ p x y. HasEnded es p y ⊎ ((y ≡ x) × NoneBelow es n p))

-- the fate is the same but for the point at which a process failed
abbrev pub IsAlike : ProcessFate → ProcessFate → Type 0
IsAlike (fate.Failed n x) (fate.Failed m y) = n ≡ m
IsAlike x y = y ≡ x

abbrev pub ArePlaced : List ProcessStatus → List ProcessStatus → Type 0
ArePlaced = Are (λ p x y. IsAlike x y)

-- the event in which a process failed, by its fate
abbrev pub failed_in : ProcessFate → Option ℕ
failed_in (fate.Failed n x) = Some n
failed_in x = None

abbrev pub failed_at : Option ProcessStatus → Option ℕ
failed_at None = None
failed_at (Some x) = failed_in x.fate

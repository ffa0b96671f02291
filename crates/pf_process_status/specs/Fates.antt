-- The status of each process of a run after its last event.
use Rattle.std.specs.Prelude.{◌≡◌, ◌⊎◌, if◌then◌else◌, ℕ, zero, suc, Bool, true, false, List, Option, Some, None}
use Rattle.std.specs.Prelude.{length, slice_get, take}
use Rattle.pf_terms.specs.Value.{Value}
use Rattle.pf_terms.specs.Fixed.{normal}
use Rattle.pf_syntax.specs.Module.{Checked}
use Rattle.pf_syntax.specs.declared.node.FunctionId.{FunctionId}
use Rattle.pf_model.specs.Channels.{Signal}
use Rattle.pf_model.specs.Configuration.{Configuration, is_alive, of}
use Rattle.pf_model.specs.Context.{ProcessState}
use Rattle.pf_model.specs.Deliveries.{woken}
use Rattle.pf_model.specs.Labels.{Label, delivers, ending_with, ends, spawns, spawns_watched}
use Rattle.pf_model.specs.Meaning.{Event}
use Rattle.pf_model.specs.Runs.{can_go, is_waiting}
use Rattle.pf_model.specs.declared.report.Actor.{Actor}
use Rattle.pf_model.specs.declared.report.Actor.TheVariants.{Process, Channel}
use Rattle.pf_stepper.specs.Points.{IsCalling, IsPointOf}
use Rattle.pf_stepper.specs.declared.point.Point.{Point}
use Rattle.pf_stepper.specs.declared.point.Point.TheVariants as point
use Rattle.pf_process_status.specs.Known.{Comes, checked_of, events_of}
use Rattle.pf_process_status.specs.declared.ends.ProcessEnd.{ProcessEnd}
use Rattle.pf_process_status.specs.declared.ends.ProcessEnd.TheVariants as end
use Rattle.pf_process_status.specs.declared.known.KnownRun.{KnownRun}
use Rattle.pf_process_status.specs.declared.standing.ProcessFate.{ProcessFate}
use Rattle.pf_process_status.specs.declared.standing.ProcessFate.TheVariants as fate
use Rattle.pf_process_status.specs.declared.standing.ProcessStatus.{ProcessStatus}

-- ---- ends

abbrev pub is_end : Label → Bool
is_end (ends r) = true
is_end l = false

abbrev pub is_struck : Label → Bool
is_struck (delivers s (ending_with r)) = true
is_struck l = false

-- the process that an event ends: of its own, or by the exit signal that is delivered to it
abbrev pub who_ends : Actor → Label → Option ℕ
who_ends (Process a) l = if is_end l then Some a else None
who_ends (Channel a b) l = if is_struck l then Some b else None

-- a process ended in an event of its own, with this reason
abbrev pub EndsItself : (p : ℕ) → (reason : Value) → Event → Type 0
EndsItself p r e = (e.actor ≡ Process p) × (e.label ≡ ends r)

-- the exit signal of one process ended another in an event
abbrev pub EndsAnother : (from p : ℕ) → Event → Type 0
EndsAnother a p e = (e.actor ≡ Channel a p) × ((s : Signal) × (r : Value) × (e.label ≡ delivers s (ending_with r)))

-- a process ended in an event, and so
abbrev pub EndsSo : (p : ℕ) → ProcessEnd → Event → Type 0
EndsSo p end.Normal e = EndsItself p normal e
EndsSo p end.Failed e = (r : Value) × EndsItself p r e × (r ≡ normal → ⊥)
EndsSo p (end.Killed a) e = EndsAnother a p e

-- in the event of this number
abbrev pub EndsAt : (es : List Event) (p : ℕ) → ProcessEnd → (n : ℕ) → Type 0
EndsAt es p x n = (e : Event) × (slice_get es n ≡ Some e) × EndsSo p x e

-- a process ended in one of these events, and how
abbrev pub HasEnded : (es : List Event) (p : ℕ) → ProcessFate → Type 0
HasEnded es p fate.Normal = (n : ℕ) × EndsAt es p end.Normal n
HasEnded es p (fate.Failed n x) = EndsAt es p end.Failed n
HasEnded es p (fate.Killed a) = (n : ℕ) × EndsAt es p (end.Killed a) n
HasEnded es p (fate.Waits x) = ⊥
HasEnded es p (fate.Goes x) = ⊥

-- ---- processes that live

-- a process in this state is at this point, in the tables of its module
abbrev pub IsAtPoint : Checked → ProcessState → Point → Type 0
IsAtPoint m s x = IsPointOf m.tables (woken s) x

-- a process in this state lives, and how
abbrev pub LivesSo : Checked → ProcessState → ProcessFate → Type 0
LivesSo m s fate.Normal = ⊥
LivesSo m s (fate.Failed n x) = ⊥
LivesSo m s (fate.Killed a) = ⊥
LivesSo m s (fate.Waits x) = (is_waiting s ≡ true) × IsAtPoint m s x
LivesSo m s (fate.Goes x) = (can_go s ≡ true) × IsAtPoint m s x

-- ---- begins

abbrev pub begun_in : Label → Option ℕ
begun_in (spawns linked p) = Some p
begun_in (spawns_watched p r) = Some p
begun_in l = None

-- a point that is no call of a function
abbrev pub IsNoCall : Point → Type 0
IsNoCall (point.Calls f) = ⊥
IsNoCall x = Unit {0}

-- a process in this state is at the call of this function; or it has ended, or is at a point that is no call
abbrev pub IsCalled : Checked → ProcessState → Option FunctionId → Type 0
IsCalled m s (Some f) = IsCalling (woken s) f
IsCalled m s None = (is_alive s ≡ false) ⊎ ((x : Point) × IsAtPoint m s x × IsNoCall x)

-- after the event that began a process it is at the call of this function, or at none
pub record BeganBy (k : KnownRun) (p : ℕ) (f : Option FunctionId) : Type 0 where
  pub number : ℕ
  pub event : Event
  pub is : slice_get (events_of k) number ≡ Some event
  pub begins : begun_in event.label ≡ Some p
  pub following : Configuration
  pub comes : Comes k (take (suc number) (events_of k)) following
  pub calls : IsCalled (checked_of k) (of following.core p).state f

-- the function in whose call a process began, if it began in one: the root is called at the start
abbrev pub Began : KnownRun → (p : ℕ) → Option FunctionId → Type 0
Began k p f = ((p ≡ zero) × (f ≡ Some k.root)) ⊎ BeganBy k p f

-- ---- all processes

-- the processes of a run that led to this configuration, by pid: in whose call each began, and how it ended or lives
pub record AreStandings (k : KnownRun) (d : Configuration) (xs : List ProcessStatus) : Type 0 where
  pub count : length xs ≡ length d.core.processes
  pub pids : (p : ℕ) (x : ProcessStatus) → slice_get xs p ≡ Some x → x.pid ≡ p
  pub begun : (p : ℕ) (x : ProcessStatus) → slice_get xs p ≡ Some x → Began k p x.begun
  pub fates : (p : ℕ) (x : ProcessStatus) → slice_get xs p ≡ Some x
      → HasEnded (events_of k) p x.fate ⊎ LivesSo (checked_of k) (of d.core p).state x.fate

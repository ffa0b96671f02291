-- What is noted while a run is made again to see where its processes failed.
use Rattle.std.specs.Prelude.{◌≡◌, ◌⊎◌, ◌++◌, ◌<◌, ◌==◌, if◌then◌else◌, ℕ, suc, List, [], ◌∷◌, Option, Some, None}
use Rattle.std.specs.Prelude.{length, slice_get}
use Rattle.pf_model.specs.Labels.{Label, raises}
use Rattle.pf_model.specs.Meaning.{Event}
use Rattle.pf_model.specs.declared.report.Actor.{Actor}
use Rattle.pf_model.specs.declared.report.Actor.TheVariants.{Process}
use Rattle.pf_stepper.specs.declared.point.Point.{Point}
use Rattle.pf_stepper.specs.declared.point.Point.TheVariants as p
use Rattle.pf_process_status.specs.Fates.{EndsAt, EndsSo}
use Rattle.pf_process_status.specs.Put.{IsPut, failed_at}
use Rattle.pf_process_status.specs.declared.ends.ProcessEnd.TheVariants as end
use Rattle.pf_process_status.specs.declared.failures.FailedProcess.{FailedProcess}
use Rattle.pf_process_status.specs.declared.failures.Notes.{Notes}
use Rattle.pf_process_status.specs.declared.standing.ProcessFate.TheVariants as fate
use Rattle.pf_process_status.specs.declared.standing.ProcessStatus.{ProcessStatus}

-- ---- who failed, and whose action raised

-- who fails in an event by itself, or that nobody does
abbrev pub Fails : Event → Option ℕ → Type 0
Fails e None = (q : ℕ) → EndsSo q end.Failed e → ⊥
Fails e (Some q) = EndsSo q end.Failed e

-- whose action raises in an event
abbrev pub raises_in : Actor → Label → Option ℕ
raises_in (Process q) (raises r) = Some q
raises_in x l = None

-- ---- where

-- the point of the last of these notes that is of a process, or else this one
abbrev pub last_or : Option Point → (pid : ℕ) → List FailedProcess → Option Point
last_or o q [] = o
last_or o q (f ∷ fs) = last_or (if f.pid == q then f.point else o) q fs

abbrev pub last_point : (pid : ℕ) → List FailedProcess → Option Point
last_point q fs = last_or None q fs

-- where a process failed whose last step was here: where its last action raised, if this is nowhere
abbrev pub failed_from : (raised : List FailedProcess) (pid : ℕ) → Option Point → Option Point
failed_from raised q (Some p.Nowhere) = last_point q raised
failed_from raised q o = o

-- ---- notes

abbrev pub failure : (pid event : ℕ) → Option Point → FailedProcess
failure q n at = record { pid = q; event = n; point = at }

-- an event of this number was made, whose last step was here: an action that raised is noted, or else a failure
abbrev pub IsNoted : (number : ℕ) → (raising failing : Option ℕ) → (at : Option Point) → (old new : Notes) → Type 0
IsNoted n (Some q) o at a b = (b.failed.items ≡ a.failed.items)
    × (b.raised.items ≡ a.raised.items ++ failure q n at ∷ [])
IsNoted n None (Some q) at a b = (b.failed.items ≡ a.failed.items ++ failure q n (failed_from a.raised.items q at) ∷ [])
    × (b.raised.items ≡ a.raised.items)
IsNoted n None None at a b = (b.failed.items ≡ a.failed.items) × (b.raised.items ≡ a.raised.items)

-- the same of this event, as it raises or fails
abbrev pub IsMade : (number : ℕ) → Event → (old new : Notes) → Type 0
IsMade n e a b = (o : Option ℕ) × (at : Option Point) × Fails e o × IsNoted n (raises_in e.actor e.label) o at a b

-- the first n events were made, one after another: of each it is noted whose action raised in it, or who failed
pub data AreMade (es : List Event) : (n : ℕ) → Notes → Type 0 where
  none_made : (s : Notes) → s.failed.items ≡ [] → s.raised.items ≡ [] → AreMade es 0 s
  one_more : (n : ℕ) (e : Event) (a b : Notes) → slice_get es n ≡ Some e → AreMade es n a → IsMade n e a b
      → AreMade es (suc n) b

-- of this failure there is a note
abbrev pub HasNote : List FailedProcess → (pid event : ℕ) → Type 0
HasNote fs q n = (i : ℕ) × (f : FailedProcess) × (slice_get fs i ≡ Some f) × (f.pid ≡ q) × (f.event ≡ n)

-- of this failure there is a note with this point
abbrev pub HasPoint : List FailedProcess → (pid event : ℕ) → Option Point → Type 0
HasPoint fs q n at = (i : ℕ) × (f : FailedProcess) × (slice_get fs i ≡ Some f) × (f.pid ≡ q) × (f.event ≡ n)
    × (f.point ≡ at)

-- of each of the first events in which a process failed there is a note
abbrev pub AreNoted : List Event → (n : ℕ) → List FailedProcess → Type 0
AreNoted es n fs = (q i : ℕ) → i < n → EndsAt es q end.Failed i → HasNote fs q i

-- the point of a note goes to the process that failed in its event by its status, and else nothing changes
abbrev pub PutsPoint : FailedProcess → (old new : List ProcessStatus) → Type 0
PutsPoint f xs ys =
    ((failed_at (slice_get xs f.pid) ≡ Some f.event) × IsPut f.pid (fate.Failed f.event f.point) xs ys)
    ⊎ ((failed_at (slice_get xs f.pid) ≡ Some f.event → ⊥) × (ys ≡ xs))

-- each process that failed by its status in an event of which there is a note has the point of such a note
abbrev pub TakePoints : List FailedProcess → List ProcessStatus → Type 0
TakePoints fs xs =
    (q : ℕ) (x : ProcessStatus) (n : ℕ) (at : Option Point) → slice_get xs q ≡ Some x → x.fate ≡ fate.Failed n at
    → HasNote fs q n → HasPoint fs q n at

-- the processes that failed in these events have the places that were noted as the events were made, of each failure
-- one
pub record ReportsPoints (es : List Event) (xs : List ProcessStatus) : Type 0 where
  pub notes : Notes
  pub made : AreMade es (length es) notes
  pub noted : AreNoted es (length es) notes.failed.items
  pub points : TakePoints notes.failed.items xs

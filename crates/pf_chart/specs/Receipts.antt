-- The mailboxes of a run while it is read, by column.
use Rattle.std.specs.Prelude.{◌≡◌, ◌<◌, true, ℕ, List, Some, slice_get}
use Rattle.std.specs.Global.{Vec}
use Rattle.pf_terms.specs.Value.{Value, same}
use Rattle.pf_model.specs.Labels.{takes}
use Rattle.pf_model.specs.Meaning.{Event}
use Rattle.pf_chart.specs.Origins.{IsColumnOf}
use Rattle.pf_chart.specs.Signals.{AreReceipts, BringsIn, marked}
use Rattle.pf_chart.specs.declared.columns.Column.{Column}
use Rattle.pf_chart.specs.declared.receipts.Mailboxes.{Mailboxes}

-- one of the first events, which brings a message to the process of this column
abbrev pub IsWaiting : List Event → List Column → (count column delivery : ℕ) → Type 0
IsWaiting es cs n i d = (v : Value) × (e : Event) × BringsIn es d v e × IsColumnOf cs (marked e.actor) i × (d < n)

-- an event brings a message that is this value
abbrev pub IsOfValue : List Event → Value → (delivery : ℕ) → Type 0
IsOfValue es v d = (m : Value) × (e : Event) × BringsIn es d m e × (same m v ≡ true)

-- the process of this column takes this value in an event
abbrev pub IsTakenBy : List Event → List Column → (column : ℕ) → Value → (event : ℕ) → Type 0
IsTakenBy es cs i v n = (e : Event) × (slice_get es n ≡ Some e) × (e.label ≡ takes v) × IsColumnOf cs (marked e.actor) i

-- each delivery in a mailbox is one that brought a message there
abbrev pub AreInMailboxes : List Event → List Column → (count : ℕ) → List (Vec ℕ) → Type 0
AreInMailboxes es cs n mailboxes =
    (i k d : ℕ) (q : Vec ℕ) → slice_get mailboxes i ≡ Some q → slice_get q.items k ≡ Some d → IsWaiting es cs n i d

-- what the first events of a run brought and took
pub record AreMailboxes (es : List Event) (cs : List Column) (count : ℕ) (m : Mailboxes) : Type 0 where
  pub waiting : AreInMailboxes es cs count m.waiting.items
  pub taken : AreReceipts es m.taken.items

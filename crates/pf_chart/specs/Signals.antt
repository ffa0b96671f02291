-- Which signals a chart shows: each as an arrow from the mark of the event that sends it to that of the event that
-- delivers it.
use Rattle.std.specs.Prelude.{◌≡◌, ◌<◌, ℕ, Bool, true, false, List, Option, Some, length, slice_get}
use Rattle.pf_terms.specs.Value.{Value, same}
use Rattle.pf_model.specs.Channels.{Signal, message}
use Rattle.pf_model.specs.Labels.{Suffix, delivers, takes, took_effect}
use Rattle.pf_model.specs.Meaning.{Event}
use Rattle.pf_model.specs.declared.report.Actor.{Actor}
use Rattle.pf_model.specs.declared.report.Actor.TheVariants as actors
use Rattle.pf_chart.specs.Processes.{Process}
use Rattle.pf_chart.specs.Traffic.{kind_of, reach_of}
use Rattle.pf_chart.specs.declared.arrows.Arrow.{Arrow}
use Rattle.pf_chart.specs.declared.arrows.ArrowEnd.{ArrowEnd}
use Rattle.pf_chart.specs.declared.arrows.ArrowEnd.TheVariants as reach
use Rattle.pf_chart.specs.declared.arrows.SignalKind.{SignalKind}
use Rattle.pf_chart.specs.declared.arrows.SignalKind.TheVariants as kind
use Rattle.pf_chart.specs.declared.arrows.ArrowStart.{ArrowStart}
use Rattle.pf_chart.specs.declared.arrows.ArrowStart.TheVariants as start

-- the process of a column has this pid
abbrev pub HasPid : List Process → (column pid : ℕ) → Type 0
HasPid ps i p = (q : Process) × (slice_get ps i ≡ Some q) × (q.pid ≡ p)

-- who has the mark of an event: who acts, or who receives a signal
abbrev pub marked : Actor → ℕ
marked (actors.Process p) = p
marked (actors.Channel p q) = q

-- an event delivers a signal with this suffix, which is of the kind of an arrow and goes between the processes of its
-- columns
pub record Delivers (ps : List Process) (a : Arrow) (suffix : Suffix) (e : Event) : Type 0 where
  pub from : ℕ
  pub to : ℕ
  pub signal : Signal
  pub actor : e.actor ≡ actors.Channel from to
  pub label : e.label ≡ delivers signal suffix
  pub kind : a.kind ≡ kind_of signal
  pub sender : HasPid ps a.from from
  pub receiver : HasPid ps a.to to

abbrev pub IsDeliveredIn : List Event → List Process → Arrow → Suffix → (event : ℕ) → Type 0
IsDeliveredIn es ps a x n = (e : Event) × (slice_get es n ≡ Some e) × Delivers ps a x e

-- an arrow begins at the mark of its sender's event, or above that of its delivery
abbrev pub BeginsIn : List Event → List Process → Arrow → ArrowStart → Type 0
BeginsIn es ps a (start.In n) = (e : Event) × (slice_get es n ≡ Some e) × HasPid ps a.from (marked e.actor)
BeginsIn es ps a (start.Above n) = (x : Suffix) × IsDeliveredIn es ps a x n

-- it ends at the mark of its delivery, if it does
abbrev pub EndsIn : List Event → List Process → Arrow → ArrowEnd → Type 0
EndsIn es ps a (reach.Taken n) = (x : Suffix) × IsDeliveredIn es ps a x n × (reach.Taken n ≡ reach_of x n)
EndsIn es ps a (reach.Dropped n) = (x : Suffix) × IsDeliveredIn es ps a x n × (reach.Dropped n ≡ reach_of x n)
EndsIn es ps a r = r ≡ reach.Nowhere

pub record IsArrow (es : List Event) (ps : List Process) (a : Arrow) : Type 0 where
  pub begins : BeginsIn es ps a a.start
  pub ends : EndsIn es ps a a.reach

-- the arrows of the first events: each is one, and each delivery between two processes has its own, which ends there
pub record AreArrows (es : List Event) (ps : List Process) (count : ℕ) (arrows : List Arrow) : Type 0 where
  pub each : (i : ℕ) (a : Arrow) → slice_get arrows i ≡ Some a → IsArrow es ps a
  pub all : (n : ℕ) (e : Event) (p q i j : ℕ) (signal : Signal) (x : Suffix) → n < count → slice_get es n ≡ Some e
      → e.actor ≡ actors.Channel p q → e.label ≡ delivers signal x → HasPid ps i p → HasPid ps j q
      → (k : ℕ) × (a : Arrow) × (slice_get arrows k ≡ Some a) × Delivers ps a x e × (a.reach ≡ reach_of x n)

-- an event brings this message into a mailbox
abbrev pub BringsIn : List Event → (event : ℕ) → Value → Event → Type 0
BringsIn es n v e = (slice_get es n ≡ Some e) × (e.label ≡ delivers (message v) took_effect)

-- an event takes a message that one before it brought: of the same value, to the same process
pub record IsReceipt (es : List Event) (delivery receipt : ℕ) : Type 0 where
  pub delivered : Event
  pub taken : Event
  pub brought : Value
  pub value : Value
  pub brings : BringsIn es delivery brought delivered
  pub takes : (slice_get es receipt ≡ Some taken) × (taken.label ≡ takes value)
  pub later : delivery < receipt
  pub one_value : same brought value ≡ true
  pub one_process : marked taken.actor ≡ marked delivered.actor

-- of each event the one that takes the message that it brings
abbrev pub AreReceipts : List Event → (receipts : List (Option ℕ)) → Type 0
AreReceipts es receipts = (d r : ℕ) → slice_get receipts d ≡ Some (Some r) → IsReceipt es d r

-- what a message that was delivered in this event becomes, where these are the events that take messages
abbrev pub reach_by : Option (Option ℕ) → ArrowEnd
reach_by (Some (Some n)) = reach.Received n
reach_by o = reach.Unread

abbrev pub receipt_at : (receipts : List (Option ℕ)) → (delivery : ℕ) → ArrowEnd
receipt_at receipts n = reach_by (slice_get receipts n)

-- a message that came into a mailbox goes on to the event that takes it, or to none; all other arrows stay
abbrev pub IsJoinedBy : (receipts : List (Option ℕ)) → SignalKind → ArrowEnd → (old new : Arrow) → Type 0
IsJoinedBy receipts kind.Message (reach.Taken n) a b =
    (chosen : Bool) × (b ≡ record a { reach = receipt_at receipts n; chosen = chosen })
IsJoinedBy receipts k r a b = b ≡ a

-- in a compact chart arrows are joined so
pub record AreJoined (es : List Event) (old new : List Arrow) : Type 0 where
  pub receipts : List (Option ℕ)
  pub are : AreReceipts es receipts
  pub count : length new ≡ length old
  pub each : (i : ℕ) (b : Arrow) → slice_get new i ≡ Some b
      → (a : Arrow) × (slice_get old i ≡ Some a) × IsJoinedBy receipts a.kind a.reach a b

abbrev pub IsManner : List Event → (compact : Bool) → (old new : List Arrow) → Type 0
IsManner es true xs ys = AreJoined es xs ys
IsManner es false xs ys = ys ≡ xs

-- The signals that are on their way while a chart is laid out, and the arrows that they have.
use Rattle.std.specs.Prelude.{⊤, ◌≡◌, ◌<◌, ◌==◌, if◌then◌else◌, Bool, false, ℕ, List, [], Option, Some, None, ◌++◌, ◌∷◌}
use Rattle.std.specs.Prelude.{length, option_map, option_to_list, slice_get}
use Rattle.std.specs.declared.cmp.Ordering.{Ordering}
use Rattle.std.specs.Ordering.{is_eq, nat_cmp, ordering_then}
use Rattle.std.specs.BTreeMap.{get}
use Rattle.pf_model.specs.Channels.{Signal, message, link, unlink, monitor, demonitor, down, exit}
use Rattle.pf_model.specs.Labels.{Suffix, no_process, dropped, took_effect, as_message, ending_with}
use Rattle.pf_chart.specs.declared.arrows.Arrow.{Arrow}
use Rattle.pf_chart.specs.declared.arrows.ArrowEnd.{ArrowEnd}
use Rattle.pf_chart.specs.declared.arrows.ArrowEnd.TheVariants as reach
use Rattle.pf_chart.specs.declared.arrows.SignalKind.{SignalKind}
use Rattle.pf_chart.specs.declared.arrows.SignalKind.TheVariants as kind
use Rattle.pf_chart.specs.declared.arrows.ArrowStart.TheVariants as start
use Rattle.pf_chart.specs.declared.on_way.OnWay.{OnWay}
use Rattle.pf_chart.specs.declared.traffic.Traffic.{Traffic}

-- ---- ways

-- from which column to which, and of which kind by its number
abbrev pub Way : Type 0
Way = ℕ × ℕ × ℕ

abbrev pub way_order : Way → Way → Ordering
way_order x y = ordering_then (ordering_then (nat_cmp x.0 y.0) (nat_cmp x.1 y.1)) (nat_cmp x.2 y.2)

abbrev pub signal_kind_number : SignalKind → ℕ
signal_kind_number kind.Message = 0
signal_kind_number kind.Link = 1
signal_kind_number kind.Unlink = 2
signal_kind_number kind.Monitor = 3
signal_kind_number kind.Demonitor = 4
signal_kind_number kind.Down = 5
signal_kind_number kind.Exit = 6

abbrev pub way_of : (from to : ℕ) → SignalKind → Way
way_of a b k = (a, b, signal_kind_number k)

abbrev pub is_way : Way → Way → Bool
is_way w v = is_eq (way_order w v)

-- the items of a queue; none where there is no queue
abbrev pub items_of : {Q : Type 0} → (Q → List ℕ) → Option Q → List ℕ
items_of items None = []
items_of items (Some q) = items q

-- the signals of a way that wait, the oldest first
abbrev pub waiting_signals : OnWay → Way → List ℕ
waiting_signals o w = items_of (λ q. q.items) (get way_order o.ways w)

-- of all other ways the same signals wait as before
abbrev pub KeepsOthers : Way → (old new : OnWay) → Type 0
KeepsOthers w o p = (v : Way) → is_way w v ≡ false → waiting_signals p v ≡ waiting_signals o v

abbrev pub kind_of : Signal → SignalKind
kind_of (message m) = kind.Message
kind_of link = kind.Link
kind_of unlink = kind.Unlink
kind_of (monitor r) = kind.Monitor
kind_of (demonitor r) = kind.Demonitor
kind_of (down r v) = kind.Down
kind_of (exit by_link v) = kind.Exit

-- ---- arrows

-- how a signal ends that is delivered in this event
abbrev pub reach_of : Suffix → (event : ℕ) → ArrowEnd
reach_of no_process n = reach.Dropped n
reach_of dropped n = reach.Dropped n
reach_of took_effect n = reach.Taken n
reach_of as_message n = reach.Taken n
reach_of (ending_with r) n = reach.Taken n

-- a signal that was sent in this event, and isn't delivered yet
abbrev pub open_arrow : (event from to : ℕ) → SignalKind → Arrow
open_arrow n a b k = record { kind = k; from = a; to = b; start = start.In n; reach = reach.Nowhere; chosen = false }

-- a signal that ended in this event, of which no event shows that it was sent
abbrev pub unreported : (event from to : ℕ) → SignalKind → ArrowEnd → Arrow
unreported n a b k r = record { kind = k; from = a; to = b; start = start.Above n; reach = r; chosen = false }

-- what goes back to the sender of a signal where there is no such process
abbrev pub answer_to : Signal → Suffix → Option SignalKind
answer_to link no_process = Some kind.Exit
answer_to (monitor r) no_process = Some kind.Down
answer_to signal suffix = None

-- an arrow of a signal that goes back in this event comes after these, if one does
abbrev pub with_return_arrow : (event from to : ℕ) → Option SignalKind → List Arrow → List Arrow
with_return_arrow n a b o xs = xs ++ option_to_list (option_map (open_arrow n a b) o)

-- the arrow of this number ends, and all others stay
abbrev pub IsEnded : (number : ℕ) → ArrowEnd → (old new : List Arrow) → Type 0
IsEnded i r xs ys =
    (length ys ≡ length xs)
    × ((j : ℕ) (y : Arrow) → slice_get ys j ≡ Some y
    → (x : Arrow) × (slice_get xs j ≡ Some x) × (y ≡ (if j == i then record x { reach = r } else x)))

abbrev pub Reaches : Option ℕ → (alone : Arrow) → (old new : List Arrow) → Type 0
Reaches None a xs ys = ys ≡ xs ++ a ∷ []
Reaches (Some i) a xs ys = IsEnded i a.reach xs ys

-- a signal of a way is delivered: the oldest that waits goes, and its arrow has this end; where none waits there is an
-- arrow for the delivery alone
abbrev pub IsDelivered : Way → (alone : Arrow) → (old new : Traffic) → Type 0
IsDelivered w a s t =
    (o : Option ℕ) × (waiting_signals s.on_way w ≡ option_to_list o ++ waiting_signals t.on_way w)
    × KeepsOthers w s.on_way t.on_way
    × Reaches o a s.arrows.items t.arrows.items

-- ---- what one event adds

-- the number of an arrow of this way that has not ended
abbrev pub IsOnWay : List Arrow → Way → (number : ℕ) → Type 0
IsOnWay xs w i = (x : Arrow) × (slice_get xs i ≡ Some x) × (way_of x.from x.to x.kind ≡ w) × (x.reach ≡ reach.Nowhere)

abbrev pub AllAbove : ℕ → List ℕ → Type 0
AllAbove i [] = ⊤
AllAbove i (j ∷ js) = (i < j) × AllAbove i js

-- the numbers of such arrows, which rise
abbrev pub AreOnWay : List Arrow → Way → (numbers : List ℕ) → Type 0
AreOnWay xs w [] = ⊤
AreOnWay xs w (i ∷ is) = IsOnWay xs w i × AllAbove i is × AreOnWay xs w is

-- the signals that wait are arrows of their ways
abbrev pub AreWaiting : Traffic → Type 0
AreWaiting t = (w : Way) → AreOnWay t.arrows.items w (waiting_signals t.on_way w)

-- a process of this column sends these in this event
abbrev pub AreSentIn : (event from : ℕ) → List Arrow → Type 0
AreSentIn n a [] = ⊤
AreSentIn n a (x ∷ xs) = ((b : ℕ) × (k : SignalKind) × (x ≡ open_arrow n a b k)) × AreSentIn n a xs

-- arrows of signals that it sends come after all others, and wait
pub record Sends (n a : ℕ) (s t : Traffic) : Type 0 where
  pub more : List Arrow
  pub after : t.arrows.items ≡ s.arrows.items ++ more
  pub are_sent : AreSentIn n a more
  pub wait : AreWaiting s → AreWaiting t

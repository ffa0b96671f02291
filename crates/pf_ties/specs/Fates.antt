-- What becomes of an exit signal, and of signals at a program's end.
use Rattle.std.specs.Prelude.{ℕ, Bool, true, false, not, ◌&&◌, ◌==◌, if◌then◌else◌}
use Rattle.pf_terms.specs.Value.{Value, same}
use Rattle.pf_terms.specs.Fixed.{normal, kill, killed}
use Rattle.pf_terms.specs.Term.{value_of}
use Rattle.pf_sorted.specs.Maps.{has}
use Rattle.pf_model.specs.Channels as channels
use Rattle.pf_model.specs.Signals.{signal_of}
use Rattle.pf_model.specs.declared.signal.Signal.{Signal}
use Rattle.pf_ties.specs.Ties.{ProcessTies}
use Rattle.pf_ties.specs.declared.fate.Fate.{Fate as Program}
use Rattle.pf_ties.specs.declared.fate.Fate.TheVariants as code

pub data Fate : Type 0 where
  drops : Fate
  -- it becomes a message of the mailbox
  becomes_message : Fate
  -- the receiver ends with this reason
  ends_with : Value → Fate

abbrev pub fate_of : Program → Fate
fate_of code.Drop = drops
fate_of code.Message = becomes_message
fate_of (code.End t) = ends_with (value_of t)

-- of an exit signal that isn't dropped for lack of a link
abbrev pub exit_fate : (traps_exits : Bool) → (from to : ℕ) → (by_link : Bool) → Value → Fate
exit_fate traps a b by_link r =
    if not by_link && same r kill then ends_with killed
    else (if traps then becomes_message
    else (if same r normal && not (a == b) then drops
    else ends_with r))

-- of an exit signal at a process with these ties
abbrev pub fate_at : ProcessTies → (from to : ℕ) → (by_link : Bool) → Value → Fate
fate_at t a b true r = if has a t.links then exit_fate t.traps_exits a b true r else drops
fate_at t a b false r = exit_fate t.traps_exits a b false r

-- a signal with its receiver, as the code holds it
abbrev pub sent_of : ℕ × Signal → ℕ × channels.Signal
sent_of s = (s.0, signal_of s.1)

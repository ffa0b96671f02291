-- Turns: all contractions of a process up to and with its next action.
use Rattle.std.specs.Prelude.{◌≡◌, ℕ, zero, suc, List, [], Option, Some, None, Result, Ok, Err}
use Rattle.pf_terms.specs.Value.{Value}
use Rattle.pf_syntax.specs.Tree.{Tree, Clauses, lit, receive}
use Rattle.pf_ops.specs.Reasons.{ending_reason}
use Rattle.pf_model.specs.Module.{Module}
use Rattle.pf_model.specs.Context.{Frame, fill, ProcessState, running, waiting, ending, returned, failed, End, Move}
use Rattle.pf_model.specs.Context.{goes_on, asks, awaits, returns, Moves}
use Rattle.pf_model.specs.Configuration.{Core, leaving, of, with_process, with_state}
use Rattle.pf_model.specs.Labels as label
use Rattle.pf_model.specs.Actions.{Acted, acted}
use Rattle.pf_model.specs.Receive.{Taken, selected}
use Rattle.pf_model.specs.Ends.{ended_by, reason_of}
use Rattle.pf_model.specs.Deliveries.{Deed, deed}

-- an action's value goes into its place, and a raise makes the process about to end
abbrev pub with_answer : List Frame → Result Value Value → ProcessState
with_answer fs (Ok v) = running (fill fs (lit v))
with_answer fs (Err e) = ending (ending_reason e)

abbrev pub after_act : ℕ → List Frame → Acted → Deed
after_act a fs x = deed (leaving (with_state x.left.core a (with_answer fs x.answer)) x.left.sent) x.label

-- the message is taken and the process goes on in the clause's body; where none fits it waits
abbrev pub received : Core → ℕ → List Frame → Clauses → Option Taken → Deed
received c a fs ks None = deed (leaving (with_state c a (waiting (fill fs (receive ks)))) []) label.waits
received c a fs ks (Some t) =
    deed (leaving (with_process c a (record (of c a) { state = running (fill fs t.body); mailbox = t.others })) [])
    (label.takes t.message)

abbrev pub ended_so : Core → ℕ → End → Deed
ended_so c a e = deed (ended_by c a e) (label.ends (reason_of e))

-- what ends a turn: an action, a message that is taken or waited for, or the end; None where the process goes on by
-- itself
abbrev pub last_of_turn : Module → Core → ℕ → Move → Option Deed
last_of_turn m c a (goes_on s) = None
last_of_turn m c a (asks fs x) = Some (after_act a fs (acted m c a x))
last_of_turn m c a (awaits fs ks) = Some (received c a fs ks (selected m a ks (of c a).mailbox))
last_of_turn m c a (returns v) = Some (ended_so c a (returned v))

-- Turn m a c n s d k: process a, in state s and with n steps left, does d within k steps
pub data Turn (m : Module) (a : ℕ) (c : Core) : ℕ → ProcessState → Deed → ℕ → Type 0 where
  cut_running : (t : Tree) → Turn m a c zero (running t) (deed (leaving (with_state c a (running t)) []) label.cut) zero
  cut_ending : (r : Value) → Turn m a c zero (ending r) (deed (leaving (with_state c a (ending r)) []) label.cut) zero
  end : (n : ℕ) (r : Value) → Turn m a c (suc n) (ending r) (ended_so c a (failed r)) 1
  contraction : (n k : ℕ) (t : Tree) (s : ProcessState) (d : Deed) → Moves m a t (goes_on s) → Turn m a c n s d k
      → Turn m a c (suc n) (running t) d (suc k)
  act : (n : ℕ) (t : Tree) (x : Move) (d : Deed) → Moves m a t x → last_of_turn m c a x ≡ Some d
      → Turn m a c (suc n) (running t) d 1

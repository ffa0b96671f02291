-- Deliveries: what the oldest signal of a channel does to its receiver, by the first row that applies.
use Rattle.std.specs.Prelude.{ℕ, Bool, true, false, not, ◌&&◌, ◌==◌, if◌then◌else◌, [], ◌∷◌, ◌++◌, Option, Some, None}
use Rattle.pf_terms.specs.Value.{Value, none, more, pid, ref, tuple, same}
use Rattle.pf_terms.specs.Fixed.{normal, kill, killed, noproc, process, exit_atom, down_atom}
use Rattle.pf_ops.specs.Reasons.{built}
use Rattle.pf_sorted.specs.Maps.{got, put, without, has, with_number, without_number}
use Rattle.pf_model.specs.Context.{ProcessState, running, waiting, ending, ended, failed}
use Rattle.pf_model.specs.Channels.{Signal, message, link, unlink, monitor, demonitor, down, exit}
use Rattle.pf_model.specs.Configuration.{Process, Core, Left, leaving, of, with_process, is_alive}
use Rattle.pf_model.specs.Labels.{Label, delivers, Suffix, took_effect, no_process, dropped, as_message, ending_with}
use Rattle.pf_model.specs.Ends.{ended_by}

-- what one step of an actor does
pub record Deed : Type 0 where
  pub left : Left
  pub label : Label

abbrev pub deed : Left → Label → Deed
deed x l = record { left = x; label = l }

-- a process that waits goes on
abbrev pub woken : ProcessState → ProcessState
woken (waiting t) = running t
woken (running t) = running t
woken (ending r) = ending r
woken (ended e) = ended e

-- the process with a message at the end of its mailbox
abbrev pub with_message : Process → Value → Process
with_message p v = record p { mailbox = p.mailbox ++ v ∷ []; state = woken p.state }

-- {'DOWN', Reference, process, Pid, Reason} and {'EXIT', Pid, Reason}; where the term would be too large,
-- `system_limit` stands for the reason
abbrev pub down_message : (reference from : ℕ) → Value → Value
down_message r a =
    built (λ reason. tuple (more down_atom (more (ref r) (more process (more (pid a) (more reason none))))))

abbrev pub exit_message : (from : ℕ) → Value → Value
exit_message a = built (λ reason. tuple (more exit_atom (more (pid a) (more reason none))))

abbrev pub drops : Core → Signal → Deed
drops c s = deed (leaving c []) (delivers s dropped)

abbrev pub changes : Core → ℕ → Process → Signal → Suffix → Deed
changes c b p s x = deed (leaving (with_process c b p) []) (delivers s x)

abbrev pub ends_with : Core → ℕ → Signal → Value → Deed
ends_with c b s r = deed (ended_by c b (failed r)) (delivers s (ending_with r))

-- at a receiver that has ended: a link is answered by an exit signal, a monitor by a down signal, and all else is
-- dropped
abbrev pub at_ended : Core → ℕ → Signal → Deed
at_ended c a link = deed (leaving c ((a, exit true noproc) ∷ [])) (delivers link no_process)
at_ended c a (monitor r) = deed (leaving c ((a, down r noproc) ∷ [])) (delivers (monitor r) no_process)
at_ended c a s = drops c s

-- a down signal, where its reference is active in the receiver
abbrev pub down_at : Core → (from to : ℕ) → (reference : ℕ) → Value → Option ℕ → Deed
down_at c a b r reason None = drops c (down r reason)
down_at c a b r reason (Some p) =
    changes c b (with_message (record (of c b) { active = without r (of c b).active }) (down_message r a reason))
    (down r reason) took_effect

-- an exit signal that isn't dropped for lack of a link
abbrev pub exit_at : Core → (from to : ℕ) → (by_link : Bool) → Value → Deed
exit_at c a b by_link r =
    if not by_link && same r kill then ends_with c b (exit by_link r) killed
    else (if (of c b).traps_exits then changes c b (with_message (of c b) (exit_message a r))
    (exit by_link r) as_message
    else (if same r normal && not (a == b) then drops c (exit by_link r)
    else ends_with c b (exit by_link r) r))

-- an exit by a link takes the link away
abbrev pub exit_by_link_at : Core → (from to : ℕ) → Value → Deed
exit_by_link_at c a b r =
    if has a (of c b).links
    then exit_at (with_process c b (record (of c b) { links = without_number a (of c b).links })) a b true r
    else drops c (exit true r)

-- a signal from a at b, which lives
abbrev pub at_living : Core → (from to : ℕ) → Signal → Deed
at_living c a b (message v) = changes c b (with_message (of c b) v) (message v) took_effect
at_living c a b link = changes c b (record (of c b) { links = with_number a (of c b).links }) link took_effect
at_living c a b unlink = changes c b (record (of c b) { links = without_number a (of c b).links }) unlink took_effect
at_living c a b (monitor r) = changes c b (record (of c b) { watchers = put r a (of c b).watchers })
    (monitor r) took_effect
at_living c a b (demonitor r) = changes c b (record (of c b) { watchers = without r (of c b).watchers })
    (demonitor r) took_effect
at_living c a b (down r reason) = down_at c a b r reason (got r (of c b).active)
at_living c a b (exit true r) = exit_by_link_at c a b r
at_living c a b (exit false r) = exit_at c a b false r

abbrev pub delivered : Core → (from to : ℕ) → Signal → Deed
delivered c a b s = if is_alive (of c b).state then at_living c a b s else at_ended c a s

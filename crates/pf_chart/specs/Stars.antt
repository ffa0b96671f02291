-- Which events have a star: another went although the process that ran before could have gone on.
use Rattle.std.specs.Prelude.{ℕ, Bool, true, false, not, ◌&&◌, ◌==◌, nat_lt, if◌then◌else◌, List, [], ◌∷◌, ◌++◌}
use Rattle.std.specs.Prelude.{Option, Some, None, codes, take, slice_get}
use Rattle.std.specs.Fmt.{decimal}
use Rattle.pf_model.specs.Channels.{Signal, message, down}
use Rattle.pf_model.specs.Labels.{Label, Suffix, as_message, delivers, ending_with, ends, took_effect, waits}
use Rattle.pf_model.specs.Meaning.{Event}
use Rattle.pf_model.specs.declared.report.Actor.{Actor}
use Rattle.pf_model.specs.declared.report.Actor.TheVariants as actors
use Rattle.pf_chart.specs.declared.stars.Runner.{Runner}
use Rattle.pf_chart.specs.declared.stars.Runner.TheVariants as runner

-- after its turn a process may go on, unless it waits or has ended
abbrev pub after_turn : (pid : ℕ) → Label → Runner
after_turn p waits = runner.Waiting p
after_turn p (ends reason) = runner.Nobody
after_turn p l = runner.Ready p

-- a signal that puts a message into the mailbox of its receiver
abbrev pub is_mail : Signal → Suffix → Bool
is_mail (message m) took_effect = true
is_mail (down reference reason) took_effect = true
is_mail s as_message = true
is_mail s x = false

abbrev pub woken : Runner → Runner
woken (runner.Waiting p) = runner.Ready p
woken (runner.Ready p) = runner.Ready p
woken runner.Nobody = runner.Nobody

-- what a signal does to its receiver: a message wakes it, and an exit may end it
abbrev pub after_signal : Runner → Signal → Suffix → Runner
after_signal r s (ending_with reason) = runner.Nobody
after_signal r s x = if is_mail s x then woken r else r

abbrev pub is_process : Runner → (pid : ℕ) → Bool
is_process runner.Nobody p = false
is_process (runner.Waiting q) p = q == p
is_process (runner.Ready q) p = q == p

abbrev pub after_delivery : Runner → (to : ℕ) → Label → Runner
after_delivery r b (delivers s x) = if is_process r b then after_signal r s x else r
after_delivery r b l = r

abbrev pub after_event : Runner → Actor → Label → Runner
after_event r (actors.Process a) l = after_turn a l
after_event r (actors.Channel a b) l = after_delivery r b l

-- who ran last, and whether it may go on, after these events
abbrev pub after : Runner → List Event → Runner
after r [] = r
after r (e ∷ es) = after (after_event r e.actor e.label) es

-- the process that ran last may go on, and another goes
abbrev pub is_passed_over : Runner → Actor → Bool
is_passed_over (runner.Ready p) (actors.Process a) = not (a == p)
is_passed_over (runner.Ready p) (actors.Channel a b) = true
is_passed_over r x = false

abbrev pub is_starred : Runner → Event → Bool
is_starred r e = nat_lt 0 e.choice && is_passed_over r e.actor

-- a star is shown as `*2/3` where number 2 of three went
abbrev pub choice_text : Event → List ℕ
choice_text e = codes "*" ++ decimal e.choice ++ codes "/" ++ decimal e.count

abbrev pub star_labels : (has_star : Bool) → Event → List (List ℕ)
star_labels true e = choice_text e ∷ []
star_labels false e = []

abbrev pub star_of : Runner → Option Event → List (List ℕ)
star_of r None = []
star_of r (Some e) = star_labels (is_starred r e) e

-- the star of the event of this number among those of a run, if it has one
abbrev pub star_at : List Event → (event : ℕ) → List (List ℕ)
star_at es n = star_of (after runner.Nobody (take n es)) (slice_get es n)

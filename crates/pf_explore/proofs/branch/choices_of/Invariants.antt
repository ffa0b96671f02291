use Rattle.std.proofs.Common.{◌≡◌, take}
use Rattle.std.specs.Prelude.{map}
use Rattle.pf_explore.proofs.branch.choices_of.Given as goal

-- the choices of the events so far
abbrev pub invariant-loop-event : goal.invariant-loop-event
invariant-loop-event l = l.numbers.items ≡ map (λ e. e.choice) (take l.event-index l.events)

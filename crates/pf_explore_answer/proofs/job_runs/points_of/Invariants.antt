use Rattle.std.proofs.Common.{◌≡◌, take}
use Rattle.std.specs.Prelude.{map}
use Rattle.pf_model.specs.Reports.{view_of_event}
use Rattle.pf_explore_laws.specs.Parting.{point_of}
use Rattle.pf_explore_answer.proofs.job_runs.points_of.Given as goal

-- the choices of the events so far
abbrev pub invariant-loop-event : goal.invariant-loop-event
invariant-loop-event l = l.points.items ≡ map (λ e. point_of (view_of_event e)) (take l.event-index l.events)

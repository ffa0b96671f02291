use Rattle.pf_model.specs.Configuration.{Configuration}
use Rattle.pf_process_status.specs.Known.{RunLeadsTo}
use Rattle.pf_process_status.proofs.Following.{At}
use Rattle.pf_process_status.proofs.follow.Followed.go_through.Given as goal

-- where the events are those of a run, the system is after those so far
abbrev pub invariant-loop-event : goal.invariant-loop-event
invariant-loop-event l = (d : Configuration) (h : RunLeadsTo l.run d)
    → At l.run d h l.event-index l.self.system l.self.begun.items

use Rattle.std.proofs.Common.{◌≡◌, take}
use Rattle.std.specs.List.{count_by}
use Rattle.pf_model.specs.Reports.{label_of}
use Rattle.pf_sched.specs.Waiting.{is_end}
use Rattle.pf_verdicts.proofs.judged.ends_in.Given as goal

-- how many there are so far
abbrev pub invariant-loop-event : goal.invariant-loop-event
invariant-loop-event l = l.count ≡ count_by (λ e. is_end (label_of e.label)) (take l.event-index l.events)

use Rattle.pf_words.proofs.Schedules.{IsLastOf}
use Rattle.pf_words.proofs.schedule.schedule_in.Given as goal

-- of the lines so far
abbrev pub invariant-loop-line : goal.invariant-loop-line
invariant-loop-line l = IsLastOf l.found l.yielded

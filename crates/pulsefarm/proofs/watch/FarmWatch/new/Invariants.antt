use Rattle.std.proofs.Common.{◌≡◌, vec_len}
use Rattle.pulsefarm.proofs.watch.FarmWatch.new.Given as goal

-- one for each project so far
abbrev pub invariant-loop-project : goal.invariant-loop-project
invariant-loop-project g l = vec_len l.trials ≡ l._project

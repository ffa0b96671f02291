use Rattle.std.proofs.Common.{All, map}
use Rattle.pf_property.specs.Views.{property_of}
use Rattle.pf_verdicts.specs.Watching.{Watches}
use Rattle.pf_verdicts.proofs.watched.watched_jobs.Given as goal

-- each is
abbrev pub invariant-loop-worker : goal.invariant-loop-worker
invariant-loop-worker l = All (Watches l.job (map property_of l.further)) l.jobs.items

use Rattle.std.proofs.Common.{◌≡◌, All}
use Rattle.pf_verdicts.proofs.others.other_jobs.Given as goal

-- each is the job itself
abbrev pub invariant-loop : goal.invariant-loop
invariant-loop l = All (λ j. j ≡ l.job) l.others.items

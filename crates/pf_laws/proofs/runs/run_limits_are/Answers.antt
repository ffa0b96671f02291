use Rattle.pf_laws.proofs.Ranges as ranges
use Rattle.pf_laws.proofs.runs.run_limits_are.Goals as goal

pub returns-clause-range : goal.returns-clause-range
returns-clause-range c = ranges.in_range

pub returns-clause-runs : goal.returns-clause-runs
returns-clause-runs c = ranges.runs

pub returns-clause-weights : goal.returns-clause-weights
returns-clause-weights c = ranges.weights

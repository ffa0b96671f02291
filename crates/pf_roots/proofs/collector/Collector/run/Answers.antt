use Rattle.pf_roots.proofs.Whole.{kept_same}
use Rattle.pf_roots.proofs.collector.Collector.run.Goals as goal

pub returns-then-not-is_due-clause-machines : goal.returns-then-not-is_due-clause-machines
returns-then-not-is_due-clause-machines c = kept_same c.args.heap.now c.args.machines.now c.requires.machines

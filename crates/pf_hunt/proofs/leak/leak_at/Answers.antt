use Rattle.pf_hunt.proofs.Leaking.{leaks_at, leaks_not}
use Rattle.pf_hunt.proofs.leak.leak_at.Goals as goal

pub returns-then-processes-gt0 : goal.returns-then-processes-gt0
returns-then-processes-gt0 c w j r means is =
    leaks_at w j c.args.seed c.args.processes r means is c.if-processes-gt0.true

pub returns-else-processes-gt0 : goal.returns-else-processes-gt0
returns-else-processes-gt0 c w j r means is =
    leaks_not w j c.args.seed c.args.processes r means is c.if-processes-gt0.false

use Rattle.std.proofs.Common.{◌≡◌, ◌+◌, ◌-◌, sym, subst, arith}
use Rattle.pf_turns.specs.Turns.{Did, Stopped}
use Rattle.pf_turns.specs.declared.status.Stop.TheVariants as stop
use Rattle.pf_turns.proofs.Halted.{awaits, returned, spent_here, spent_within}
use Rattle.pf_turns.proofs.process.Process.halted.Goals as goal

pub returns-in-Awaits-clause-halted : goal.returns-in-Awaits-clause-halted
returns-in-Awaits-clause-halted c = λ m own code entries p n h does.
    let rest = c.args.rest.now in
    let k = c.args.self.now.machine in
    let e : n ≡ n + (rest - rest) = omega arith in
    awaits m own code entries p n h k rest c.in-Awaits.register (n + (rest - rest)) e
    (subst (Did m own code entries p n h k rest) c.in-Awaits.is does)

pub returns-in-Returns-clause-halted : goal.returns-in-Returns-clause-halted
returns-in-Returns-clause-halted c = λ m own code entries p n h does.
    let rest = c.args.rest.now in
    let k = c.args.self.now.machine in
    let e : n ≡ n + (rest - rest) = omega arith in
    returned m own code entries p n h k rest c.in-Returns.word (n + (rest - rest)) e
    (subst (Did m own code entries p n h k rest) c.in-Returns.is does)

pub returns-then-rest-gt0-clause-halted : goal.returns-then-rest-gt0-clause-halted
returns-then-rest-gt0-clause-halted c = λ m own code entries p n h does.
    let rest = c.args.rest.now in
    let k = c.args.self.now.machine in
    let e : n + rest ≡ n + (rest - 0) = omega arith in
    spent_within m own code entries p n h k rest (n + (rest - 0)) e
    (subst (Did m own code entries p n h k rest) c.in-Spent.is does)

pub returns-else-rest-gt0-clause-halted : goal.returns-else-rest-gt0-clause-halted
returns-else-rest-gt0-clause-halted c = λ m own code entries p n h does.
    let rest = c.args.rest.now in
    let k = c.args.self.now.machine in
    let j = n + (rest - rest) in
    let e : n ≡ j = omega arith in
    let z : rest ≡ 0 = omega (arith, c.if-rest-gt0.false) in
    subst (λ x. Stopped m own code p j rest h k x stop.Cut) (sym c.requires.goes)
    (spent_here m own code entries p n h k rest j rest e z z
    (subst (Did m own code entries p n h k rest) c.in-Spent.is does))

use Rattle.std.proofs.Common.{◌≡◌, ◌-◌, subst, arith}
use Rattle.pf_turns.specs.Turns.{Represents}
use Rattle.pf_turns.proofs.Halted.{cut_before, ends_it, receives, returns_it}
use Rattle.pf_turns.proofs.process.Process.charge.Goals as goal

pub returns-then-rest-eq0-clause-charged : goal.returns-then-rest-eq0-clause-charged
returns-then-rest-eq0-clause-charged c = λ m own code p h a.
    let rest = c.args.rest.now in
    let z : 0 ≡ rest - rest = omega arith in
    cut_before m own code p h c.args.self.now.machine (rest - rest) rest c.args.self.now.status z
    (omega (arith, c.if-rest-eq0.true)) c.requires.charges a

pub returns-in-Receives-clause-charged : goal.returns-in-Receives-clause-charged
returns-in-Receives-clause-charged c = λ m own code p h a.
    let rest = c.args.rest.now in
    let k = c.args.self.now.machine in
    let n = rest - (rest - 1) in
    let one : 1 ≡ n = omega (arith, c.if-rest-eq0.false) in
    let d = c.in-Receives.register in
    let done = receives m own code p h k n one d (rest - 1)
    (subst (λ x. Represents m own code h k x p) c.in-Receives.is a) in
    (c.in-Receives.is, done.1, done.2, done.3, done.4, done.5, done.6, done.7, done.8)

pub returns-in-Returns-clause-charged : goal.returns-in-Returns-clause-charged
returns-in-Returns-clause-charged c = λ m own code p h a.
    let rest = c.args.rest.now in
    let k = c.args.self.now.machine in
    let n = rest - (rest - 1) in
    let one : 1 ≡ n = omega (arith, c.if-rest-eq0.false) in
    returns_it m own code p h k n one c.in-Returns.word (rest - 1)
    (subst (λ x. Represents m own code h k x p) c.in-Returns.is a)

pub returns-in-Ends-clause-charged : goal.returns-in-Ends-clause-charged
returns-in-Ends-clause-charged c = λ m own code p h a.
    let rest = c.args.rest.now in
    let k = c.args.self.now.machine in
    let n = rest - (rest - 1) in
    let one : 1 ≡ n = omega (arith, c.if-rest-eq0.false) in
    ends_it m own code p h k n one c.in-Ends.reason (rest - 1)
    (subst (λ x. Represents m own code h k x p) c.in-Ends.is a)

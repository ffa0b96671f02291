use Rattle.std.proofs.Common.{◌≡◌, sym, subst}
use Rattle.pf_heap.specs.Heap.{word_value}
use Rattle.pf_code.specs.Simulation.{IsAtReceive}
use Rattle.pf_loop.specs.Judged.{Judged}
use Rattle.pf_turns.proofs.process.Process.test.Goals as goal

pub returns-then-taken-clause-tested : goal.returns-then-taken-clause-tested
returns-then-taken-clause-tested c = λ m code entries d s fs ks run every e here at.
    let own = c.args.setting.now.own in
    let taken = c.in_ok-taken-in-Receives.taken in
    let same : c.in-Receives.register ≡ d = cc in
    subst (λ n. Judged m own code n fs ks (word_value c.args.heap.now c.args.message) c.test.new.heap c.test.new.self
    taken) same
    (c.in_ok-taken-in-Receives.ensures.tested m code entries s fs ks run every here
    (subst (λ n. IsAtReceive m own code n s fs ks) (sym same) at))

pub returns-else-taken-clause-tested : goal.returns-else-taken-clause-tested
returns-else-taken-clause-tested c = λ m code entries d s fs ks run every e here at.
    let own = c.args.setting.now.own in
    let taken = c.in_ok-taken-in-Receives.taken in
    let same : c.in-Receives.register ≡ d = cc in
    subst (λ n. Judged m own code n fs ks (word_value c.args.heap.now c.args.message) c.test.new.heap c.test.new.self
    taken) same
    (c.in_ok-taken-in-Receives.ensures.tested m code entries s fs ks run every here
    (subst (λ n. IsAtReceive m own code n s fs ks) (sym same) at))

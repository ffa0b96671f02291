use Rattle.std.proofs.Common.{true, false, sym, ◌∙◌}
use Rattle.pf_loop.proofs.Moved.{same_test}
use Rattle.pf_loop.proofs.stack.Stack.same.Goals as goal

pub returns-then-equal-clause-operates : goal.returns-then-equal-clause-operates
returns-then-equal-clause-operates c =
    let s = c.args.self.now in
    let t = c.args.setting.now in
    same_test t.atoms.now t.own t.constants.now s.base c.args.heap.now s.words.items c.args.sources.0 c.args.sources.1
    c.read-first.result c.read-second.result true c.read-first.ensures c.read-second.ensures
    (sym c.if-equal.true ∙ c.equal.ensures)

pub returns-else-equal-clause-operates : goal.returns-else-equal-clause-operates
returns-else-equal-clause-operates c =
    let s = c.args.self.now in
    let t = c.args.setting.now in
    same_test t.atoms.now t.own t.constants.now s.base c.args.heap.now s.words.items c.args.sources.0 c.args.sources.1
    c.read-first.result c.read-second.result false c.read-first.ensures c.read-second.ensures
    (sym c.if-equal.false ∙ c.equal.ensures)

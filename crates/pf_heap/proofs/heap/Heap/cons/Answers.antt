use Rattle.pf_heap.specs.Heap.{pair}
use Rattle.pf_heap.proofs.Cells.{keeps_pushed, made_pushed}
use Rattle.pf_heap.proofs.heap.Heap.cons.Goals as goal

pub returns-in_ok-push_pair-in-Some-clause-made : goal.returns-in_ok-push_pair-in-Some-clause-made
returns-in_ok-push_pair-in-Some-clause-made c =
    let r = c.in_ok-push_pair-in-Some in
    made_pushed c.args.self.now c.push_pair.new.self (pair c.args.head c.args.tail) r.ensures.added
    r.field-0 r.ensures.at

pub returns-in_ok-push_pair-in-Some-clause-keeps : goal.returns-in_ok-push_pair-in-Some-clause-keeps
returns-in_ok-push_pair-in-Some-clause-keeps c =
    keeps_pushed c.args.self.now c.push_pair.new.self (pair c.args.head c.args.tail)
    c.in_ok-push_pair-in-Some.ensures.added

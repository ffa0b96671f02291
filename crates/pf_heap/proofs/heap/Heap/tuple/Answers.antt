use Rattle.pf_heap.specs.Heap.{block}
use Rattle.pf_heap.proofs.Cells.{keeps_pushed, made_pushed}
use Rattle.pf_heap.proofs.heap.Heap.tuple.Goals as goal

pub returns-in_ok-push_block-in-Some-clause-made : goal.returns-in_ok-push_block-in-Some-clause-made
returns-in_ok-push_block-in-Some-clause-made c =
    let r = c.in_ok-push_block-in-Some in
    made_pushed c.args.self.now c.push_block.new.self (block c.args.words.now) r.ensures.added r.field-0 r.ensures.at

pub returns-in_ok-push_block-in-Some-clause-keeps : goal.returns-in_ok-push_block-in-Some-clause-keeps
returns-in_ok-push_block-in-Some-clause-keeps c =
    keeps_pushed c.args.self.now c.push_block.new.self (block c.args.words.now) c.in_ok-push_block-in-Some.ensures.added

use Rattle.std.proofs.Common.{length}
use Rattle.pf_heap.specs.Heap.{word_values}
use Rattle.pf_turns.proofs.Answered.{begins_call}
use Rattle.pf_turns.proofs.process.Process.new.Goals as goal

pub returns-clause-begins : goal.returns-clause-begins
returns-clause-begins c = λ m own code entries h i f every there arity e.
    begins_call m own code entries h c.in_ok-new.field-0 i c.args.pc (length c.args.words.now) f
    (word_values h c.args.words.now) every there arity e (c.in_ok-new.ensures.begins h)

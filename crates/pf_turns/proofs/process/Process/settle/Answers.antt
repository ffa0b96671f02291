use Rattle.std.proofs.Common.{subst}
use Rattle.pf_actions.specs.Acts.{IsAskedOf}
use Rattle.pf_turns.proofs.process.Process.settle.Goals as goal

pub returns-in_ok-answer-in-Becomes-clause-words : goal.returns-in_ok-answer-in-Becomes-clause-words
returns-in_ok-answer-in-Becomes-clause-words c =
    c.answer.ensures.words c.args.heap.now c.requires.words
    (subst (IsAskedOf c.args.heap.now) c.in-Becomes.is c.requires.asked)

use Rattle.std.proofs.Common.{subst}
use Rattle.pf_heap.specs.Heap.{word_value}
use Rattle.pf_model.specs.Contraction.{Asks}
use Rattle.pf_code.specs.Points.{inside}
use Rattle.pf_turns.specs.Turns.{Represents}
use Rattle.pf_turns.proofs.Answered.{answered}
use Rattle.pf_turns.proofs.process.Process.answer.Goals as goal

pub returns-in_ok-answer-in-Asks-clause-answered : goal.returns-in_ok-answer-in-Asks-clause-answered
returns-in_ok-answer-in-Asks-clause-answered c = λ m own code h fs a represents.
    let k = c.args.self.now.machine in
    answered m own code h k c.answer.new.self c.in-Asks.register (word_value h c.args.word) fs a
    (subst (λ x. Represents m own code h k x (inside fs (Asks a))) c.in-Asks.is represents)
    (λ s at. c.in_ok-answer-in-Asks.ensures.answers h s at)

use Rattle.std.proofs.Common.{sym, subst}
use Rattle.std.specs.Prelude.{reverse}
use Rattle.pf_syntax.specs.Tree.{lit}
use Rattle.pf_model.specs.Contraction.{Becomes}
use Rattle.pf_terms.specs.Term.{value_of}
use Rattle.pf_code.specs.Points.{inside}
use Rattle.pf_turns.specs.Turns.{IsStatusOf, Represents}
use Rattle.pf_machine.proofs.Inboxes.{answered_with, asks_on, over_keeps}
use Rattle.pf_machine.proofs.machine.Machine.give.Goals as goal

pub returns-in_err-word-clause-over : goal.returns-in_err-word-clause-over
returns-in_err-word-clause-over c =
    over_keeps c.args.heap.now c.lower.new.self c.args.self.now.process c.lower.ensures.keeps c.requires.over

pub returns-in_err-answer-clause-over : goal.returns-in_err-answer-clause-over
returns-in_err-answer-clause-over c =
    let g = c.lower.new.self in
    let over = over_keeps c.args.heap.now g c.args.self.now.process c.lower.ensures.keeps c.requires.over in (
      c.answer.ensures.words g over.0 c.in_ok-word.ensures.word,
      subst (IsStatusOf g) (sym c.in_err-answer.ensures.err) over.1,
    )

pub returns-clause-over : goal.returns-clause-over
returns-clause-over c =
    let g = c.lower.new.self in
    let over = over_keeps c.args.heap.now g c.args.self.now.process c.lower.ensures.keeps c.requires.over in
    (c.answer.ensures.words g over.0 c.in_ok-word.ensures.word, c.in_ok-answer.ensures.status g)

pub returns-clause-given : goal.returns-clause-given
returns-clause-given c = λ m own code fs b a.
    let g = c.lower.new.self in
    let k = c.answer.new.self in
    let v = value_of c.args.value.now in
    let asks = asks_on m own code b fs c.args.heap.now g c.args.self.now.process a.0 c.lower.ensures.keeps
    c.requires.over
    a.1 in
    let answered = c.in_ok-answer.ensures.answered m own code g (reverse fs) a.0 asks in
    answered_with m own code b fs g k v a.2
    (subst (λ x. Represents m own code g k.machine k.status (inside (reverse fs) (Becomes (lit x))))
    c.in_ok-word.ensures.made answered)

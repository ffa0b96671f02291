use Rattle.std.proofs.Common.{sym, subst}
use Rattle.pf_model.specs.Context.{ending, goes_on}
use Rattle.pf_ops.specs.Reasons.{ending_reason}
use Rattle.pf_terms.specs.Term.{value_of}
use Rattle.pf_loop.specs.View.{AreWords}
use Rattle.pf_loop.proofs.Words.{keep_then}
use Rattle.pf_turns.specs.Turns.{IsStatusOf, Represents}
use Rattle.pf_machine.proofs.Inboxes.{goes_with, over_keeps}
use Rattle.pf_machine.proofs.machine.Machine.raise.Goals as goal

pub returns-in_err-word-clause-over : goal.returns-in_err-word-clause-over
returns-in_err-word-clause-over c =
    over_keeps c.args.heap.now c.lower.new.self c.args.self.now.process c.lower.ensures.keeps c.requires.over

pub returns-in_err-raise-clause-over : goal.returns-in_err-raise-clause-over
returns-in_err-raise-clause-over c =
    let h = c.args.heap.now in
    let g = c.lower.new.self in
    let f = c.raise.new.heap in
    let k = c.args.self.now.process in
    let j = c.raise.new.self in
    let over = over_keeps h f k (keep_then h g f c.lower.ensures.keeps c.raise.ensures.keeps) c.requires.over in (
      subst (λ x. AreWords f x.stack.words.items) (sym c.raise.ensures.machine) over.0,
      subst (IsStatusOf f) (sym c.in_err-raise.ensures.err) over.1,
    )

pub returns-in_err-raise-clause-keeps : goal.returns-in_err-raise-clause-keeps
returns-in_err-raise-clause-keeps c =
    keep_then c.args.heap.now c.lower.new.self c.raise.new.heap c.lower.ensures.keeps c.raise.ensures.keeps

pub returns-clause-over : goal.returns-clause-over
returns-clause-over c =
    let h = c.args.heap.now in
    let g = c.lower.new.self in
    let f = c.raise.new.heap in
    let k = c.args.self.now.process in
    let over = over_keeps h f k (keep_then h g f c.lower.ensures.keeps c.raise.ensures.keeps) c.requires.over in (
      subst (λ x. AreWords f x.stack.words.items) (sym c.raise.ensures.machine) over.0,
      c.in_ok-raise.ensures.status,
    )

pub returns-clause-keeps : goal.returns-clause-keeps
returns-clause-keeps c =
    keep_then c.args.heap.now c.lower.new.self c.raise.new.heap c.lower.ensures.keeps c.raise.ensures.keeps

pub returns-clause-raised : goal.returns-clause-raised
returns-clause-raised c = λ m own code fs b a.
    let f = c.raise.new.heap in
    let k = c.raise.new.self in
    let v = value_of c.args.reason.now in
    goes_with m own code f k.machine b (ending (ending_reason v)) k.status
    (subst (λ x. Represents m own code f k.machine k.status (goes_on (ending (ending_reason x))))
    c.in_ok-word.ensures.made (c.in_ok-raise.ensures.raised m own code)) a.2

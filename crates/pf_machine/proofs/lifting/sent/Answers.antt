use Rattle.std.proofs.Common.{refl, ap, ◌∙◌}
use Rattle.pf_terms.specs.Term.{value_of}
use Rattle.pf_heap.specs.Heap.{word_value}
use Rattle.pf_model.specs.Contraction.{send}
use Rattle.pf_stepper.specs.declared.act.Act.TheVariants as act
use Rattle.pf_machine.proofs.lifting.sent.Goals as goal

pub returns : goal.returns
returns c =
    let to = c.in_ok-receiver.receiver in
    let message = c.in_ok-term.term in (
      act.Send to message,
      refl,
      ap (λ v. send v (value_of message)) c.in_ok-receiver.ensures
          ∙ ap (send (word_value c.args.heap.now c.args.to)) c.in_ok-term.ensures,
    )

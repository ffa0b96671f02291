use Rattle.std.specs.Prelude.{codes}
use Rattle.std.specs.Fmt.{decimal}
use Rattle.std.proofs.lemmas.Result.{on_err_weaker, on_ok_weaker}
use Rattle.pf_command.proofs.Adding.{adds_both, at_fault, front_after, front_longer}
use Rattle.pf_command.proofs.ending.add_choice.Goals as goal

pub returns-in_err-add-clause-front : goal.returns-in_err-add-clause-front
returns-in_err-add-clause-front g c =
    at_fault c.from_residual.result (front_longer c.args.waiting.now.items (codes ",") (decimal c.args.choice) _ _
    c.in_err-add.ensures.front)

pub returns-clause-added : goal.returns-clause-added
returns-clause-added g c =
    on_ok_weaker c.add_number.result
    (λ k. adds_both c.args.waiting.now.items (codes ",") c.add.new.waiting.items (decimal c.args.choice)
    c.add_number.new.waiting.items _ _ _ c.in_ok-add.ensures.added (rw c.from.ensures at k))
    c.add_number.ensures.added

pub returns-clause-front : goal.returns-clause-front
returns-clause-front g c =
    on_err_weaker c.add_number.result
    (λ k. front_after c.args.waiting.now.items (codes ",") c.add.new.waiting.items (decimal c.args.choice) _ _ _
    c.in_ok-add.ensures.added (rw c.from.ensures at k)) c.add_number.ensures.front

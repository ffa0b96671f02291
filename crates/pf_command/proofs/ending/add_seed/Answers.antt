use Rattle.std.proofs.Common.{◌++◌}
use Rattle.std.specs.Prelude.{codes}
use Rattle.std.specs.Fmt.{decimal}
use Rattle.std.proofs.lemmas.Result.{on_err_weaker, on_ok_weaker}
use Rattle.pf_command.proofs.Adding.{adds_both, at_fault, front_after, front_longer, front_of_second}
use Rattle.pf_command.proofs.ending.add_seed.Goals as goal

pub returns-in_err-add-clause-front : goal.returns-in_err-add-clause-front
returns-in_err-add-clause-front g c =
    let old = c.args.waiting.now.items in
    let seed = decimal c.args.seed in
    at_fault c.from_residual.result
    (front_longer old (codes "seed " ++ seed) (codes "\n") _ _
    (front_longer old (codes "seed ") seed _ _ c.in_err-add.ensures.front))

pub returns-in_err-add_number-clause-front : goal.returns-in_err-add_number-clause-front
returns-in_err-add_number-clause-front g c =
    at_fault c.from_residual-in_err-add_number.result
    (front_of_second c.args.waiting.now.items (codes "seed ") c.add.new.waiting.items (decimal c.args.seed) (codes "\n")
    _ _ _ c.in_ok-add.ensures.added
    c.in_err-add_number.ensures.front)

pub returns-clause-added : goal.returns-clause-added
returns-clause-added g c =
    let old = c.args.waiting.now.items in
    let two =
    adds_both old (codes "seed ") c.add.new.waiting.items (decimal c.args.seed) c.add_number.new.waiting.items _ _ _
    c.in_ok-add.ensures.added c.in_ok-add_number.ensures.added in
    on_ok_weaker c.add-2.result
    (λ k. adds_both old (codes "seed " ++ decimal c.args.seed) c.add_number.new.waiting.items (codes "\n")
    c.add-2.new.waiting.items _ _ _ two k) c.add-2.ensures.added

pub returns-clause-front : goal.returns-clause-front
returns-clause-front g c =
    let old = c.args.waiting.now.items in
    let two =
    adds_both old (codes "seed ") c.add.new.waiting.items (decimal c.args.seed) c.add_number.new.waiting.items _ _ _
    c.in_ok-add.ensures.added c.in_ok-add_number.ensures.added in
    on_err_weaker c.add-2.result
    (λ k. front_after old (codes "seed " ++ decimal c.args.seed) c.add_number.new.waiting.items (codes "\n") _ _ _ two
    k) c.add-2.ensures.front

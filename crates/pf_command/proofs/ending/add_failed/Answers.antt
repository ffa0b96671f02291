use Rattle.std.proofs.Common.{◌++◌}
use Rattle.std.specs.Prelude.{codes}
use Rattle.std.proofs.lemmas.Result.{on_err_weaker, on_ok_weaker}
use Rattle.pf_command.proofs.Adding.{adds_both, at_fault, front_after, front_longer, front_of_second}
use Rattle.pf_command.proofs.ending.add_failed.Goals as goal

pub returns-in_err-add-clause-front : goal.returns-in_err-add-clause-front
returns-in_err-add-clause-front g c =
    let old = c.args.waiting.now.items in
    let property = c.in-Some.property.now in
    at_fault c.from_residual.result
    (rw c.in-Some.is (front_longer old (codes "fails " ++ property) (codes "\n") _ _
    (front_longer old (codes "fails ") property _ _ c.in_err-add.ensures.front)))

pub returns-in_err-add-2-clause-front : goal.returns-in_err-add-2-clause-front
returns-in_err-add-2-clause-front g c =
    let property = c.in-Some.property.now in
    at_fault c.from_residual-in_err-add-2.result
    (rw c.in-Some.is (front_of_second c.args.waiting.now.items (codes "fails ") c.add.new.waiting.items property
    (codes "\n") _ _ _ c.in_ok-add.ensures.added c.in_err-add-2.ensures.front))

pub returns-clause-added : goal.returns-clause-added
returns-clause-added g c =
    let old = c.args.waiting.now.items in
    let property = c.in-Some.property.now in
    let two = adds_both old (codes "fails ") c.add.new.waiting.items property c.add-2.new.waiting.items _ _ _
    c.in_ok-add.ensures.added c.in_ok-add-2.ensures.added in
    rw c.in-Some.is (on_ok_weaker c.add-3.result
    (λ k. adds_both old (codes "fails " ++ property) c.add-2.new.waiting.items (codes "\n") c.add-3.new.waiting.items
    _ _ _ two k) c.add-3.ensures.added)

pub returns-clause-front : goal.returns-clause-front
returns-clause-front g c =
    let old = c.args.waiting.now.items in
    let property = c.in-Some.property.now in
    let two = adds_both old (codes "fails ") c.add.new.waiting.items property c.add-2.new.waiting.items _ _ _
    c.in_ok-add.ensures.added c.in_ok-add-2.ensures.added in
    rw c.in-Some.is (on_err_weaker c.add-3.result
    (λ k. front_after old (codes "fails " ++ property) c.add-2.new.waiting.items (codes "\n") _ _ _ two k)
    c.add-3.ensures.front)

use Rattle.std.proofs.Common.{List, ℕ, ◌++◌, ap}
use Rattle.std.proofs.lemmas.Result.{on_err_weaker, on_ok_weaker}
use Rattle.pf_wire.proofs.Adding.{added_both, at_err, both_same, front_of_first, front_of_second}
use Rattle.pf_wire.proofs.stream.Gathered.add_report.Goals as goal

pub returns-in_err-add-clause-front : goal.returns-in_err-add-clause-front
returns-in_err-add-clause-front g c =
    let end = c.args.report.now.end.items in
    at_err c.from_residual.result
    (front_of_first c.args.self.now.text.items c.events.result.now end _ _ _
    (ap (λ (t : List ℕ). t ++ end) c.events.ensures) c.in_err-add.ensures.front)

pub returns-clause-added : goal.returns-clause-added
returns-clause-added g c =
    let both = both_same _ _ _ _ c.events.ensures c.end.ensures in
    on_ok_weaker c.add-2.result
    (λ h. added_both c.args.self.now.text.items c.add.new.self.text.items _ c.events.result.now c.end.result.now _ _ _ _
    both c.in_ok-add.ensures.added h)
    c.add-2.ensures.added

pub returns-clause-front : goal.returns-clause-front
returns-clause-front g c =
    let both = both_same _ _ _ _ c.events.ensures c.end.ensures in
    on_err_weaker c.add-2.result
    (λ h. front_of_second c.args.self.now.text.items c.add.new.self.text.items c.events.result.now c.end.result.now _ _
    _ _ both c.in_ok-add.ensures.added h)
    c.add-2.ensures.front

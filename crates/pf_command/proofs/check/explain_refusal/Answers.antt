use Rattle.std.proofs.Common.{◌≡◌}
use Rattle.pf_diagnostics.specs.Explanation.{explanations}
use Rattle.pf_command.specs.Checks.{asked}
use Rattle.pf_command.proofs.check.explain_refusal.Goals as goal

pub returns : goal.returns
returns c =
    let reported = c.in_ok-reported.reported.items in
    let text : c.put_explanations.new.out.items ≡ explanations c.args.source.now reported =
    rw (c.new-text.ensures.items, c.deref.ensures.value) at c.in_ok-put_explanations.ensures in
    rw text (asked reported c.in_ok-reported.ensures)

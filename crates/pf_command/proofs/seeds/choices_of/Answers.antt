use Rattle.std.proofs.Common.{◌≡◌, ◌∙◌, map}
use Rattle.std.proofs.lemmas.Result.{IfOk-weaker}
use Rattle.pf_model.specs.Reports.{view_of_report}
use Rattle.pf_command.specs.Hunts.{choices_of}
use Rattle.pf_command.proofs.Found.{choices_are}
use Rattle.pf_command.proofs.seeds.choices_of.Goals as goal

pub returns : goal.returns
returns c =
    let r = c.args.report.now in
    IfOk-weaker c.choices_in.result (λ n. n.items ≡ map (λ e. e.choice) r.events.items)
    (λ n. n.items ≡ choices_of (view_of_report r))
    (λ n e. e ∙ choices_are r) c.choices_in.ensures

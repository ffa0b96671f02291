use Rattle.std.proofs.Common.{ℕ, List, [], Some}
use Rattle.std.proofs.lemmas.Result.{IfOk-weaker}
use Rattle.pf_model.specs.Meaning.{schedule}
use Rattle.pf_model.specs.Reports.{view_of_report}
use Rattle.pf_strategy.specs.Noted.{MakesChoices}
use Rattle.pf_sched.specs.Choosing.{last, noted}
use Rattle.pf_sched.specs.Parts.{Executes}
use Rattle.pf_sched.proofs.with_last.noted_run.Goals as goal

pub noted_to_end-noted-requires : goal.noted_to_end-noted-requires
noted_to_end-noted-requires c =
    let ns = c.args.schedule.now in
    let w = last c.args.last (noted (schedule ns)) in
    (c.args.last, ns, c.in_ok-execution.ensures w c.in_ok-chooser.ensures)

pub returns : goal.returns
returns c =
    let j = c.args.job.now in
    let ns = c.args.schedule.now in
    let w = last c.args.last (noted (schedule ns)) in
    let x = c.in_ok-execution.execution in
    IfOk-weaker c.noted_to_end-noted.result
    (λ n. (p : ℕ) (ms : List ℕ) → Executes j (last p (noted (schedule ms))) [] x
    → MakesChoices (Some p) j.asked ms n.points.items (view_of_report n.report))
    (λ n. MakesChoices (Some c.args.last) j.asked ns n.points.items (view_of_report n.report))
    (λ n makes. makes c.args.last ns (c.in_ok-execution.ensures w c.in_ok-chooser.ensures))
    c.noted_to_end-noted.ensures

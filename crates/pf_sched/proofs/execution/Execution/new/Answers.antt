use Rattle.std.proofs.Common.{ap, ◌∙◌, subst}
use Rattle.pf_model.specs.Module.{module_of}
use Rattle.pf_model.specs.Runs.{start}
use Rattle.pf_system.specs.Steps.{Represents}
use Rattle.pf_sched.specs.Choosing.{chooser_of, first_of}
use Rattle.pf_sched.proofs.Traces.{begins, executes_first}
use Rattle.pf_sched.proofs.execution.Execution.new.Goals as goal

pub returns : goal.returns
returns c w first =
    let j = c.args.job.now in
    let s = c.in_ok-new_in.field-0 in
    let b = c.in_ok-new_in.ensures in
    let is_there = subst (Represents s)
    (ap (λ k. start k.asked.root c.edition.result) c.job.view_is ∙ ap (start j.asked.root) c.edition.ensures.edition)
    b.is_there in
    let code = ap module_of b.checked ∙ c.module.ensures in
    let going = begins (chooser_of w) (first_of w) j s code is_there b.steps in
    executes_first j w (record { system = s; chooser = c.args.chooser }) going first

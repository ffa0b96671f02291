use Rattle.std.proofs.Common.{inl, inr}
use Rattle.pf_model.specs.Reports.{view_of_report}
use Rattle.pf_cli.specs.Args.{view_of_hunt_args}
use Rattle.pf_command.specs.Answers.{IsNoMemory}
use Rattle.pf_command.specs.Hunts.{PrintsShrinking}
use Rattle.pf_command.specs.Streams.{IsOutput}
use Rattle.pf_command.proofs.Streaming.{prints_more}
use Rattle.pf_command.proofs.ending.print_shrunk.Goals as goal

pub returns-in-Ok : goal.returns-in-Ok
returns-in-Ok g c bytes of =
    let h = view_of_hunt_args c.args.args.now in
    let r = view_of_report c.args.run.report.now in
    prints_more (IsOutput c.in-Ok.answer) (PrintsShrinking h c.args.run.property.now bytes r c.args.run.runs) _ _ _ _
    (λ t s is. inl (rw (is.0, is.1) (c.in-Ok.ensures bytes of))) c.print_output.result c.print_output.ensures

pub returns-in-Err : goal.returns-in-Err
returns-in-Err g c bytes of =
    let h = view_of_hunt_args c.args.args.now in
    let r = view_of_report c.args.run.report.now in
    prints_more IsNoMemory (PrintsShrinking h c.args.run.property.now bytes r c.args.run.runs) _ _ _ _
    (λ t s is. inr is) c.print_no_memory.result
    c.print_no_memory.ensures

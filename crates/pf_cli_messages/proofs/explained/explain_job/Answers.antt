use Rattle.std.proofs.Common.{map, sym, ap, ◌∙◌}
use Rattle.std.specs.Prelude.{option_map}
use Rattle.std.proofs.lemmas.Option.{same_Some}
use Rattle.pf_syntax.specs.Root.{root_of}
use Rattle.pf_syntax.specs.declared.node.FunctionId.{FunctionId}
use Rattle.pf_model.specs.Module.{Module}
use Rattle.pf_model.specs.Reports.{view_of_event, view_of_report}
use Rattle.pf_cli.specs.Args.{view_of_run_args}
use Rattle.pf_cli_messages.proofs.Reporting.{from_asked, reports_of}
use Rattle.pf_process_status.proofs.Survivors.{if_ok}
use Rattle.pf_cli_messages.proofs.explained.explain_job.Goals as goal

pub returns : goal.returns
returns c =
    let a = view_of_run_args c.args.args.now in
    let j = c.args.job.now in
    let x = c.requires.asked in
    let m = x.0 in
    let from = from_asked m a.edition x.2.0 a.request j x.2.2 in
    let r = view_of_report c.in_ok-report.report in
    let name = c.as_slice.result.now in
    let root =
    sym (ap (option_map (λ (f : FunctionId). f.0)) c.in-Some.is) ∙ c.root.ensures
    ∙ ap (λ z. root_of name z.atoms z.functions) c.deref.ensures
    ∙ ap (λ (z : Module). root_of name z.atoms z.functions) (c.module-module.ensures ∙ from.code)
    ∙ ap (λ n. root_of n m.code.atoms m.code.functions) c.as_slice.ensures ∙ from.root in
    if_ok c.explain_known.result
    (λ text reports.
    reports_of j.asked r c.args.args.now.by_seed c.args.source.now text.items _ reports c.in_ok-report.ensures
    (record {
      code = c.module-module.ensures;
      root = same_Some c.in-Some.root.0 j.asked.root root;
      edition = c.edition.ensures.edition;
      limit = c.limit.ensures.limit;
      events = ap (map view_of_event) c.as_slice-2.ensures.value;
    }))
    c.explain_known.ensures

use Rattle.std.proofs.Common.{◌≡◌, None, Some, map, sym, ap, ◌∙◌}
use Rattle.std.specs.Prelude.{option_map}
use Rattle.std.proofs.lemmas.Option.{same_Some}
use Rattle.pf_syntax.specs.Module.{Checked}
use Rattle.pf_syntax.specs.Root.{root_of}
use Rattle.pf_syntax.specs.declared.node.FunctionId.{FunctionId}
use Rattle.pf_model.specs.Module.{Module}
use Rattle.pf_model.specs.Reports.{view_of_event, view_of_report}
use Rattle.pf_cli_messages.specs.Explained.{IsKnownRunOf}
use Rattle.pf_process_status.proofs.Survivors.{if_ok}
use Rattle.pf_command.proofs.Drawn.{comes_there}
use Rattle.pf_command.proofs.chart.names_of.Goals as goal

pub returns : goal.returns
returns c =
    let j = c.args.job.now.asked in
    let r = view_of_report c.args.report.now in
    let name = c.args.root.now in
    let root =
    sym (ap (option_map (λ (f : FunctionId). f.0)) c.in-Some.is) ∙ c.root.ensures
    ∙ ap (λ (z : Checked). root_of name z.atoms z.functions) c.deref.ensures
    ∙ ap (λ (z : Module). root_of name z.atoms z.functions) c.module-module.ensures ∙ c.requires.root in
    let is_run : IsKnownRunOf j r _ = record {
      code = c.module-module.ensures;
      root = same_Some c.in-Some.root.0 j.root root;
      edition = c.edition.ensures.edition;
      limit = c.limit.ensures.limit;
      events = ap (map view_of_event) c.as_slice.ensures.value;
    } in
    let there = comes_there j r _ is_run c.requires.run in
    if_ok c.names.result (λ v names. (_, is_run, (there.0, there.1, names there.0 there.1))) c.names.ensures

pub returns-in_default : goal.returns-in_default
returns-in_default c =
    let j = c.args.job.now.asked in
    let name = c.args.root.now in
    let never : None ≡ Some j.root =
    sym (ap (option_map (λ (f : FunctionId). f.0)) c.in_default.is) ∙ c.root.ensures
    ∙ ap (λ (z : Checked). root_of name z.atoms z.functions) c.deref.ensures
    ∙ ap (λ (z : Module). root_of name z.atoms z.functions) c.module-module.ensures ∙ c.requires.root in
    absurd (cc)

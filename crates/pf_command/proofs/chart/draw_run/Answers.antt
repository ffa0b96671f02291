use Rattle.std.proofs.Common.{◌≡◌, ◌∙◌, ap, [], List, ℕ, subst, sym}
use Rattle.pf_terms.specs.Atoms.{name_of}
use Rattle.pf_syntax.specs.Module.{Checked}
use Rattle.pf_model.specs.Module.{Module}
use Rattle.pf_model.specs.Reports.{view_of_report}
use Rattle.pf_chart.specs.Chart.{IsChart}
use Rattle.pf_chart.specs.Origins.{texts}
use Rattle.pf_command.specs.Charts.{AreNamesIn}
use Rattle.pf_command.proofs.chart.draw_run.Goals as goal

pub returns : goal.returns
returns c =
    let j = c.args.job.now.asked in
    let root = c.args.root.now in
    let table = c.atoms-atoms.result.now in
    let atoms : table ≡ j.code.atoms = c.atoms-atoms.ensures ∙ ap (λ (m : Checked). m.atoms) c.deref.ensures
    ∙ ap (λ (k : Module). k.atoms) c.module.ensures in
    let names = texts c.as_slice.result.now in
    let run = view_of_report c.args.run.now in
    let text = c.put_chart.new.out.items in
    let begun =
    subst (λ (before : List ℕ). IsChart (name_of table) root names c.args.manner run before text)
    c.new-text.ensures.items c.in_ok-put_chart.ensures.put in
    let are = subst (λ ns. AreNamesIn j run (texts ns)) (sym c.as_slice.ensures.value) c.in_ok-names.ensures in (
      names,
      are,
      subst (λ t. IsChart (name_of t) root names c.args.manner run [] text) atoms begun,
      c.run_status-status.ensures,
    )

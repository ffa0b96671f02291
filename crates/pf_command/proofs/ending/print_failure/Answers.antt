use Rattle.std.proofs.Common.{◌≡◌, ◌++◌, ap, ◌∙◌, inl, inr, refl, subst}
use Rattle.std.specs.Io.KnownBytes.{Appends}
use Rattle.pf_terms.specs.Atoms.{name_of}
use Rattle.pf_errors.specs.declared.fault.OrNoMemory.TheVariants.{NoMemory, Fault}
use Rattle.pf_model.specs.Reports.{view_of_report}
use Rattle.pf_model.specs.Text.{report_text}
use Rattle.pf_trace.specs.Written.{StopsShort, lines_text}
use Rattle.pf_command.specs.Answers.{IsNoMemory, atom_names_of}
use Rattle.pf_command.specs.Hunts.{PrintsReport}
use Rattle.pf_command.proofs.Streaming.{prints_after}
use Rattle.pf_command.proofs.ending.print_failure.Goals as goal

pub returns-in-Ok : goal.returns-in-Ok
returns-in-Ok g c =
    let j = c.args.job.now in
    let r = view_of_report c.args.report.now in
    let atoms : c.atoms.result.now ≡ j.asked.code.atoms = c.atoms.ensures ∙ ap (λ m. m.atoms) c.deref.ensures
    ∙ ap (λ m. m.atoms) c.module.ensures in (
      report_text (atom_names_of j) r,
      inl (refl, refl),
      subst (λ a. Appends (g.W.Write.contents c.args.writer.now.inner)
          (g.W.Write.contents c.print_report.new.writer.inner) (report_text (name_of a) r)) atoms
          c.in-Ok.ensures.written,
      c.in-Ok.ensures.kept,
    )

pub returns-in-Err-Fault : goal.returns-in-Err-Fault
returns-in-Err-Fault g c =
    let j = c.args.job.now in
    let r = view_of_report c.args.report.now in
    let atoms : c.atoms.result.now ≡ j.asked.code.atoms = c.atoms.ensures ∙ ap (λ m. m.atoms) c.deref.ensures
    ∙ ap (λ m. m.atoms) c.module.ensures in
    let stopped =
    subst
    (λ a.
    StopsShort (Fault c.in-Err-Fault.fault) (name_of a) r (g.W.Write.contents c.args.writer.now.inner)
    (g.W.Write.contents c.print_report.new.writer.inner) c.args.writer.now.failures.total
    c.print_report.new.writer.failures.total)
    atoms (rw c.in-Err-Fault.field-0-is at c.in-Err-Fault.ensures.fault) in
    (report_text (atom_names_of j) r, 1, inl (refl, refl), stopped.0, stopped.1)

pub returns-in-Err-NoMemory : goal.returns-in-Err-NoMemory
returns-in-Err-NoMemory g c =
    let j = c.args.job.now in
    let r = view_of_report c.args.report.now in
    let atoms : c.atoms.result.now ≡ j.asked.code.atoms = c.atoms.ensures ∙ ap (λ m. m.atoms) c.deref.ensures
    ∙ ap (λ m. m.atoms) c.module.ensures in
    let stopped =
    subst
    (λ a.
    StopsShort NoMemory (name_of a) r (g.W.Write.contents c.args.writer.now.inner)
    (g.W.Write.contents c.print_report.new.writer.inner) c.args.writer.now.failures.total
    c.print_report.new.writer.failures.total)
    atoms (rw c.in-Err-NoMemory.field-0-is at c.in-Err-NoMemory.ensures.fault) in
    prints_after IsNoMemory (PrintsReport j r) (lines_text (atom_names_of j) stopped.0) _ _ _ _ _ _
    c.print_no_memory.result stopped.3 stopped.4
    (λ t s is. inr (stopped.0, stopped.1, stopped.2, ap (λ x. lines_text (atom_names_of j) stopped.0 ++ x) is.0, is.1))
    c.print_no_memory.ensures

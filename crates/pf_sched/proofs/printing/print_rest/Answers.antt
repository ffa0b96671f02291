use Rattle.std.proofs.Common.{refl, sym, ap, ◌∙◌, subst}
use Rattle.pf_errors.specs.declared.fault.OrNoMemory.TheVariants.{NoMemory}
use Rattle.pf_terms.specs.Atoms.{name_of}
use Rattle.pf_model.specs.Reports.{view_of_outcome}
use Rattle.pf_trace.specs.Written.{AreWrittenSoFar}
use Rattle.pf_trace.proofs.Fronts.{handed_on}
use Rattle.pf_sched.specs.Evidence.{Shows}
use Rattle.pf_sched.proofs.SoFar.{few_so_far}
use Rattle.pf_sched.proofs.Printed.{cut, ends_short, ends_whole}
use Rattle.pf_sched.proofs.printing.print_rest.Goals as goal

pub returns-in_err-outcome-clause-fault : goal.returns-in_err-outcome-clause-fault
returns-in_err-outcome-clause-fault g c =
    handed_on c.from_residual.result NoMemory _ c.from_residual.ensures
    (λ u es p w0 same_pieces same_evidence printed over. cut NoMemory c.args.job.now u es c.args.execution.now p w0 _ _
    _ _ printed (refl, refl))

pub print_end-requires : goal.print_end-requires
print_end-requires g c =
    subst (λ a. AreWrittenSoFar (name_of a) c.args.pieces.lines)
    (sym (c.atoms-atoms.ensures ∙ ap (λ m. m.atoms) c.deref.ensures ∙ ap (λ m. m.atoms) c.module.ensures))
    c.requires.written

pub returns-in_err-print_end-clause-fault : goal.returns-in_err-print_end-clause-fault
returns-in_err-print_end-clause-fault g c =
    let j = c.args.job.now in
    let f = c.in_err-print_end.field-0.0 in
    handed_on c.from_residual-in_err-print_end.result f _ c.from_residual-in_err-print_end.ensures
    (λ u es p w0 same_pieces same_evidence printed over.
    let known = subst (λ v. Shows j.asked.property v j.asked es) same_evidence (
      (refl, printed.reported.0.0.1),
      printed.reported.0.1,
    ) in
    let reported = c.in_ok-outcome.ensures es (few_so_far printed.run.run) known in
    ends_short j u es c.args.execution.now p c.args.pieces w0 _ _ c.atoms-atoms.result.now reported.0 same_pieces
    printed over reported.1
    (c.atoms-atoms.ensures ∙ ap (λ m. m.atoms) c.deref.ensures ∙ ap (λ m. m.atoms) c.module.ensures)
    (view_of_outcome c.in_ok-outcome.field-0.outcome) c.steps.result c.in_ok-outcome.field-0.verdict reported.2.0
    (reported.1.steps ∙ sym c.steps.ensures) reported.2.1
    f _ _ c.in_err-print_end.ensures.fault)

pub returns-clause-printed : goal.returns-clause-printed
returns-clause-printed g c u es p w0 same_pieces same_evidence printed over =
    let j = c.args.job.now in
    let known = subst (λ v. Shows j.asked.property v j.asked es) same_evidence (
      (refl, printed.reported.0.0.1),
      printed.reported.0.1,
    ) in
    let reported = c.in_ok-outcome.ensures es (few_so_far printed.run.run) known in
    ends_whole j u es c.args.execution.now p c.args.pieces w0 _ _ c.atoms-atoms.result.now reported.0 same_pieces
    printed over reported.1
    (c.atoms-atoms.ensures ∙ ap (λ m. m.atoms) c.deref.ensures ∙ ap (λ m. m.atoms) c.module.ensures)
    (view_of_outcome c.in_ok-outcome.field-0.outcome) c.steps.result c.in_ok-outcome.field-0.verdict reported.2.0
    (reported.1.steps ∙ sym c.steps.ensures) reported.2.1
    c.in_ok-outcome.field-0.waiting reported.2.2 c.in_ok-print_end.ensures.written

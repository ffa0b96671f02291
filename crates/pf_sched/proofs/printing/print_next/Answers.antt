use Rattle.std.proofs.Common.{◌≡◌, ◌-◌, ◌∷◌, ◌++◌, [], inl, refl, sym, subst}
use Rattle.pf_errors.specs.declared.fault.OrNoMemory.TheVariants.{NoMemory}
use Rattle.pf_model.specs.Reports.{label_of}
use Rattle.pf_trace.proofs.Fronts.{handed_on}
use Rattle.pf_sched.specs.Printing.{IsPrinted, atom_names_of}
use Rattle.pf_sched.specs.Reported.{event}
use Rattle.pf_sched.specs.Slices.{IsRunOver}
use Rattle.pf_sched.specs.Traces.{MayHavePassed}
use Rattle.pf_sched.proofs.Reported.{over_by}
use Rattle.pf_sched.proofs.Printed.{cut, printed_out, reported_next, waiting_written}
use Rattle.pf_sched.proofs.printing.print_next.Goals as goal

pub returns-in_err-chosen-clause-fault : goal.returns-in_err-chosen-clause-fault
returns-in_err-chosen-clause-fault g c =
    handed_on c.from_residual.result NoMemory _ c.from_residual.ensures
    (λ j cs es w0 same printed. cut NoMemory j cs es c.args.execution.now c.args.printer.now w0 _ _ _ _
    printed (refl, refl))

pub returns-in_default-clause-printed : goal.returns-in_default-clause-printed
returns-in_default-clause-printed g c j cs es w0 same printed =
    let old = c.args.execution.now in
    let last = printed.run.run.last in
    let none =
    subst (λ o. MayHavePassed (c.args.limit - old.system.steps) last old o (label_of c.pass_next.new.shown)
    c.pass_next.new.self) c.in_default.is
    (c.in_ok-chosen.ensures last printed.run.run.is_there) in (
      subst (λ x. IsPrinted j cs es x c.args.printer.now w0 (g.W.Write.contents c.args.writer.now.inner))
          (sym none.1) printed,
      subst (IsRunOver j.asked.limit) (sym none.1)
          (over_by j.asked.limit old last printed.run.run.is_there (inl none.0)),
    )

pub returns-in_err-notify-clause-fault : goal.returns-in_err-notify-clause-fault
returns-in_err-notify-clause-fault g c =
    handed_on c.from_residual-in_err-notify.result NoMemory _ c.from_residual-in_err-notify.ensures
    (λ j cs es w0 same printed. cut NoMemory j cs es c.args.execution.now c.args.printer.now w0 _ _ _ _
    printed (refl, refl))

pub returns-in_err-print_full-clause-fault : goal.returns-in_err-print_full-clause-fault
returns-in_err-print_full-clause-fault g c =
    let old = c.args.execution.now in
    let n = c.in-Some.chosen in
    let l = label_of c.pass_next.new.shown in
    let e = event n.index n.among n.actor l in
    let f = c.in_err-print_full.field-0.0 in
    handed_on c.from_residual-in_err-print_full.result f _ c.from_residual-in_err-print_full.ensures
    (λ j cs es w0 same printed.
    let went =
    subst (λ o. MayHavePassed (c.args.limit - old.system.steps) printed.run.run.last old o l c.pass_next.new.self)
    c.in-Some.is
    (c.in_ok-chosen.ensures printed.run.run.last printed.run.run.is_there) in
    let more =
    reported_next j cs es e old c.pass_next.new.self c.args.printer.now c.notify.new.self w0 _ c.args.limit same
    c.requires printed went
    (c.in_ok-notify.ensures.reported j.asked es) c.in_ok-notify.ensures.gone in
    cut f j cs (es ++ e ∷ []) c.pass_next.new.self c.notify.new.self w0 _ _ _ _ more
    (c.in_err-print_full.ensures.fault (atom_names_of j)
    (waiting_written j cs (es ++ e ∷ []) c.pass_next.new.self c.notify.new.self w0 _ more)))

pub returns-clause-printed : goal.returns-clause-printed
returns-clause-printed g c j cs es w0 same printed =
    let old = c.args.execution.now in
    let n = c.in-Some.chosen in
    let l = label_of c.pass_next.new.shown in
    let e = event n.index n.among n.actor l in
    let went =
    subst (λ o. MayHavePassed (c.args.limit - old.system.steps) printed.run.run.last old o l c.pass_next.new.self)
    c.in-Some.is
    (c.in_ok-chosen.ensures printed.run.run.last printed.run.run.is_there) in
    let more =
    reported_next j cs es e old c.pass_next.new.self c.args.printer.now c.notify.new.self w0 _ c.args.limit same
    c.requires printed went
    (c.in_ok-notify.ensures.reported j.asked es) c.in_ok-notify.ensures.gone in (
      e,
      printed_out j cs (es ++ e ∷ []) c.pass_next.new.self c.notify.new.self c.print_full.new.self w0 _ _ more
          (c.in_ok-print_full.ensures.out (atom_names_of j)
          (waiting_written j cs (es ++ e ∷ []) c.pass_next.new.self c.notify.new.self w0 _ more)),
    )

use Rattle.std.proofs.Common.{◌≤◌, length, sym, ap, ◌∙◌, subst}
use Rattle.pf_property.proofs.Shown.{of_events}
use Rattle.pf_property.specs.Views.{labels_of}
use Rattle.pf_sched.specs.Waiting.{living}
use Rattle.pf_verdicts.proofs.judged.waiting_in.Goals as goal

pub living_after-requires : goal.living_after-requires
living_after-requires c = subst (λ es. length es ≤ 100000) (sym c.as_slice.ensures.value) c.requires

pub returns-in-Finished : goal.returns-in-Finished
returns-in-Finished c =
    let es = c.args.report.now.events.items in
    rw c.in-Finished.is (c.living_after.ensures ∙ ap (λ xs. living (labels_of xs)) c.as_slice.ensures.value
    ∙ ap living (sym (of_events es)))

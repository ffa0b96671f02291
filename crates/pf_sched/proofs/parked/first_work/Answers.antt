use Rattle.std.proofs.Common.{rules, ◌≡◌, zero, sym, subst}
use Rattle.pf_sched.specs.Choosing.{choices}
use Rattle.pf_sched.specs.Parts.{IsRunBy}
use Rattle.pf_sched.specs.Traces.{Makes}
use Rattle.pf_sched.proofs.parked.first_work.Goals as goal

pub returns-in_ok-new-in-Run-clause-work : goal.returns-in_ok-new-in-Run-clause-work
returns-in_ok-new-in-Run-clause-work c =
    let j = c.args.job.now in
    let makes : Makes j.asked.choices c.in_ok-open-in-Run.field-0 = search rules in
    let run : IsRunBy j (choices j.asked.choices) c.in_ok-run-in-Run.run' =
    c.in_ok-run-in-Run.ensures.run (choices j.asked.choices) makes in
    let plain : j.asked.runs ≡ zero = search rules in
    (plain, subst (IsRunBy j (choices j.asked.choices)) (sym c.in_ok-new-in-Run.ensures.ok) run)

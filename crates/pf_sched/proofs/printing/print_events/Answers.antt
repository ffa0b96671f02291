use Rattle.std.proofs.Common.{◌≡◌, ◌-◌, zero, ◌∷◌, ◌++◌, [], inr, ◌∙◌, subst, arith}
use Rattle.pf_trace.proofs.Fronts.{handed_on}
use Rattle.pf_sched.specs.Printing.{CutsShort, PrintsOn}
use Rattle.pf_sched.proofs.Reported.{over_by}
use Rattle.pf_sched.proofs.SoFar.{ends_by_limit}
use Rattle.pf_sched.proofs.Traces.{length_last}
use Rattle.pf_sched.proofs.printing.print_events.Goals as goal

pub returns-in_err-print_next-clause-fault : goal.returns-in_err-print_next-clause-fault
returns-in_err-print_next-clause-fault g c =
    let j = c.args.job.now in
    let f = c.in_err-print_next.field-0.0 in
    let w0 = g.W.Write.contents c.args.writer.now.inner in
    handed_on c.from_residual.result f _ c.from_residual.ensures
    (λ u first.
    let i = c.loop.invariant.printed u first in
    subst (λ n. CutsShort f j u w0 (g.W.Write.contents c.print_next.new.writer.inner) n
    c.print_next.new.writer.failures.total) c.loop.invariant.kept
    (c.in_err-print_next.ensures.fault j u i.0 w0 c.requires.limit i.2))

pub returns-then-steps-limit-clause-printed : goal.returns-then-steps-limit-clause-printed
returns-then-steps-limit-clause-printed g c u first =
    let i = c.loop.invariant.printed u first in
    let limit = c.requires.limit in
    let none : c.args.job.now.asked.limit - c.loop.execution.system.steps ≡ zero = omega arith in
    (i.0, i.2, inr none)

pub returns-then-not-branch-clause-printed : goal.returns-then-not-branch-clause-printed
returns-then-not-branch-clause-printed g c u first =
    let j = c.args.job.now in
    let i = c.loop.invariant.printed u first in
    let w0 = g.W.Write.contents c.args.writer.now.inner in
    let on =
    subst (λ b. PrintsOn j u i.0 c.print_next.new.execution c.print_next.new.printer w0
    (g.W.Write.contents c.print_next.new.writer.inner) b)
    c.if-not-branch.true (c.in_ok-print_next.ensures.printed j u i.0 w0 c.requires.limit i.2) in
    (i.0, on.0, on.1)

pub loop-preserved : goal.loop-preserved
loop-preserved g c =
    let j = c.args.job.now in
    let w0 = g.W.Write.contents c.args.writer.now.inner in
    record {
      printed = λ u first.
          let i = c.loop.invariant.printed u first in
          let on =
          subst (λ b. PrintsOn j u i.0 c.print_next.new.execution c.print_next.new.printer w0
          (g.W.Write.contents c.print_next.new.writer.inner) b)
          c.if-not-branch.false (c.in_ok-print_next.ensures.printed j u i.0 w0 c.requires.limit i.2) in
          let count = i.1 in
          let more = length_last i.0 on.0 in
          (i.0 ++ on.0 ∷ [], omega arith, on.1);
      kept = c.in_ok-print_next.ensures.kept ∙ c.loop.invariant.kept;
    }

pub returns-clause-printed : goal.returns-clause-printed
returns-clause-printed g c u first =
    let i = c.loop.invariant.printed u first in
    let run = i.2.run.run in
    let count = i.1 in
    let limit = c.requires.limit in
    let stops = ends_by_limit run (omega arith) in
    (i.0, i.2, over_by c.args.job.now.asked.limit c.loop.execution run.last run.is_there stops)

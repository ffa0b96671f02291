use Rattle.std.proofs.Common.{◌≡◌, refl, sym, subst}
use Rattle.std.specs.Prelude.{IfOk}
use Rattle.std.proofs.lemmas.Result.{IfOk-weaker}
use Rattle.pf_command.specs.Answers.{Counts, ReportsJob}
use Rattle.pf_command.specs.Printed.{IsFound, MaySay, ReportsRun, WaitsAs}
use Rattle.pf_command.specs.Streams.{PrintsAnswer, WentOut}
use Rattle.pf_command.specs.declared.answers.Answer.TheVariants.{Run}
use Rattle.pf_command.proofs.Printed.{ok_all}
use Rattle.pf_command.proofs.Streaming.{prints_more}
use Rattle.pf_command.proofs.answers.print_answer.Goals as goal

pub returns-in-Reported-clause-printed : goal.returns-in-Reported-clause-printed
returns-in-Reported-clause-printed g c bytes ns found =
    subst
    (λ x.
    PrintsAnswer (MaySay bytes ns x) (g.W.Write.contents c.args.writer.now.inner)
    (g.W.Write.contents c.print_output.new.writer.inner) c.args.writer.now.failures.total
    c.print_output.new.writer.failures.total c.print_output.result)
    (sym c.in-Reported.is) c.print_output.ensures

pub returns-in-Run-clause-printed : goal.returns-in-Run-clause-printed
returns-in-Run-clause-printed g c bytes ns found =
    let k = c.print_one_run.ensures.reported in
    subst
    (λ x.
    PrintsAnswer (MaySay bytes ns x) (g.W.Write.contents c.args.writer.now.inner)
    (g.W.Write.contents c.print_one_run.new.writer.inner) c.args.writer.now.failures.total
    c.print_one_run.new.writer.failures.total c.print_one_run.result)
    (sym c.in-Run.is)
    (prints_more (ReportsJob k.0) (ReportsRun c.in-Run.one) _ _ _ _ (λ t s is. (k.0, k.1, is)) c.print_one_run.result
    k.2)

pub returns-in-Found-clause-printed : goal.returns-in-Found-clause-printed
returns-in-Found-clause-printed g c bytes ns found =
    let one = subst (IsFound bytes ns) c.in-Found.is found in
    subst
    (λ x.
    PrintsAnswer (MaySay bytes ns x) (g.W.Write.contents c.args.writer.now.inner)
    (g.W.Write.contents c.print_found.new.writer.inner) c.args.writer.now.failures.total
    c.print_found.new.writer.failures.total c.print_found.result)
    (sym c.in-Found.is) (c.print_found.ensures bytes ns one.0 one.1)

pub returns-in-Reported-clause-waits : goal.returns-in-Reported-clause-waits
returns-in-Reported-clause-waits g c =
    let n = c.args.waiting.now in
    let w0 = g.W.Write.contents c.args.writer.now.inner in
    let w1 = g.W.Write.contents c.print_output.new.writer.inner in
    subst (λ x. IfOk c.print_output.result (WaitsAs x n n w0 w1)) (sym c.in-Reported.is)
    (ok_all (λ s. n ≡ n) c.print_output.result (λ s. refl))

pub returns-in-Run-clause-waits : goal.returns-in-Run-clause-waits
returns-in-Run-clause-waits g c =
    let old = c.args.waiting.now in
    let new = c.print_one_run.new.waiting in
    let w0 = g.W.Write.contents c.args.writer.now.inner in
    let w1 = g.W.Write.contents c.print_one_run.new.writer.inner in
    let k = c.print_one_run.ensures.waits in
    subst (λ x. IfOk c.print_one_run.result (WaitsAs x old new w0 w1)) (sym c.in-Run.is)
    (IfOk-weaker c.print_one_run.result (WentOut (Counts k.0 old new) w0 w1) (WaitsAs (Run c.in-Run.one) old new w0 w1)
    (λ s went. (k.0, k.1, went)) k.2)

pub returns-in-Found-clause-waits : goal.returns-in-Found-clause-waits
returns-in-Found-clause-waits g c =
    let n = c.args.waiting.now in
    let w0 = g.W.Write.contents c.args.writer.now.inner in
    let w1 = g.W.Write.contents c.print_found.new.writer.inner in
    subst (λ x. IfOk c.print_found.result (WaitsAs x n n w0 w1)) (sym c.in-Found.is)
    (ok_all (λ s. n ≡ n) c.print_found.result (λ s. refl))

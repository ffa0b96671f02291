use Rattle.std.proofs.Common.{refl, subst}
use Rattle.pf_cli.specs.Args.{view_of_run_args}
use Rattle.pf_command.specs.AskedRuns.{RunAnswers, RunCounts}
use Rattle.pf_command.specs.Streams.{WentOut}
use Rattle.std.specs.Prelude.{IfOk}
use Rattle.pf_command.proofs.Counting.{answered_so}
use Rattle.pf_command.proofs.Streaming.{handed_on_source, sent_as, source_ends, unread_ends}
use Rattle.pf_errors.specs.declared.fault.OrNoMemory.TheVariants.{NoMemory}
use Rattle.pf_command.proofs.printing.run_source.Goals as goal

pub returns-in_err-bytes-clause-served : goal.returns-in_err-bytes-clause-served
returns-in_err-bytes-clause-served g c =
    handed_on_source (RunAnswers (view_of_run_args c.args.args.now)) _ _ c.from_residual.result c.in_err-bytes.field-0.0
    c.from_residual.ensures
    (unread_ends (RunAnswers (view_of_run_args c.args.args.now)) _ _ _ _ _ _ c.in_err-bytes.field-0.0
    c.in_err-bytes.ensures.counted)

pub returns-in_err-source-clause-served : goal.returns-in_err-source-clause-served
returns-in_err-source-clause-served g c =
    handed_on_source (RunAnswers (view_of_run_args c.args.args.now)) _ _ c.from_residual-in_err-source.result NoMemory
    c.from_residual-in_err-source.ensures
    ((c.in_ok-bytes.ensures.kept, refl), refl)

pub returns-clause-served : goal.returns-clause-served
returns-clause-served g c =
    source_ends (RunAnswers (view_of_run_args c.args.args.now)) c.in_ok-bytes.bytes.items
    (g.R.Read.remaining c.args.reader.now.inner) _ _ _ _ _ _ _ c.in_ok-bytes.ensures.front
    c.in_ok-bytes.ensures.kept
    c.print_source.result
    (sent_as (RunAnswers (view_of_run_args c.args.args.now)) c.in_ok-source.source c.in_ok-bytes.bytes.items _ _ _ _
    c.print_source.result c.in_ok-source.ensures c.print_source.ensures.reported)

pub returns-clause-waits : goal.returns-clause-waits
returns-clause-waits g c =
    let w0 = g.W.Write.contents c.args.writer.now.inner in
    let w1 = g.W.Write.contents c.print_source.new.writer.inner in
    answered_so (RunCounts (view_of_run_args c.args.args.now) c.args.waiting.now c.print_source.new.waiting)
    c.in_ok-bytes.bytes.items
    (g.R.Read.remaining c.args.reader.now.inner) (g.R.Read.remaining c.take_front.new.self.inner) _ _ 0 0 0 0
    c.in_ok-bytes.ensures.front
    c.print_source.result
    (subst (λ b. IfOk c.print_source.result (WentOut
    (RunCounts (view_of_run_args c.args.args.now) c.args.waiting.now c.print_source.new.waiting b) w0 w1))
    c.in_ok-source.ensures c.print_source.ensures.waits)

use Rattle.std.proofs.Common.{refl}
use Rattle.pf_command.proofs.Streaming.{handed_on_source, sent_as, source_ends, unread_ends}
use Rattle.pf_errors.specs.declared.fault.OrNoMemory.TheVariants.{NoMemory}
use Rattle.pf_command.proofs.serving.serve.Goals as goal

pub returns-in_err-bytes-clause-served : goal.returns-in_err-bytes-clause-served
returns-in_err-bytes-clause-served g c =
    handed_on_source (g.C.Answering.answers c.args.command) _ _ c.from_residual.result c.in_err-bytes.field-0.0
    c.from_residual.ensures
    (unread_ends (g.C.Answering.answers c.args.command) _ _ _ _ _ _ c.in_err-bytes.field-0.0
    c.in_err-bytes.ensures.counted)

pub returns-in_err-source-clause-served : goal.returns-in_err-source-clause-served
returns-in_err-source-clause-served g c =
    handed_on_source (g.C.Answering.answers c.args.command) _ _ c.from_residual-in_err-source.result NoMemory
    c.from_residual-in_err-source.ensures
    ((c.in_ok-bytes.ensures.kept, refl), refl)

pub returns-clause-served : goal.returns-clause-served
returns-clause-served g c =
    source_ends (g.C.Answering.answers c.args.command) c.in_ok-bytes.bytes.items
    (g.R.Read.remaining c.args.reader.now.inner) _ _ _ _ _ _ _ c.in_ok-bytes.ensures.front
    c.in_ok-bytes.ensures.kept
    c.print_by.result
    (sent_as (g.C.Answering.answers c.args.command) c.in_ok-source.source c.in_ok-bytes.bytes.items _ _ _ _
    c.print_by.result c.in_ok-source.ensures c.print_by.ensures)

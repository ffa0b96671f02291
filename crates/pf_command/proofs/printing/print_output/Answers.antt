use Rattle.std.proofs.Common.{refl, subst}
use Rattle.std.specs.Io.KnownBytes.{Appends}
use Rattle.pf_streams.specs.Streams.{AppendsFront}
use Rattle.pf_command.specs.Streams.{IsOutput}
use Rattle.pf_command.proofs.Streaming.{printed_fault}
use Rattle.pf_command.proofs.printing.print_output.Goals as goal

pub returns : goal.returns
returns g c = (
  c.args.answer.now.text.items,
  (refl, refl),
  subst (Appends (g.W.Write.contents c.args.writer.now.inner) (g.W.Write.contents c.put.new.self.inner))
      c.deref.ensures.value c.in_ok-put.ensures.written,
  c.in_ok-put.ensures.kept,
)

pub returns-in_err-put : goal.returns-in_err-put
returns-in_err-put g c =
    printed_fault (IsOutput c.args.answer.now) _ _ _ _ c.from_residual.result c.in_err-put.field-0.0
    c.from_residual.ensures (
      c.args.answer.now.text.items,
      c.args.answer.now.status,
      (refl, refl),
      subst (AppendsFront (g.W.Write.contents c.args.writer.now.inner) (g.W.Write.contents c.put.new.self.inner))
          c.deref.ensures.value c.in_err-put.ensures.front,
      c.in_err-put.ensures.counted,
    )

use Rattle.std.proofs.Common.{◌∙◌, subst}
use Rattle.std.specs.Io.KnownBytes.{Appends}
use Rattle.pf_errors.specs.declared.fault.OrNoMemory.TheVariants.{Fault}
use Rattle.pf_streams.specs.Streams.{AppendsFront}
use Rattle.pf_trace.proofs.Fronts.{handed_on}
use Rattle.pf_page.proofs.document.print_page.Goals as goal

pub returns-in_err-put-clause-fault : goal.returns-in_err-put-clause-fault
returns-in_err-put-clause-fault g c =
    let text = c.deref.ensures.value ∙ c.in_ok-text.ensures in
    handed_on c.from_residual-in_err-put.result (Fault c.in_err-put.field-0.0) _ c.from_residual-in_err-put.ensures (
      subst (AppendsFront (g.W.Write.contents c.args.writer.now.inner) (g.W.Write.contents c.put.new.self.inner)) text
          c.in_err-put.ensures.front,
      c.in_err-put.ensures.counted,
    )

pub returns-clause-written : goal.returns-clause-written
returns-clause-written g c =
    subst (Appends (g.W.Write.contents c.args.writer.now.inner) (g.W.Write.contents c.put.new.self.inner))
    (c.deref.ensures.value ∙ c.in_ok-text.ensures) c.in_ok-put.ensures.written

use Rattle.std.proofs.Common.{◌≡◌, ◌++◌, ap, ◌∙◌, subst}
use Rattle.pf_terms.specs.Atoms.{name_of}
use Rattle.pf_streams.specs.Streams.{AppendsFront}
use Rattle.pf_errors.specs.declared.fault.OrNoMemory.TheVariants.{Fault}
use Rattle.pf_model.specs.Reports.{view_of_outcome}
use Rattle.pf_trace.specs.Written.{last_lines}
use Rattle.pf_trace.proofs.Fronts.{handed_on}
use Rattle.pf_trace.proofs.pieces.Pieces.print_end.Goals as goal

pub returns-in_err-put-clause-fault : goal.returns-in_err-put-clause-fault
returns-in_err-put-clause-fault g c =
    let name = name_of c.args.atoms.now in
    let end = last_lines name (view_of_outcome c.args.outcome.now) c.args.steps c.args.verdict in
    let text = c.deref.ensures.value ∙ c.in_ok-put_last_lines.ensures ∙ ap (λ ls. ls ++ end) c.requires in
    handed_on c.from_residual-in_err-put.result (Fault c.in_err-put.field-0.0) _ c.from_residual-in_err-put.ensures (
      subst (AppendsFront (g.W.Write.contents c.args.writer.now.inner) (g.W.Write.contents c.put.new.self.inner)) text
          c.in_err-put.ensures.front,
      c.in_err-put.ensures.counted,
    )

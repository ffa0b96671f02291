use Rattle.std.proofs.Common.{refl, sym, ap, ◌∙◌, arith}
use Rattle.std.proofs.lemmas.Option.{slice_get_read}
use Rattle.pf_terms.specs.Value.{tuple}
use Rattle.pf_terms.specs.Term.{value_of}
use Rattle.pf_model.specs.Flush.{reports_of}
use Rattle.pf_inbox.proofs.Flushing.{second_reports, quiet_unless_five, reports_by_second}
use Rattle.pf_inbox.proofs.flush.reports_of.Goals as goal

pub returns-then-items-ne5 : goal.returns-then-items-ne5
returns-then-items-ne5 c =
    let r = c.args.reference in
    let items = c.as_slice-items.result.now in
    sym (ap (λ t. reports_of r (value_of t)) c.in-Tuple.is ∙ ap (λ vs. reports_of r (tuple vs))
    (sym (c.as_slice-items.ensures ∙ c.deref.ensures))
    ∙ quiet_unless_five r items c.if-items-ne5.true)

pub returns-in-Ref : goal.returns-in-Ref
returns-in-Ref c =
    let r = c.args.reference in
    let items = c.as_slice-items.result.now in
    let x = c.index-items-1.result in
    let at = slice_get_read items _ 1 x refl (omega (arith, c.if-items-ne5.false)) c.index-items-1.is in
    sym (ap (λ t. reports_of r (value_of t)) c.in-Tuple.is ∙ ap (λ vs. reports_of r (tuple vs))
    (sym (c.as_slice-items.ensures ∙ c.deref.ensures))
    ∙ reports_by_second r items x c.if-items-ne5.false at ∙ ap (λ t. second_reports r (value_of t)) c.in-Ref.is)

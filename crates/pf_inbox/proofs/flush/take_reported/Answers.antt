use Rattle.std.proofs.Common.{sym, ap, ◌∙◌, subst, length, map, remove}
use Rattle.std.specs.Prelude.{slice_get}
use Rattle.pf_terms.specs.Term.{value_of}
use Rattle.pf_inbox.proofs.Flushing.{QuietTo, flushed_at, reported_at, flushed_none, reported_none}
use Rattle.pf_inbox.proofs.flush.take_reported.Goals as goal

pub returns-then-reports_of-clause-flushed : goal.returns-then-reports_of-clause-flushed
returns-then-reports_of-clause-flushed c =
    let r = c.args.reference in let l = c.loop-message.list in let old = c.args.list.now.items in
    let same = c.loop-message.invariant.0 in
    ap (λ m. map value_of m.items) (c.reset_mark.ensures) ∙ ap (λ m. map value_of m.items)
    c.take_marked-message.ensures.others
    ∙ ap (λ xs. map value_of (remove xs l.mark)) same
    ∙ flushed_at r old l.mark c.in-Some.message.now c.loop-message.invariant.1
    (ap (λ xs. slice_get xs l.mark) (sym same) ∙ c.in-Some.ensures.item)
    (sym c.reports_of.ensures ∙ c.if-reports_of.true)

pub returns-then-reports_of-clause-reported : goal.returns-then-reports_of-clause-reported
returns-then-reports_of-clause-reported c =
    let l = c.loop-message.list in let same = c.loop-message.invariant.0 in
    reported_at c.args.reference c.args.list.now.items l.mark c.in-Some.message.now c.loop-message.invariant.1
    (ap (λ xs. slice_get xs l.mark) (sym same) ∙ c.in-Some.ensures.item)
    (sym c.reports_of.ensures ∙ c.if-reports_of.true)

pub returns-clause-flushed : goal.returns-clause-flushed
returns-clause-flushed c =
    let r = c.args.reference in let l = c.loop-message.list in let same = c.loop-message.invariant.0 in
    ap (λ m. map value_of m.items) c.reset_mark-2.ensures ∙ ap (map value_of) same
    ∙ flushed_none r c.args.list.now.items (subst (λ k. QuietTo r k c.args.list.now.items)
    (c.in_default.ensures.item ∙ ap length same) c.loop-message.invariant.1)

pub returns-clause-reported : goal.returns-clause-reported
returns-clause-reported c =
    let r = c.args.reference in let same = c.loop-message.invariant.0 in
    reported_none r c.args.list.now.items (subst (λ k. QuietTo r k c.args.list.now.items)
    (c.in_default.ensures.item ∙ ap length same) c.loop-message.invariant.1)

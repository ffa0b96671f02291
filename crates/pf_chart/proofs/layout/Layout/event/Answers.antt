use Rattle.std.proofs.Common.{List, ap, inl, inr, refl, subst}
use Rattle.std.proofs.lemmas.Result.{on_ok_weaker}
use Rattle.pf_model.specs.Reports.{view_of_event}
use Rattle.pf_chart.specs.declared.columns.Column.{Column}
use Rattle.pf_chart.proofs.Laying.{HasColumn, carried_laid, lacks, missing, no_delivery, none_laid, turn_laid}
use Rattle.pf_chart.proofs.layout.Layout.event.Goals as goal

pub returns-in-Some-clause-laid : goal.returns-in-Some-clause-laid
returns-in-Some-clause-laid c =
    let e = view_of_event c.args.event.now in
    let column = subst (λ (cs : List Column). HasColumn cs c.in-Process.pid c.in-Some.a) c.deref.ensures.value
    c.in-Some.ensures.found in
    on_ok_weaker c.turn.result
    (λ sends es at laid. turn_laid c.args.row e c.args.self.now c.turn.new.self c.turn.ensures.processes es at laid
    c.in-Process.pid c.in-Some.a c.in-Process.is column sends)
    c.turn.ensures.sends

pub returns-in-None-clause-laid : goal.returns-in-None-clause-laid
returns-in-None-clause-laid c = λ es at laid.
    let e = view_of_event c.args.event.now in
    none_laid c.args.row e c.args.self.now _ refl es at laid refl (no_delivery e c.in-Process.pid c.in-Process.is _)

pub returns-in-Some-Some-clause-laid : goal.returns-in-Some-Some-clause-laid
returns-in-Some-Some-clause-laid c =
    let e = view_of_event c.args.event.now in
    let p = c.in-Channel.from in
    let q = c.in-Channel.to in
    let sender = subst (λ (cs : List Column). HasColumn cs p c.in-Some-Some.a) c.deref-in-Channel.ensures.value
    c.in-Some-Some.ensures.found in
    let receiver = subst (λ (cs : List Column). HasColumn cs q c.in-Some-Some.b) c.deref-in-Channel-2.ensures.value
    c.in-Some-Some.ensures'.found in
    on_ok_weaker c.delivery.result
    (λ carried es at laid. carried_laid c.args.row e c.args.self.now c.delivery.new.self
    c.delivery.ensures.processes es at laid
    p q c.in-Some-Some.a c.in-Some-Some.b c.in-Channel.is sender receiver carried)
    c.delivery.ensures.carried

pub returns-in_default-clause-laid : goal.returns-in_default-clause-laid
returns-in_default-clause-laid c = λ es at laid.
    let e = view_of_event c.args.event.now in
    let l = c.args.self.now in
    let q = c.in-Channel.to in
    let none = lacks l.columns.items c.deref-in-Channel-2.result.now q c.deref-in-Channel-2.ensures.value laid.by_pid
    (λ sorted. c.column_of-in-Channel-2.ensures.missing c.in_default.is-1 sorted) in
    none_laid c.args.row e l _ refl es at laid refl
    (missing c.args.row e l l refl es at laid c.in-Channel.from q c.in-Channel.is (inr none))

pub returns-in_default-2-clause-laid : goal.returns-in_default-2-clause-laid
returns-in_default-2-clause-laid c = λ es at laid.
    let e = view_of_event c.args.event.now in
    let l = c.args.self.now in
    let p = c.in-Channel.from in
    let none = lacks l.columns.items c.deref-in-Channel.result.now p c.deref-in-Channel.ensures.value laid.by_pid
    (λ sorted. c.column_of-in-Channel.ensures.missing c.in_default.is-0 sorted) in
    none_laid c.args.row e l _ refl es at laid refl
    (missing c.args.row e l l refl es at laid p c.in-Channel.to c.in-Channel.is (inl none))

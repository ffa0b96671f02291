use Rattle.std.proofs.Common.{◌≡◌, ◌+◌, ◌-◌, [], ◌++◌, length, slice_get, None, Some, refl, sym, ap, ◌∙◌, subst}
use Rattle.std.proofs.Common.{append-nil, arith}
use Rattle.std.proofs.lemmas.Option.{slice_get_read}
use Rattle.pf_wire.proofs.Adding.{at_err}
use Rattle.pf_wire.specs.Whole.{whole_text, with_report}
use Rattle.pf_clients.specs.Texts.{EndsInText, reported_text}
use Rattle.pf_clients.proofs.Printed.{at_true, joined_text, longer_last, some_last, none_in, reported_more}
use Rattle.pf_clients.proofs.replies.add.Goals as goal

pub overflow_sub-last : goal.overflow_sub-last
overflow_sub-last c =
    let ends : EndsInText c.args.all.now.items =
    subst EndsInText c.deref.ensures.value (at_true c.joins.result c.if-joins.true c.joins.ensures).1 in
    omega (
      arith,
      some_last c.args.all.now.items ends.0 ends.1,
      ap length c.deref.ensures.value,
      c.deref.ensures.len,
      c.len-last.ensures,
    )

pub returns-in_err-extend_from_slice-clause-err : goal.returns-in_err-extend_from_slice-clause-err
returns-in_err-extend_from_slice-clause-err c =
    let ts = c.args.all.now.items in
    let t = c.index_mut.result.now in
    let ends : EndsInText ts = subst EndsInText c.deref.ensures.value
    (at_true c.joins.result c.if-joins.true c.joins.ensures).1 in
    let some = some_last ts ends.0 ends.1 in
    let len : length ts ≡ c.len-last.result - 1 + 1 =
    omega (arith, some, ap length c.deref.ensures.value, c.deref.ensures.len, c.len-last.ensures) in
    let is = slice_get_read ts (length ts) (c.len-last.result - 1) t refl (omega (arith, len))
    c.index_mut.ensures.value in
    let same : with_report c.extend_from_slice.new.self.items t.report ≡ whole_text t ++ [] =
    ap (λ s. with_report s t.report) c.in_err-extend_from_slice.ensures.items ∙ sym (append-nil (whole_text t)) in
    at_err c.from_residual.result
    (longer_last ts (c.len-last.result - 1) t (record { text = c.extend_from_slice.new.self; report = t.report }) [] len
    is same ∙ append-nil (reported_text ts))

pub returns-in_ok-extend_from_slice-clause-added : goal.returns-in_ok-extend_from_slice-clause-added
returns-in_ok-extend_from_slice-clause-added c =
    let ts = c.args.all.now.items in
    let t = c.index_mut.result.now in
    let both = at_true c.joins.result c.if-joins.true c.joins.ensures in
    let ends : EndsInText ts = subst EndsInText c.deref.ensures.value both.1 in
    let some = some_last ts ends.0 ends.1 in
    let len : length ts ≡ c.len-last.result - 1 + 1 =
    omega (arith, some, ap length c.deref.ensures.value, c.deref.ensures.len, c.len-last.ensures) in
    let is = slice_get_read ts (length ts) (c.len-last.result - 1) t refl (omega (arith, len))
    c.index_mut.ensures.value in
    let at : length ts - 1 ≡ c.len-last.result - 1 = omega (arith, len) in
    let last : Some ends.0 ≡ Some t = sym ends.1 ∙ ap (slice_get ts) at ∙ is in
    let none : t.report ≡ None = none_in ends.0 t last ends.2 in
    let longer = joined_text t c.args.reported c.extend_from_slice.new.self none both.0
    (c.in_ok-extend_from_slice.ensures.items ∙ ap (λ s. t.text.items ++ s) c.deref-then-joins.ensures.value) in
    longer_last ts (c.len-last.result - 1) t (record { text = c.extend_from_slice.new.self; report = t.report })
    (whole_text c.args.reported) len is longer

pub returns-in_ok-push-clause-added : goal.returns-in_ok-push-clause-added
returns-in_ok-push-clause-added c = ap reported_text c.in_ok-push.ensures.items
    ∙ reported_more c.args.all.now.items c.args.reported

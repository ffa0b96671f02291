use Rattle.std.proofs.Common.{◌≡◌, None, sym, ◌∙◌}
use Rattle.pf_clients.specs.Texts.{EndsInText}
use Rattle.pf_clients.proofs.Printed.{none_if_none, none_if_not_some, on_true}
use Rattle.pf_clients.proofs.replies.joins.Goals as goal

pub returns-then-is_none : goal.returns-then-is_none
returns-then-is_none c =
    let last = c.in-Some.last.now in
    let ends : EndsInText c.args.all.now = (
      last,
      sym c.in-Some.ensures.value,
      none_if_none last.report c.is_none.result c.is_none.ensures c.if-is_none.true,
    ) in
    let none : c.args.reported.now.report ≡ None = none_if_not_some c.args.reported.now.report c.is_some.result
    c.is_some.ensures c.if-is_some.false in
    let both : (c.args.reported.now.report ≡ None) × EndsInText c.args.all.now = (none, ends) in
    on_true _ both

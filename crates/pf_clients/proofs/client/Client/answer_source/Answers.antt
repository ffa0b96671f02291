use Rattle.std.proofs.Common.{inl, subst}
use Rattle.pf_clients.specs.Served.{IsServed}
use Rattle.pf_clients.proofs.client.Client.answer_source.Goals as goal

pub returns-in-Ok : goal.returns-in-Ok
returns-in-Ok g c =
    let was = c.args.self.now in
    let is = c.answer_lines.new.self in
    subst (λ o. IsServed g.S.Source.gives g.S.Source.lacks g.S.File.Read.remaining g.W.Write.contents o is.replies
    was.seat.project is.seat is.reported.items c.answer_lines.result) c.in-Some.ensures.value
    (inl (c.in-Ok.field-0, c.in-Ok.ensures.streams, rw c.replace-none.ensures.after at c.answer_lines.ensures))

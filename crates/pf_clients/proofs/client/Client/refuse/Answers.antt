use Rattle.pf_wire.specs.Whole.{whole_text}
use Rattle.pf_clients.proofs.Ends.{none_lost}
use Rattle.pf_clients.proofs.client.Client.refuse.Goals as goal

pub returns-in-Err-take : goal.returns-in-Err-take
returns-in-Err-take g c =
    let was = c.args.self.now in
    let is = c.take.new.self in
    none_lost g.W.Write.contents c.args.number c.args.bytes.now was.seat is.seat (whole_text c.in-Ok.reported)
    was.replies is.replies was.reported.items is.reported.items c.requires.some c.in-Err-take.end
    (c.requires.none, c.in-Err-take.ensures.seat, c.in-Ok.ensures) c.in-Err-take.ensures.beginning

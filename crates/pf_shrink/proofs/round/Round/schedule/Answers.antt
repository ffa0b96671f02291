use Rattle.std.proofs.Common.{◌∙◌, ap}
use Rattle.pf_shrink.proofs.Rounds.{schedule_where_none_left}
use Rattle.pf_shrink.proofs.round.Round.schedule.Goals as goal

pub returns : goal.returns
returns c =
    let none = ap (λ r. r.left) c.self.view_is ∙ c.requires in
    c.deref.ensures.value ∙ schedule_where_none_left c.self.inside.numbers.items c.self.inside.position
    c.self.invariant none
    ∙ ap (λ r. r.schedule) c.self.view_is

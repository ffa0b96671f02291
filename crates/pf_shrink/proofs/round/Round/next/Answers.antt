use Rattle.std.proofs.Common.{◌≡◌, ◌∙◌, sym, length}
use Rattle.pf_shrink.proofs.Rounds.{next_shorter, next_halved}
use Rattle.pf_shrink.proofs.round.Round.next.Goals as goal

pub returns-in-WithoutLast : goal.returns-in-WithoutLast
returns-in-WithoutLast c =
    let all : c.len.result ≡ length c.deref.result.now = c.len.ensures ∙ sym c.deref.ensures.len in
    rw (all, c.deref.ensures.value, ← c.self.view_is)
    (sym (next_shorter c.self.inside.numbers.items c.self.inside.position c.self.invariant c.in-WithoutLast.is))

pub returns-in-Halved : goal.returns-in-Halved
returns-in-Halved c =
    rw (c.deref-in-Halved.ensures.value, ← c.self.view_is)
    (sym (next_halved c.self.inside.numbers.items c.self.inside.position _ _ c.self.invariant c.in-Halved.is))

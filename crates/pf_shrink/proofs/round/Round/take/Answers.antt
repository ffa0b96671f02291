use Rattle.std.proofs.Common.{◌≡◌, ◌∙◌, ◌-◌, ap, length, take, vec_len, arith}
use Rattle.pf_shrink.proofs.Rounds.{taken_shorter, taken_same}
use Rattle.pf_shrink.proofs.round.Round.take.Goals.{in-WithoutLast, in-Halved}
use Rattle.pf_shrink.proofs.round.Round.take.Goals as goal

pub returns : goal.returns
returns c =
    let now = c.match-self.self-inside.numbers.items in
    let all : vec_len c.self.inside.numbers ≡ length c.self.inside.numbers.items =
    omega (arith, c.self.inside.numbers.ok.0) in
    elim c.match-self.branch [
      | in-WithoutLast w ↦
          let short : now ≡ take (length c.self.inside.numbers.items - 1) c.self.inside.numbers.items =
          ap (λ r. r.numbers.items) w.self-inside-is ∙ w.pop.ensures.rest
          ∙ ap (λ n. take (n - 1) c.self.inside.numbers.items) all in
          taken_shorter c.self.inside.numbers.items now c.deref.result.now c.self.inside.position
          c.first_position-self-inside.result c.args.self.now
          c.self.invariant c.self.view_is w.in-WithoutLast.is short c.deref.ensures.value
          c.first_position-self-inside.ensures.begun
      | in-Halved w ↦
          rw w.self-inside-is
          (taken_same c.self.inside.numbers.items c.deref.result.now c.self.inside.position
          c.first_position-self-inside.result c.args.self.now
          c.self.invariant c.self.view_is w.in-Halved.is
          (c.deref.ensures.value ∙ ap (λ r. r.numbers.items) w.self-inside-is)
          c.first_position-self-inside.ensures.begun)
    ]

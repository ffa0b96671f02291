use Rattle.std.proofs.Common.{refl, ap, subst}
use Rattle.rand_pcg.specs.Pcg.{pcg32}
use Rattle.pf_strategy.specs.Keys.{keys_among}
use Rattle.pf_strategy.specs.Places.{KeepsPlace}
use Rattle.pf_strategy.specs.Priorities.{held}
use Rattle.pf_strategy.proofs.Renewed.{chosen_alike}
use Rattle.pf_strategy.proofs.priorities.Priorities.renew.Goals as goal

pub returns-then-keeps_place : goal.returns-then-keeps_place
returns-then-keeps_place c =
    let keys = keys_among c.args.pids.now c.args.channels.now in
    let s = c.args.self.now in
    let keeps : KeepsPlace keys s.held.items s.gone =
    subst (λ hs. KeepsPlace keys hs s.gone) c.deref.ensures.value (c.keeps_place.ensures c.if-keeps_place.true) in
    chosen_alike pcg32 keys s.held.items _ s.gone s.generator c.next_word.new.self c.index_mut.result.now
    (held c.index_mut.result.now.key c.next_word.result) keeps c.index_mut.ensures.value refl
    (ap (λ z. z.0) c.next_word.ensures) (ap (λ z. z.1) c.next_word.ensures) refl

use Rattle.std.proofs.Common.{◌≡◌, ◌+◌, ◌<◌, length, sym, ap, ◌∙◌, arith}
use Rattle.std.proofs.lemmas.Result.{IfOk-weaker}
use Rattle.rand_pcg.specs.Pcg.{pcg32}
use Rattle.pf_model.specs.Channels.{heads}
use Rattle.pf_model.specs.Configuration.{Configuration}
use Rattle.pf_model.specs.Runs.{ready}
use Rattle.pf_strategy.specs.Keys.{keys_among}
use Rattle.pf_strategy.specs.Priorities.{choice, state_of}
use Rattle.pf_strategy.specs.Runs.{choose_by_priorities}
use Rattle.pf_system.specs.Steps.{IsNoteOf, noted_actors}
use Rattle.pf_system.proofs.WhoMayGo.{noted_count}
use Rattle.pf_sched.proofs.chooser.ActorPriorities.choose.Goals as goal

pub choose-requires : goal.choose-requires
choose-requires c =
    let pids = ap length c.pids.ensures in
    let channels = ap length (c.as_slice.ensures.value ∙ c.in_ok-put_channels.ensures) in
    omega (arith, c.requires, noted_count c.args.enabled.now, pids, channels)

pub returns-clause-chooses : goal.returns-clause-chooses
returns-clause-chooses c =
    let p = c.args.self.now.priorities in
    let p' = c.choose.new.self in
    IfOk-weaker c.choose.result
    (λ i. choice pcg32 (state_of p) (keys_among c.pids.result.now c.as_slice.result.now) ≡ (i, state_of p'))
    (λ i. (d : Configuration) → IsNoteOf c.args.enabled.now d
    → choose_by_priorities (state_of p) (ready d) (heads d.channels) ≡ (i, state_of p'))
    (λ i chosen d note.
    let keys : keys_among c.pids.result.now c.as_slice.result.now ≡ keys_among (ready d) (heads d.channels) =
    ap (λ xs. keys_among xs c.as_slice.result.now) (c.pids.ensures ∙ note.processes)
    ∙ ap (keys_among (ready d)) (c.as_slice.ensures.value ∙ c.in_ok-put_channels.ensures ∙ note.channels) in
    ap (choice pcg32 (state_of p)) (sym keys) ∙ chosen)
    c.choose.ensures.choice

pub returns-clause-one : goal.returns-clause-one
returns-clause-one c =
    let pids = ap length c.pids.ensures in
    let channels = ap length (c.as_slice.ensures.value ∙ c.in_ok-put_channels.ensures) in
    IfOk-weaker c.choose.result (λ i. i < length c.pids.result.now + length c.as_slice.result.now)
    (λ i. i < length (noted_actors c.args.enabled.now))
    (λ i below. omega (arith, below, noted_count c.args.enabled.now, pids, channels))
    c.choose.ensures.one

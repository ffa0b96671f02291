use Rattle.std.proofs.Common.{◌≡◌, ◌+◌, ◌<◌, length, sym, ap, ◌∙◌, arith, subst}
use Rattle.std.proofs.lemmas.Result.{IfOk-weaker}
use Rattle.pf_model.specs.Channels.{heads}
use Rattle.pf_model.specs.Configuration.{Configuration}
use Rattle.pf_model.specs.Runs.{ready}
use Rattle.pf_system.specs.Steps.{IsNoteOf, noted_actors}
use Rattle.pf_system.proofs.WhoMayGo.{noted_count}
use Rattle.pf_sched.specs.Traces.{ChoosesLast}
use Rattle.pf_sched.proofs.last.LastChooser.choose.Goals as goal

pub choose_last-requires : goal.choose_last-requires
choose_last-requires c =
    let pids = ap length c.pids.ensures in
    let channels = ap length (c.as_slice.ensures.value ∙ c.in_ok-put_channels.ensures) in
    omega (arith, c.requires, noted_count c.args.enabled.now, pids, channels)

pub returns-clause-chooses : goal.returns-clause-chooses
returns-clause-chooses c =
    let p = c.args.self.now.others.last in
    let by = c.args.self.now.by in
    let by' = c.choose_last.new.by in
    IfOk-weaker c.choose_last.result
    (λ i. ChoosesLast p by c.pids.result.now c.as_slice.result.now i by')
    (λ i. (d : Configuration) → IsNoteOf c.args.enabled.now d
    → ChoosesLast p by (ready d) (heads d.channels) i by')
    (λ i chosen d note.
    subst (λ xs. ChoosesLast p by (ready d) xs i by')
    (c.as_slice.ensures.value ∙ c.in_ok-put_channels.ensures ∙ note.channels)
    (subst (λ xs. ChoosesLast p by xs c.as_slice.result.now i by') (c.pids.ensures ∙ note.processes) chosen))
    c.choose_last.ensures.chooses

pub returns-clause-one : goal.returns-clause-one
returns-clause-one c =
    let pids = ap length c.pids.ensures in
    let channels = ap length (c.as_slice.ensures.value ∙ c.in_ok-put_channels.ensures) in
    IfOk-weaker c.choose_last.result (λ i. i < length c.pids.result.now + length c.as_slice.result.now)
    (λ i. i < length (noted_actors c.args.enabled.now))
    (λ i below. omega (arith, below, noted_count c.args.enabled.now, pids, channels))
    c.choose_last.ensures.one

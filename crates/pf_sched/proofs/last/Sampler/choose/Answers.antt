use Rattle.std.proofs.Common.{◌≡◌, ap, length, sym, subst}
use Rattle.std.proofs.lemmas.Result.{IfOk-weaker}
use Rattle.pf_strategy.specs.Priorities.{state_of}
use Rattle.pf_strategy.specs.Runs.{choose_by_priorities}
use Rattle.pf_sched.specs.Traces.{ChoosesAmong, NotesChoice}
use Rattle.pf_sched.specs.declared.last.Sampler.TheVariants as sampler
use Rattle.pf_sched.proofs.Lasting.{among_by_choices, among_by_noted, among_by_priorities}
use Rattle.pf_sched.proofs.last.Sampler.choose.Goals as goal

pub returns-in-Choices-clause-chooses : goal.returns-in-Choices-clause-chooses
returns-in-Choices-clause-chooses c =
    let q' = c.next_among.new.choices in
    let pids = c.args.pids.now in
    let channels = c.args.channels.now in
    subst (λ q. ChoosesAmong q pids channels c.next_among.result (sampler.Choices q')) (sym c.in-Choices.is)
    (among_by_choices c.in-Choices.choices q' pids channels c.next_among.result c.next_among.ensures.chooses)

pub returns-in-Priorities-clause-chooses : goal.returns-in-Priorities-clause-chooses
returns-in-Priorities-clause-chooses c =
    let p = c.in-Priorities.priorities in
    let p' = c.choose.new.self in
    let pids = c.args.pids.now in
    let channels = c.args.channels.now in
    IfOk-weaker c.choose.result
    (λ i. choose_by_priorities (state_of p) pids channels ≡ (i, state_of p'))
    (λ i. ChoosesAmong c.args.self.now pids channels i (sampler.Priorities p'))
    (λ i chosen. subst (λ q. ChoosesAmong q pids channels i (sampler.Priorities p')) (sym c.in-Priorities.is)
    (among_by_priorities p p' pids channels i chosen))
    c.choose.ensures.choice

pub returns-in-Noted-clause-chooses : goal.returns-in-Noted-clause-chooses
returns-in-Noted-clause-chooses c =
    let n = c.in-Noted.noted in
    let n' = c.choose-in-Noted.new.self in
    let pids = c.args.pids.now in
    let channels = c.args.channels.now in
    IfOk-weaker c.choose-in-Noted.result
    (λ i. NotesChoice n (length pids) (length channels) i n')
    (λ i. ChoosesAmong c.args.self.now pids channels i (sampler.Noted n'))
    (λ i notes. subst (λ q. ChoosesAmong q pids channels i (sampler.Noted n')) (sym c.in-Noted.is)
    (among_by_noted n n' pids channels i notes))
    c.choose-in-Noted.ensures.notes

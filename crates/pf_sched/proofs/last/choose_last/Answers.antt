use Rattle.std.proofs.Common.{◌≡◌, ◌∙◌, ap, arith, length, sym, subst}
use Rattle.std.proofs.lemmas.Result.{IfOk-weaker}
use Rattle.pf_strategy.specs.Last.{are_others, place}
use Rattle.pf_strategy.proofs.Lasting.{other_within}
use Rattle.pf_sched.specs.Traces.{ChoosesAmong, ChoosesLast}
use Rattle.pf_sched.proofs.Lasting.{chosen_of_all, chosen_of_others}
use Rattle.pf_sched.proofs.last.choose_last.Goals as goal

pub returns-then-not-any-clause-chooses : goal.returns-then-not-any-clause-chooses
returns-then-not-any-clause-chooses c =
    let o = c.gather.new.self in
    let by = c.args.by.now in
    let by' = c.choose.new.self in
    let pids = c.args.pids.now in
    let channels = c.args.channels.now in
    let p = c.args.others.now.last in
    IfOk-weaker c.choose.result (λ i. ChoosesAmong by pids channels i by')
    (λ i. ChoosesLast p by pids channels i by')
    (λ i chosen.
    chosen_of_all o by by' pids channels c.in_ok-gather.ensures.others i p c.in_ok-gather.ensures.last
    (sym c.any.ensures ∙ c.if-not-any.true) chosen)
    c.choose.ensures.chooses

pub returns-clause-chooses : goal.returns-clause-chooses
returns-clause-chooses c =
    let o = c.gather.new.self in
    let by = c.args.by.now in
    let by' = c.choose-2.new.self in
    let n = c.in_ok-number.number in
    let among =
    subst (λ xs. ChoosesAmong by xs o.channels.items n by') c.pids.ensures
    (subst (λ xs. ChoosesAmong by c.pids.result.now xs n by') c.channels.ensures c.in_ok-number.ensures.chooses) in
    chosen_of_others o by by' c.args.pids.now c.args.channels.now c.in_ok-gather.ensures.others n c.place.result
    c.args.others.now.last
    c.in_ok-gather.ensures.last (sym c.any.ensures ∙ c.if-not-any.false) among c.place.ensures

pub returns-clause-one : goal.returns-clause-one
returns-clause-one c =
    let o = c.gather.new.self in
    let n = c.in_ok-number.number in
    let pids = c.args.pids.now in
    let channels = c.args.channels.now in
    let are = c.in_ok-gather.ensures.others in
    let processes = ap length (c.pids.ensures ∙ are.processes) in
    let ways = ap length (c.channels.ensures ∙ are.ways) in
    let at : c.place.result ≡ place n (are_others o.last pids channels) = c.place.ensures ∙ ap (place n) are.marks in
    let within = other_within o.last n pids channels (omega (arith, c.in_ok-number.ensures.one, processes, ways)) in
    omega (arith, at, within)

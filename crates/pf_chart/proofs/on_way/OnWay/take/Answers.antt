use Rattle.std.proofs.Common.{sym, ap, ◌∙◌, ◌++◌, rules}
use Rattle.std.specs.Prelude.{option_to_list}
use Rattle.pf_chart.specs.Traffic.{items_of}
use Rattle.pf_chart.proofs.Ways.{same_others, same_waiting}
use Rattle.pf_chart.proofs.on_way.OnWay.take.Goals as goal

pub returns-in-Some-clause-first : goal.returns-in-Some-clause-first
returns-in-Some-clause-first c =
    let put = (c.get_mut.follows.holds c.pop_front.new.self).3 (search rules) in
    sym (ap (items_of (λ q. q.items)) c.in-Some.ensures.value) ∙ c.pop_front.ensures.items
    ∙ ap (λ xs. option_to_list c.pop_front.result ++ xs) (sym (ap (items_of (λ q. q.items)) put.1))

pub returns-in-Some-clause-others : goal.returns-in-Some-clause-others
returns-in-Some-clause-others c =
    let put = (c.get_mut.follows.holds c.pop_front.new.self).3 (search rules) in
    λ v h. ap (items_of (λ q. q.items)) (put.2 v h)

pub returns-in-None-clause-first : goal.returns-in-None-clause-first
returns-in-None-clause-first c = sym (same_waiting c.args.self.now _ c.args.way c.get_mut.follows.holds-at-none)

pub returns-in-None-clause-others : goal.returns-in-None-clause-others
returns-in-None-clause-others c = same_others c.args.self.now _ c.args.way c.get_mut.follows.holds-at-none

use Rattle.std.proofs.Common.{ap, ◌∙◌, ◌++◌, ◌∷◌, [], rules}
use Rattle.std.proofs.lemmas.Result.{on_ok_weaker}
use Rattle.pf_chart.specs.Traffic.{items_of}
use Rattle.pf_chart.proofs.Ways.{same_waiting}
use Rattle.pf_chart.proofs.on_way.OnWay.put.Goals as goal

pub returns-in_ok-push_back-in-Some-clause-last : goal.returns-in_ok-push_back-in-Some-clause-last
returns-in_ok-push_back-in-Some-clause-last c =
    let put = (c.get_mut.follows.holds c.push_back.new.self).3 (search rules) in
    ap (items_of (λ q. q.items)) put.1 ∙ c.in_ok-push_back-in-Some.ensures.items
    ∙ ap (λ xs. xs ++ c.args.signal ∷ []) (ap (items_of (λ q. q.items)) c.in-Some.ensures.value)

pub returns-in_ok-push_back-in-Some-clause-others : goal.returns-in_ok-push_back-in-Some-clause-others
returns-in_ok-push_back-in-Some-clause-others c =
    let put = (c.get_mut.follows.holds c.push_back.new.self).3 (search rules) in
    λ v h. ap (items_of (λ q. q.items)) (put.2 v h)

pub returns-in-None-clause-last : goal.returns-in-None-clause-last
returns-in-None-clause-last c =
    on_ok_weaker c.open.result
    (λ h. h ∙ ap (λ xs. xs ++ c.args.signal ∷ []) (ap (items_of (λ q. q.items)) c.in-None.ensures.value))
    c.open.ensures.only

pub returns-in-None-clause-others : goal.returns-in-None-clause-others
returns-in-None-clause-others c =
    on_ok_weaker c.open.result (λ h. λ v n. h v n ∙ same_waiting c.args.self.now _ v c.get_mut.follows.holds-at-none)
    c.open.ensures.others

use Rattle.std.proofs.Common.{ap, ◌∙◌, ◌++◌, ◌∷◌, []}
use Rattle.pf_chart.specs.Traffic.{items_of}
use Rattle.pf_chart.proofs.on_way.OnWay.open.Goals as goal

pub returns-clause-only : goal.returns-clause-only
returns-clause-only c =
    ap (items_of (λ q. q.items)) c.in_ok-insert.ensures.updates.1 ∙ c.in_ok-push_back.ensures.items
    ∙ ap (λ xs. xs ++ c.args.signal ∷ []) c.new-queue.ensures.items

pub returns-clause-others : goal.returns-clause-others
returns-clause-others c = λ v h. ap (items_of (λ q. q.items)) (c.in_ok-insert.ensures.updates.2 v h)

use Rattle.std.proofs.Common.{◌∙◌, ◌++◌, ◌∷◌, [], take, ap}
use Rattle.pf_explore.proofs.branch.deviating.Goals as goal

pub returns : goal.returns
returns c =
    c.in_ok-push.ensures.items
    ∙ ap (λ ns. ns ++ c.args.choice ∷ []) (c.truncate.ensures.items ∙ ap (take c.args.index) c.in_ok-numbers.ensures)

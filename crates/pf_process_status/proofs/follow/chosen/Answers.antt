use Rattle.std.proofs.Common.{sym, ap, ◌∙◌}
use Rattle.std.specs.Prelude.{slice_get}
use Rattle.pf_system.specs.Steps.{noted_actors}
use Rattle.pf_system.proofs.WhoMayGo.{may_go}
use Rattle.pf_process_status.proofs.follow.chosen.Goals as goal

pub returns-then-index-len-clause-may_go : goal.returns-then-index-len-clause-may_go
returns-then-index-len-clause-may_go c =
    may_go c.args.system.now (noted_actors c.enabled-enabled.result) c.enabled-enabled.ensures.actors
    c.args.choice c.actor.result c.actor.ensures

pub returns-then-index-len-clause-chosen : goal.returns-then-index-len-clause-chosen
returns-then-index-len-clause-chosen c d is_there =
    sym (ap (λ xs. slice_get xs c.args.choice) (sym (c.enabled-enabled.ensures.actors d is_there)) ∙ c.actor.ensures)

use Rattle.std.proofs.lemmas.Result.{IfOk-weaker, IfErr-weaker}
use Rattle.pf_steps.specs.Profile.{run_profile}
use Rattle.pf_steps.proofs.Right.{right}
use Rattle.pf_steps.proofs.steps.run_steps.Goals as goal

pub returns-clause-answered : goal.returns-clause-answered
returns-clause-answered g c = IfOk-weaker c.run_steps.result _ _ (λ status h. h run_profile right)
    c.run_steps.ensures.answered

pub returns-clause-fault : goal.returns-clause-fault
returns-clause-fault g c = IfErr-weaker c.run_steps.result _ _ (λ e h. h run_profile right) c.run_steps.ensures.fault

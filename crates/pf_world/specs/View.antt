-- What the code's own steps stand for.
use Rattle.pf_request.specs.View.{view_of_call}
use Rattle.pf_request.specs.declared.step.Step.{Step}
use Rattle.pf_request.specs.declared.step.Step.TheVariants as step
use Rattle.pf_world.specs.Steps.{WorldStep, client_calls, worker_does}

abbrev pub view_of_step : Step → WorldStep
view_of_step (step.Call q c) = client_calls q (view_of_call c)
view_of_step (step.Chore w q t k) = worker_does w q t k

use Rattle.std.proofs.Common.{◌++◌, ap, ◌∙◌}
use Rattle.pf_request.specs.Calls.{usage}
use Rattle.pf_world.specs.Steps.{client_calls}
use Rattle.pf_world.specs.Reported.{step_text}
use Rattle.pf_pool.specs.Responses.{response_in}
use Rattle.pf_clients.proofs.Lines.{outcome_of_call}
use Rattle.pf_clients.proofs.line.text_of.Goals as goal

-- the text of an outcome of a client's step is the same for each call
pub returns : goal.returns
returns c =
    let q = c.args.project in
    let step = client_calls q usage in
    let response = response_in c.response_of-response.result in
    c.in_ok-put_outcome.ensures step c.client_of.ensures ∙ ap (λ t. t ++ step_text step response) c.new.ensures.items
    ∙ ap (step_text step) c.response_of-response.ensures ∙ outcome_of_call q usage c.args.outcome

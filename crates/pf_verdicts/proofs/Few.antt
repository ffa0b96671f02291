-- A report that a job means has few events.
use Rattle.std.proofs.Common.{◌≡◌, ◌≤◌, Some, length, ap, ◌∙◌, arith}
use Rattle.std.proofs.lemmas.List.{length-map}
use Rattle.pf_model.specs.Meaning.{Report, event_of_transition}
use Rattle.pf_model.specs.Runs.{start}
use Rattle.pf_request.specs.Job.{Job}
use Rattle.pf_strategy.specs.declared.strategy.SeedChoice.{SeedChoice}
use Rattle.pf_sched.specs.Asked.{IsValid}
use Rattle.pf_sched.specs.Choosing.{MeansFor, chooser_of, choosing_of, first_of}
use Rattle.pf_sched.proofs.Asking.{within_bounds}
use Rattle.pf_sched.proofs.Past.{within_steps}

pub few_events : (g : SeedChoice) (j : Job) (r : Report) → IsValid j → MeansFor (choosing_of (Some g) j.asked) j.asked r
    → length r.events ≤ 100000
few_events g j r valid h =
    let w = choosing_of (Some g) j.asked in
    let within = within_steps j.asked.code (chooser_of w) (first_of w) j.asked.limit
    (start j.asked.root j.asked.edition) h.transitions h.last r.steps h.state h.run.goes in
    let made : length r.events ≡ length h.transitions = ap (λ z. length z.events) h.report
    ∙ length-map h.transitions event_of_transition in
    let bounds = (within_bounds j valid).0 in
    omega (arith, within, made, bounds)

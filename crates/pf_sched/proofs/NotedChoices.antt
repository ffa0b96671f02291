-- What a run by a schedule where a process goes last is, with its choices.
use Rattle.std.proofs.Common.{◌≡◌, ◌∙◌, ℕ, List, Some, ap, sym}
use Rattle.pf_model.specs.Meaning as model
use Rattle.pf_model.specs.Meaning.{Event, Report, schedule}
use Rattle.pf_request.specs.Job.{Job}
use Rattle.pf_strategy.specs.Noted.{MakesChoices}
use Rattle.pf_strategy.specs.declared.noted.ChoicePoint.{ChoicePoint}
use Rattle.pf_sched.specs.Choosing.{StateOf, last, noted}
use Rattle.pf_sched.specs.Closing.{ClosesRun}
use Rattle.pf_sched.specs.Parts.{Executes}
use Rattle.pf_sched.specs.Slices.{IsRunOver}
use Rattle.pf_sched.specs.Traces.{IsIn, IsSampler, noted_by, points_in}
use Rattle.pf_sched.specs.declared.chooser.ActorChooser.{ActorChooser}
use Rattle.pf_sched.specs.declared.chooser.ActorChooser.TheVariants as code
use Rattle.pf_sched.specs.declared.execution.Execution.{Execution}
use Rattle.pf_sched.specs.declared.last.Sampler.{Sampler}
use Rattle.pf_sched.specs.declared.last.Sampler.TheVariants as sampler
use Rattle.pf_sched.proofs.Reported.{means_in_state}

-- what is noted is what the state has
noted_in_sampler : (cs : model.Choices) (s : StateOf (noted cs)) (q : Sampler) → IsSampler (noted cs) s q
    → s.1 ≡ noted_by q
noted_in_sampler cs s (sampler.Choices q) is = absurd is
noted_in_sampler cs s (sampler.Priorities p) is = absurd is
noted_in_sampler cs s (sampler.Noted n) is = is.1

noted_in : (p : ℕ) (cs : model.Choices) (s : StateOf (last p (noted cs))) (q : ActorChooser)
    → IsIn (last p (noted cs)) s q → s.1 ≡ points_in q
noted_in p cs s (code.Choices q) is = absurd is
noted_in p cs s (code.Priorities q) is = absurd is
noted_in p cs s (code.Last l) is = noted_in_sampler cs s l.by is.1

-- the choices of a run that is over are those that are noted
pub makes_choices : (j : Job) (p : ℕ) (ns : List ℕ) (es : List Event) (x : Execution)
    → Executes j (last p (noted (schedule ns))) es x → IsRunOver j.asked.limit x → (r : Report)
    → ClosesRun j es x.system r → (points : List ChoicePoint) → points ≡ points_in x.chooser
    → MakesChoices (Some p) j.asked ns points r
makes_choices j p ns es x g over r reported points are =
    let h = means_in_state j (last p (noted (schedule ns))) es x g over r reported in
    (h.0, ap (λ s. s.1) h.1 ∙ noted_in p (schedule ns) g.state x.chooser g.is_in ∙ sym are)

-- The report of a run that is over.
use Rattle.std.proofs.Common.{◌≡◌, inl, inr, ℕ, ◌-◌, List, map, Option, Bool, refl, sym, ap, ◌∙◌, subst}
use Rattle.pf_model.specs.Choosers.{Chooser}
use Rattle.pf_model.specs.Configuration.{Configuration}
use Rattle.pf_model.specs.Meaning as model
use Rattle.pf_model.specs.Meaning.{Choices, Event, Means, MeansBy, Report, event_of_transition, outcome_of}
use Rattle.pf_model.specs.Properties.{Outcome, verdict}
use Rattle.pf_model.specs.Runs.{Run, Stops, start}
use Rattle.pf_property.proofs.Shown.{labels_of_run}
use Rattle.pf_request.specs.Job.{Job}
use Rattle.pf_system.specs.Steps.{Represents}
use Rattle.pf_system.specs.View.{SystemView}
use Rattle.pf_system.proofs.WhoMayGo.{actors_of}
use Rattle.pf_sched.specs.declared.execution.Execution.{Execution}
use Rattle.pf_sched.specs.Choosing.{Choosing, MeansFor, choices}
use Rattle.pf_sched.specs.Closing.{ClosesRun}
use Rattle.pf_sched.specs.Parts.{Executes}
use Rattle.pf_sched.specs.Slices.{IsRunOver}
use Rattle.pf_sched.specs.Traces.{Going}

-- where a run is over, it stops in the configuration that its system represents
pub stops_by : (limit : ℕ) (x : Execution) (c : Configuration) → Represents x.system c → IsRunOver limit x
    → Stops (limit - x.system.steps) c
stops_by limit x c r (inl none) = inl (sym (actors_of x.system c r) ∙ none)
stops_by limit x c r (inr none) = inr none

-- and it is over where it stops in that
pub over_by : (limit : ℕ) (x : Execution) (c : Configuration) → Represents x.system c
    → Stops (limit - x.system.steps) c → IsRunOver limit x
over_by limit x c r (inl none) = inl (actors_of x.system c r ∙ none)
over_by limit x c r (inr none) = inr none

-- the report with the events of a whole run and how it ended is what the job means by the chooser of the run
pub means_by : {S : Type 0} {choose : Chooser S} {s : S} {j : Job} {es : List Event} {x : SystemView} {t : S}
    (g : Going choose s j es x t)
    → Stops (j.asked.limit - x.steps) g.last → (r : Report) → ClosesRun j es x r → MeansBy choose s j.asked r
means_by {choose = choose} {s = s} {j = j} {es = es} {x = x} {t = t} g over r reported =
    record {
      transitions = g.transitions;
      last = g.last;
      state = t;
      run =
          subst (λ k. Run j.asked.code choose s j.asked.limit (start j.asked.root j.asked.edition) g.transitions g.last
          k t) (sym reported.steps)
          (record { goes = g.goes; stops = over });
      report = ap (λ xs. report_of xs r.outcome r.verdict) (reported.events ∙ g.events)
          ∙ ap (λ o. report_of events o r.verdict) (reported.outcome g.last g.is_there)
          ∙ ap (report_of events (outcome_of g.last)) v;
    }
  where
    report_of : List Event → Outcome → Option Bool → Report
    report_of xs o w = record { events = xs; outcome = o; steps = r.steps; verdict = w }

    events : List Event
    events = map event_of_transition g.transitions

    v : r.verdict ≡ verdict j.asked.property (map (λ u. u.label) g.transitions) (outcome_of g.last)
    v =
        reported.verdict ∙ ap (λ ls. verdict j.asked.property ls r.outcome) (labels_of_run es g.transitions g.events)
        ∙ ap (verdict j.asked.property (map (λ u. u.label) g.transitions)) (reported.outcome g.last g.is_there)

-- where these choices choose a job means what it means with them in place of its own
pub with_choices : (j : model.Job) (cs : Choices) (r : Report) → MeansFor (choices cs) j r
    → Means (record j { choices = cs }) r
with_choices j cs r h = record {
  transitions = h.transitions;
  last = h.last;
  state = h.state;
  run = h.run;
  report = h.report;
}

pub for_choices : (j : model.Job) (cs : Choices) (r : Report) → Means (record j { choices = cs }) r
    → MeansFor (choices cs) j r
for_choices j cs r h = record {
  transitions = h.transitions;
  last = h.last;
  state = h.state;
  run = h.run;
  report = h.report;
}

-- and what a job means by what chooses in the run
pub means : (j : Job) (w : Choosing) (es : List Event) (x : Execution) → Executes j w es x → IsRunOver j.asked.limit x
    → (r : Report) → ClosesRun j es x.system r
    → MeansFor w j.asked r
means j w es x g over r reported =
    means_by g.run (stops_by j.asked.limit x g.run.last g.run.is_there over) r reported

-- from the state in which it is then
pub means_in_state : (j : Job) (w : Choosing) (es : List Event) (x : Execution) (g : Executes j w es x)
    → IsRunOver j.asked.limit x → (r : Report) → ClosesRun j es x.system r
    → (h : MeansFor w j.asked r) × (h.state ≡ g.state)
unfolding means means_by
means_in_state j w es x g over r reported = (means j w es x g over r reported, refl)

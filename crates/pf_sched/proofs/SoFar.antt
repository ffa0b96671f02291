-- A run so far, by whichever chooser: how many events it has, and what comes after them in a run that stops.
use Rattle.std.proofs.Common.{◌≡◌, inr, ◌-◌, ◌<◌, ◌≤◌, List, ◌++◌, length, map, sym, ap, ◌∙◌, arith}
use Rattle.std.proofs.lemmas.List.{length-map, map-append}
use Rattle.pf_model.specs.Choosers.{Chooser}
use Rattle.pf_model.specs.Meaning.{Event, MeansBy, Report, event_of_transition}
use Rattle.pf_model.specs.Runs.{Stops, start}
use Rattle.pf_request.specs.Job.{Job}
use Rattle.pf_system.specs.View.{SystemView}
use Rattle.pf_sched.specs.Traces.{Going}
use Rattle.pf_sched.proofs.Past.{as_many_steps, first_transitions, longer, within_steps}

module _ {S : Type 0} {choose : Chooser S} {s : S} {j : Job} {es : List Event} {x : SystemView} {t : S}
    (g : Going choose s j es x t) where
  -- as many events as transitions
  pub made : length es ≡ length g.transitions
  made = ap length g.events ∙ length-map g.transitions event_of_transition

  -- no more than the limit has steps
  pub few_so_far : length es ≤ j.asked.limit
  few_so_far = omega (arith, made, within)
    where
      within : length g.transitions ≤ j.asked.limit
      within = within_steps j.asked.code choose s j.asked.limit (start j.asked.root j.asked.edition) g.transitions
          g.last x.steps t g.goes

  -- and as many end it
  pub ends_by_limit : j.asked.limit ≤ length es → Stops (j.asked.limit - x.steps) g.last
  ends_by_limit all = inr (omega (arith, all, made, steps))
    where
      steps : length g.transitions ≤ x.steps
      steps = as_many_steps j.asked.code choose s j.asked.limit (start j.asked.root j.asked.edition) g.transitions
          g.last x.steps t g.goes

  -- where it doesn't stop there are more to come
  pub has_more_to_come : (Stops (j.asked.limit - x.steps) g.last → ⊥) → (r : Report) → MeansBy choose s j.asked r
      → length es < length r.events
  has_more_to_come going r h = omega (arith, more, made, all)
    where
      more : length g.transitions < length h.transitions
      more =
          longer j.asked.code choose s j.asked.limit (start j.asked.root j.asked.edition) g.transitions g.last
          x.steps t g.goes going
          h.transitions h.last r.steps h.state h.run.goes h.run.stops

      all : length r.events ≡ length h.transitions
      all = ap (λ z. length z.events) h.report ∙ length-map h.transitions event_of_transition

  -- they are the first of those that the job means
  pub are_first : (r : Report) → MeansBy choose s j.asked r → (rest : List Event) × (r.events ≡ es ++ rest)
  are_first r h =
      let f =
      first_transitions j.asked.code choose s j.asked.limit (start j.asked.root j.asked.edition) g.transitions g.last
      x.steps t g.goes
      h.transitions h.last r.steps h.state h.run.goes h.run.stops in (
        map event_of_transition f.0,
        ap (λ z. z.events) h.report ∙ ap (map event_of_transition) f.1 ∙ map-append event_of_transition
            g.transitions f.0
            ∙ ap (λ (xs : List Event). xs ++ map event_of_transition f.0) (sym g.events),
      )

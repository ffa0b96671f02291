-- What a slice leaves of the run of a job.
use Rattle.std.proofs.Common.{◌≡◌, ◌⊎◌, inl, inr, ℕ, zero, suc, ◌+◌, ◌-◌, ◌<◌, ◌≤◌, Bool, true, false, List, length}
use Rattle.std.proofs.Common.{sym, ap, ◌∙◌, subst, arith}
use Rattle.std.specs.Prelude.{MatchBool}
use Rattle.pf_terms.specs.Atoms.{name_of}
use Rattle.pf_model.specs.Configuration.{Configuration}
use Rattle.pf_model.specs.Meaning as meaning
use Rattle.pf_model.specs.Properties.{some_label}
use Rattle.pf_model.specs.Runs.{Stops}
use Rattle.pf_model.specs.Shrinking as shrinking
use Rattle.pf_property.specs.Judging.{rules_out}
use Rattle.pf_property.specs.Views.{labels_in, property_of}
use Rattle.pf_system.specs.Steps.{Represents}
use Rattle.pf_system.specs.View.{SystemView}
use Rattle.pf_request.specs.Job.{Job}
use Rattle.pf_trace.specs.Written.{AreWritten, AreWrittenSoFar, events_of, report_in, reported_so_far}
use Rattle.pf_trace.specs.declared.lines.WrittenReport.{WrittenReport}
use Rattle.pf_sched.specs.Asked.{IsValid}
use Rattle.pf_sched.specs.Choosing.{Choosing, MeansFor, choices}
use Rattle.pf_sched.specs.Events.{of_run, of_shrinking}
use Rattle.pf_sched.specs.Parts.{Executes, IsRunBy, IsRunOf, events_in}
use Rattle.pf_sched.specs.Slices.{Advances, SimulatesEvents, EndsBy, GoesPast, IsRunOver, IsReportBy, RunAdvances}
use Rattle.pf_sched.specs.Reported.{WritesEvents}
use Rattle.pf_sched.specs.Views.{without_memory}
use Rattle.pf_sched.specs.declared.execution.Execution.{Execution}
use Rattle.pf_sched.specs.declared.run.Run as code
use Rattle.pf_sched.specs.declared.trace.Writer.{Writer}
use Rattle.pf_sched.proofs.Hunted.{HasNoFewer, has_more}
use Rattle.pf_sched.proofs.Reported.{over_by, stops_by}
use Rattle.pf_sched.proofs.SoFar.{has_more_to_come}

-- a run that isn't over has more events to come
pub run_goes_past : (j : Job) (w : Choosing) (es : List meaning.Event) (x : Execution) → Executes j w es x
    → (IsRunOver j.asked.limit x → ⊥)
    → (report : meaning.Report) → MeansFor w j.asked report → length es < length report.events
run_goes_past j w es x g going report h = has_more_to_come g.run
    (λ stops. going (over_by j.asked.limit x g.run.last g.run.is_there stops)) report h

-- so has the job, where it is no shrinking
goes_past : (j : Job) (es : List meaning.Event) (x : Execution) → j.asked.runs ≡ zero
    → Executes j (choices j.asked.choices) es x → (IsRunOver j.asked.limit x → ⊥) → HasNoFewer j (length es)
goes_past j es x plain g going _ (of_run report e h) = run_goes_past j (choices j.asked.choices) es x g going report h
goes_past j es x plain g going m (of_shrinking k ns fails _ e c reports has) =
    absurd (let some : j.asked.runs ≡ suc k = e in cc)

-- where n events were made, a test of where the run is says whether it is over
pub ended : (limit before after turns : ℕ) (x : Execution) (c : Configuration) → Represents x.system c
    → after ≡ before + turns → (over : Bool)
    → MatchBool over (Stops (limit - x.system.steps) c) (Stops (limit - x.system.steps) c → ⊥)
    → Advances before after turns over (IsRunOver limit x)
ended limit before after turns x c is_there count true stops =
    (omega arith, omega arith, over_by limit x c is_there stops)
ended limit before after turns x c is_there count false goes =
    (count, λ over. goes (stops_by limit x c is_there over))

-- so it is where the system has other spare nodes
pub continues_alike : {T : Type 0} (Reported : T → meaning.Job → List meaning.Event → Type 0) (limit turns : ℕ)
    (old new : Execution) (t u : T) (s r : SystemView) → s ≡ old.system → r ≡ new.system
    → (over : Bool) → SimulatesEvents Reported limit (record old { system = s }) t new u turns over
    → SimulatesEvents Reported limit old t (record new { system = r }) u turns over
continues_alike Reported limit turns old new t u s r e f over went =
    subst (λ z. SimulatesEvents Reported limit old t (record new { system = z }) u turns over) (sym f)
    (subst (λ z. SimulatesEvents Reported limit (record old { system = z }) t new u turns over) e went)

-- a run has the events that its trace received
pub advances_written : (j : Job) (turns limit : ℕ) → limit ≡ j.asked.limit → (old new : code.Run) (t u : Writer)
    → property_of t.property.now ≡ j.asked.property
    → t.atoms.now ≡ j.asked.code.atoms → t.written ≡ old.written → u.written ≡ new.written → (over : Bool)
    → SimulatesEvents WritesEvents limit old.execution t new.execution u turns over → RunAdvances j old new turns over
advances_written j turns limit same old new t u property atoms before after over went w run = (
  record {
    run = subst (λ es. Executes j w es new.execution) (sym events) on.1;
    written = written;
    ruled_out = ruled_out;
  },
  subst (λ n. Advances (length (events_in old)) n turns over (IsRunOver j.asked.limit new.execution))
      (ap length (sym events))
      (subst (λ l. Advances (length (events_in old)) (length on.0) turns over (IsRunOver l new.execution)) same on.3),
)
  where
    lines : AreWrittenSoFar (name_of t.atoms.now) t.written.lines
    lines =
        subst (λ x. AreWrittenSoFar (name_of t.atoms.now) x.lines) (sym before)
        (subst (λ ns. AreWrittenSoFar (name_of ns) old.written.lines) (sym atoms) run.written)

    reported : WritesEvents t j.asked (events_in old)
    reported = (
      (property, ap (λ x. x.ruled_out) before ∙ run.ruled_out),
      atoms,
      ap (λ x. reported_so_far x.lines) before,
      lines,
    )

    on : (es : List meaning.Event) × Executes j w es new.execution × WritesEvents u j.asked es
        × Advances (length (events_in old)) (length es) turns over (IsRunOver limit new.execution)
    on = went j w (events_in old) (sym same) run.run reported

    events : events_in new ≡ on.0
    events = ap (λ x. reported_so_far x.lines) (sym after) ∙ on.2.2

    written : AreWrittenSoFar (name_of j.asked.code.atoms) new.written.lines
    written =
        subst (λ x. AreWrittenSoFar (name_of j.asked.code.atoms) x.lines) after
        (subst (λ ns. AreWrittenSoFar (name_of ns) u.written.lines) on.2.1 on.2.3)

    ruled_out : new.written.ruled_out ≡ some_label (rules_out j.asked.property) (labels_in (events_in new))
    ruled_out =
        ap (λ x. x.ruled_out) (sym after) ∙ on.2.0.1
        ∙ ap (λ es. some_label (rules_out j.asked.property) (labels_in es)) (sym events)

-- if it isn't over the job goes on after n events more, and has more than those
pub goes_on : (j : Job) → IsValid j → (before turns : ℕ) (run : code.Run) → j.asked.runs ≡ zero
    → IsRunBy j (choices j.asked.choices) run → (over : Bool) → over ≡ false
    → Advances before (length (events_in run)) turns over (IsRunOver j.asked.limit run.execution)
    → (length (events_in run) ≡ before + turns) × GoesPast j (before + turns)
goes_on j valid before turns run plain is over off went =
    let a : Advances before (length (events_in run)) turns false (IsRunOver j.asked.limit run.execution) =
    subst (λ b. Advances before (length (events_in run)) turns b (IsRunOver j.asked.limit run.execution)) off went in (
      a.0,
      has_more j valid (before + turns) (subst (HasNoFewer j) a.0
          (goes_past j (events_in run) run.execution plain is.run a.1)),
    )

-- the report of a run that is over is the job's result, where it is no shrinking
pub run_ends : (j k : Job) → k ≡ j → (run : code.Run) → IsRunOf j run → IsRunOver j.asked.limit run.execution
    → (r : WrittenReport)
    → ((w : Choosing) → IsRunBy k w run → IsRunOver k.asked.limit run.execution
    → IsReportBy k w r × (events_of r.lines ≡ events_in run))
    → EndsBy j (length (events_in run)) (shrinking.report (report_in r))
    × AreWritten (name_of j.asked.code.atoms) r.lines
run_ends j k e run going over r reported =
    let h =
    subst (λ z. (w : Choosing) → IsRunBy z w run → IsRunOver z.asked.limit run.execution
    → IsReportBy z w r × (events_of r.lines ≡ events_in run)) e reported
    (choices j.asked.choices) going.1 over in
    let count : length (events_of r.lines) ≡ length (events_in run) = ap length h.1 in
    let within : length (events_of r.lines) ≤ length (events_in run) = omega arith in (
      (
        shrinking.plain (report_in r) going.0 h.0.0,
        (
          length (events_of r.lines),
          of_run (report_in r) going.0 h.0.0,
          within,
        ),
      ),
      h.0.1,
    )

-- where it is over it has n events at most
pub is_over : (j : Job) (before after turns limit : ℕ) (new : Execution) → limit ≡ j.asked.limit
    → (over : Bool) → over ≡ true
    → Advances before after turns over (IsRunOver limit new) → IsRunOver j.asked.limit new × (after ≤ before + turns)
is_over j before after turns limit new same over on went =
    let a : Advances before after turns true (IsRunOver limit new) =
    subst (λ b. Advances before after turns b (IsRunOver limit new)) on went in
    (subst (λ n. IsRunOver n new) same a.2, a.1)

-- what ends by n events ends by more
pub ends_sooner : (j : Job) (n m : ℕ) (r : shrinking.Result) → n ≤ m → EndsBy j n r ⊎ (r ≡ without_memory)
    → EndsBy j m r ⊎ (r ≡ without_memory)
ends_sooner j n m r h (inl e) = inl (e.0, (e.1.0, e.1.1, (let k = e.1.2 in omega arith)))
ends_sooner j n m r h (inr e) = inr e

-- what has this result ends so, or memory ran out for it
pub ends_so : (j : Job) (n : ℕ) (r s : shrinking.Result) → EndsBy j n r → (s ≡ r) ⊎ (s ≡ without_memory)
    → EndsBy j n s ⊎ (s ≡ without_memory)
ends_so j n r s e (inl same) = inl (subst (EndsBy j n) (sym same) e)
ends_so j n r s e (inr none) = inr none

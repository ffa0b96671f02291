-- What is reported of hunts, for texts and statuses that are equal to theirs.
use Rattle.std.proofs.Common.{◌≡◌, ◌++◌, ◌-◌, ◌||◌, ℕ, Bool, List, [], ◌∷◌, Option, None, Some, Ok, map, flat_map}
use Rattle.std.proofs.Common.{inl, inr, refl, sym, ap, ◌∙◌, subst}
use Rattle.std.specs.List.{list_any}
use Rattle.std.proofs.lemmas.Simd.{map-map}
use Rattle.std.proofs.lemmas.List.Folds.{flat_map-map}
use Rattle.pf_model.specs.Meaning.{Report}
use Rattle.pf_model.specs.Reports.{view_of_event, view_of_report}
use Rattle.pf_model.specs.Shrinking.{is_failure}
use Rattle.pf_model.specs.Text.{report_text}
use Rattle.pf_model.specs.declared.report.Report as code
use Rattle.pf_check.specs.Module.{ReadModule}
use Rattle.pf_check.specs.Reading.{IsModuleOf}
use Rattle.pf_request.specs.Job.{Job}
use Rattle.pf_hunt.specs.Hunts.{FirstFailing, SearchedTo, Tallies}
use Rattle.pf_verdicts.specs.Causes.{cause_of}
use Rattle.pf_verdicts.specs.declared.cause.FailureCause.{FailureCause}
use Rattle.pf_verdicts.specs.declared.cause.FailureCause.TheVariants as cause
use Rattle.pf_verdicts.specs.Further.{AreProperties}
use Rattle.pf_model.specs.Properties.{Property}
use Rattle.pf_hunt.specs.Notices.{Notice, SearchNotices, TallyNotices}
use Rattle.pf_hunt.specs.Rows as rows
use Rattle.pf_hunt.specs.Views.{row_of, rows_in}
use Rattle.pf_hunt.specs.declared.row.OutcomeRow.{OutcomeRow}
use Rattle.pf_hunt.proofs.Stopping.{over_where_found}
use Rattle.pf_cli.specs.Args.{HuntArgs}
use Rattle.pf_cli.specs.declared.args.HuntGoal.{HuntGoal}
use Rattle.pf_cli.specs.declared.args.HuntGoal.TheVariants.{Failure, Outcomes}
use Rattle.pf_command.specs.Answers.{AnswersBy, atom_names_of, no_memory_report}
use Rattle.pf_command.specs.Hunts.{IsLeastFailure, PrintsReport, PrintsShrinking, PrintsSought, choices_of, front_text}
use Rattle.pf_command.specs.Hunts.{may_stop, none_text, row_text, rows_status, seed_text, strategy_text}
use Rattle.pf_command.specs.Hunts.{HuntAsksFor, failures_by, hunted, named_property, refused, reported_by}
use Rattle.pf_command.specs.Hunts.{shrunk_property}
use Rattle.pf_command.specs.Hunts.{none_fails, seed_fails, seed_cut, seed_shrunk, seed_alone, tallied}
use Rattle.pf_command.specs.declared.answer.Output.{Output}
use Rattle.pf_command.specs.Printed.{HuntEndsAs, PrintsAs}
use Rattle.pf_command.specs.declared.answers.Answer.{Answer}
use Rattle.pf_command.specs.declared.answers.Answer.TheVariants.{Reported}

-- the choices of events are those of what they stand for
pub choices_are : (r : code.Report) → map (λ e. e.choice) r.events.items ≡ choices_of (view_of_report r)
choices_are r = sym (map-map (λ e. e.choice) view_of_event r.events.items)

-- rows fail as what they stand for
pub fails_are : (xs : List OutcomeRow) → list_any (λ x. is_failure x.verdict) xs
    ≡ list_any (λ x. is_failure x.verdict) (rows_in xs)
fails_are [] = refl
fails_are (x ∷ xs) = ap (λ b. is_failure x.verdict || b) (fails_are xs)

pub texts_are : (name : ℕ → List ℕ) (xs : List OutcomeRow)
    → flat_map (λ x. row_text name (row_of x)) xs ≡ flat_map (row_text name) (rows_in xs)
texts_are name xs = sym (flat_map-map (row_text name) row_of xs)

-- by whichever property a run is judged, it has the same events
same_events : (k : FailureCause) (r : Report) → (reported_by k r).events ≡ r.events
same_events cause.Property r = refl
same_events (cause.Further i) r = refl
same_events cause.Leak r = refl

module _ (h : HuntArgs) (bytes : List ℕ) (j : Job) (ps : List Property) (ns : List Notice) where
  pub prints_none : (runs : Option ℕ) (c : ℕ) (a : Output) → SearchedTo (may_stop h) h.seeds.0 h.seeds.1 c
      → IsLeastFailure h j ps ns c None
      → (a.text.items ≡ front_text h c ++ none_text (c - h.seeds.0)) × (a.status ≡ 0)
      → PrintsSought h bytes j ps ns (Failure runs) a.text.items a.status
  prints_none runs c a reach none is = rw (is.0, is.1) (none_fails runs c reach none)

  -- what was found is the least of all seeds
  pub least_of_all : (m : Bool) (c : ℕ) (f : ℕ × Report) → m ≡ may_stop h
      → FirstFailing (failures_by h ps) h.strategy j.asked h.seeds.0 c (Some f)
      → SearchNotices h.strategy j.asked m h.seeds.0 h.seeds.1 c (Some f) ns → IsLeastFailure h j ps ns h.seeds.1
      (Some f)
  least_of_all m c f may least reported =
      let e = over_where_found m h.seeds.0 h.seeds.1 c f reported.0 reported.2 in
      let stops = subst (λ b. SearchNotices h.strategy j.asked b h.seeds.0 h.seeds.1 c (Some f) ns) may reported in
      subst (λ b. IsLeastFailure h j ps ns b (Some f)) e (least, stops)

  pub none_so_far : (m : Bool) (c : ℕ) → m ≡ may_stop h → FirstFailing
      (failures_by h ps) h.strategy j.asked h.seeds.0 c None
      → SearchNotices h.strategy j.asked m h.seeds.0 h.seeds.1 c None ns → IsLeastFailure h j ps ns c None
  none_so_far m c may none reported = (
    none,
    subst
        (λ b. SearchNotices h.strategy j.asked b h.seeds.0 h.seeds.1 c None ns) may reported,
  )

  -- after the seed and the choices of a run that fails comes its report, or what it was cut to
  pub prints_report : (s : ℕ) (r : Report) (text : List ℕ) (status : ℕ) → IsLeastFailure h j ps ns h.seeds.1 (Some
      (s, r))
      → PrintsReport j (reported_by (cause_of ps r) r) text status → PrintsSought h bytes j ps ns (Failure None)
      (seed_text s (named_property h (cause_of ps r)) h.strategy (choices_of r) ++ text) status
  prints_report s r text status least (inl is) = rw (is.0, is.1) (seed_fails s r least)
  prints_report s r text status least (inr (es, rest, e, is, one)) =
      rw (is, one) (seed_cut s r es rest least (sym (same_events (cause_of ps r) r) ∙ e))

  -- or what the shrinking of the choices is answered with
  pub prints_shrinking : (s : ℕ) (r : Report) (runs : ℕ) (text : List ℕ) (status : ℕ)
      → IsLeastFailure h j ps ns h.seeds.1 (Some (s, r))
      → PrintsShrinking h (shrunk_property h (cause_of ps r)) bytes r runs text status
      → PrintsSought h bytes j ps ns (Failure (Some runs)) (seed_text s (named_property h
      (cause_of ps r)) h.strategy (choices_of r) ++ text) status
  prints_shrinking s r runs text status least (inl answers) = seed_shrunk s r runs text status least answers
  prints_shrinking s r runs text status least (inr is) = rw (is.0, is.1) (seed_alone s r runs least)

  -- something may be reported after the seed of a run that fails
  pub may_be_reported : (s : ℕ) (r : Report) (runs : Option ℕ) → IsLeastFailure h j ps ns h.seeds.1 (Some (s, r))
      → (text : List ℕ) × (status : ℕ) × PrintsSought h bytes j ps ns (Failure runs)
      (seed_text s (named_property h (cause_of ps r)) h.strategy (choices_of r) ++ text) status
  may_be_reported s r None least = (
    report_text (atom_names_of j) (reported_by
        (cause_of ps r) r),
    1,
    seed_fails s r least,
  )
  may_be_reported s r (Some runs) least = (no_memory_report, 2, seed_alone s r runs least)

  pub prints_rows : (c : ℕ) (xs : List rows.OutcomeRow) (a : Output) → SearchedTo (may_stop h) h.seeds.0 h.seeds.1 c
      → Tallies h.strategy j.asked h.seeds.0 c xs
      → TallyNotices h.strategy j.asked (may_stop h) h.seeds.0 h.seeds.1 c ns
      → (a.text.items ≡ front_text h c ++ strategy_text h.strategy ++ flat_map (row_text (atom_names_of j)) xs)
      × (a.status ≡ rows_status xs)
      → PrintsSought h bytes j ps ns Outcomes a.text.items a.status
  prints_rows c xs a reach counted reported is = rw (is.0, is.1) (tallied c xs reach counted reported)

-- what may be said of the result of a hunt over the job of a source is what the source is answered with
module _ (h : HuntArgs) (bytes : List ℕ) (m : ReadModule) (j : Job) (ps : List Property) (ns : List Notice)
    (sought : HuntGoal) (same : sought ≡ h.sought) (of : IsModuleOf bytes m) (asks : HuntAsksFor h h.sought m (Ok j))
    (are : AreProperties m.code.atoms h.further ps) where
  pub ends_as : (x : Answer) → PrintsAs h bytes j ps sought x ns → HuntEndsAs h h.sought bytes x ns
  ends_as x reports = (
    reports.0,
    λ t s say. hunted m j ps ns t s of asks are (subst (λ g. PrintsSought h bytes j ps ns g t s) same
        (reports.1 t s say)),
  )

  -- and so of an answer
  pub answered_as : (a : Output) → PrintsSought h bytes j ps ns sought a.text.items a.status
      → HuntEndsAs h h.sought bytes (Reported a) ns
  answered_as a reported = ends_as (Reported a) (tt, λ t s say. rw (say.0, say.1) reported)

-- what is refused is answered so, and the observer receives nothing
pub refused_as : (h : HuntArgs) (bytes : List ℕ) (a : Output)
    → AnswersBy (HuntAsksFor h h.sought) (λ j t s. ⊥) bytes a.text.items a.status
    → HuntEndsAs h h.sought bytes (Reported a) []
refused_as h bytes a answers = (tt, λ t s say. rw (say.0, say.1) (refused a.text.items a.status answers))

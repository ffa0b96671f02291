-- Lines that are put one after another, and runs that are known by their reports.
use Rattle.std.proofs.Common.{◌≡◌, ◌+◌, ◌<◌, ◌≤◌, ℕ, zero, suc, Bool, true, false, if◌then◌else◌, List, [], ◌∷◌, ◌++◌}
use Rattle.std.proofs.Common.{Option, Some, None, Ok, Err, append_assoc, drop, get_or, length, map, refl, sym, ap, ◌∙◌}
use Rattle.std.proofs.Common.{subst, arith}
use Rattle.std.proofs.lemmas.List.{append-nil, at_drop_more}
use Rattle.pf_errors.specs.declared.code.Code.TheVariants as code
use Rattle.pf_model.specs.Choosers.{Picks, choose_by_picks}
use Rattle.pf_model.specs.Configuration.{Configuration}
use Rattle.pf_model.specs.Meaning as meaning
use Rattle.pf_model.specs.Meaning.{Choices, Means, Report, picks_of, schedule}
use Rattle.pf_model.specs.Properties.{Property}
use Rattle.pf_model.specs.Runs.{Goes, Transition, start}
use Rattle.pf_positions.specs.declared.places.Position.{Position}
use Rattle.pf_request.specs.Job.{Job, job_from, job_of, root_in, with_property, with_root}
use Rattle.pf_check.specs.Module.{ReadModule}
use Rattle.pf_request.specs.Request.{Request, choices_in, is_within, may_weigh}
use Rattle.pf_sched.specs.Choosing.{MeansFor, choosing_of}
use Rattle.pf_sched.proofs.Seeded.{means_by_seed}
use Rattle.pf_strategy.proofs.Meant.{replay_of_seeds}
use Rattle.pf_strategy.specs.declared.strategy.SeedChoice.{SeedChoice}
use Rattle.pf_cli_messages.specs.Explained.{AreStatusLines, IsKnownRunOf, ReportsProcesses, ReportsRun}
use Rattle.pf_process_status.specs.Known.{RunLeadsTo, module_of_run}
use Rattle.pf_process_status.specs.Lines.{IsLine, Puts}
use Rattle.pf_process_status.specs.declared.known.KnownRun.{KnownRun}
use Rattle.pf_process_status.specs.declared.standing.ProcessStatus.{ProcessStatus}

-- ---- lines

pub next_line : (k : KnownRun) (places : List (Option Position)) (xs : List ProcessStatus) (i : ℕ) (d : ProcessStatus)
    (old new rest : List ℕ)
    → i < length xs → Puts old new (IsLine k places (get_or xs i d)) → AreStatusLines k places (drop (i + 1) xs) rest
    → ((more : List ℕ) → AreStatusLines k places (drop i xs) more → AreStatusLines k places xs (old ++ more))
    → AreStatusLines k places xs ((new ++ 10 ∷ []) ++ rest)
next_line k places xs i d old new rest l put lines front =
    let line = put.0 in
    let split : drop i xs ≡ get_or xs i d ∷ drop (i + 1) xs = at_drop_more (λ zs. zs) xs i d l in
    let here : AreStatusLines k places (drop i xs) (line ++ (10 ∷ rest)) =
    subst (λ zs. AreStatusLines k places zs (line ++ (10 ∷ rest))) (sym split) (line, rest, put.1, lines, refl) in
    let text : (new ++ 10 ∷ []) ++ rest ≡ old ++ (line ++ (10 ∷ rest)) =
    ap (λ z. (z ++ 10 ∷ []) ++ rest) put.2 ∙ append_assoc (old ++ line) (10 ∷ []) rest
    ∙ append_assoc old line (10 ∷ rest) in
    subst (AreStatusLines k places xs) (sym text) (front (line ++ (10 ∷ rest)) here)

drop_all : {A : Type 0} (xs : List A) (i : ℕ) → length xs ≤ i → drop i xs ≡ []
drop_all [] zero l = refl
drop_all [] (suc i) l = refl
drop_all (x ∷ xs) zero l = absurd (omega arith)
drop_all (x ∷ xs) (suc i) l = drop_all xs i (omega arith)

pub all_lines : (k : KnownRun) (places : List (Option Position)) (xs : List ProcessStatus) (i : ℕ) (text : List ℕ)
    → length xs ≤ i
    → ((more : List ℕ) → AreStatusLines k places (drop i xs) more → AreStatusLines k places xs (text ++ more))
    → AreStatusLines k places xs text
all_lines k places xs i text l front =
    subst (AreStatusLines k places xs) (append-nil text)
    (front [] (subst (λ zs. AreStatusLines k places zs []) (sym (drop_all xs i l)) refl))

-- ---- runs

module _ (j : meaning.Job) (r : Report) (k : KnownRun) (h : IsKnownRunOf j r k) where
  goes_there : (ps : Picks) (ts : List Transition) (d : Configuration) (n : ℕ)
      → Goes j.code (choose_by_picks ps) zero j.limit (start j.root j.edition) ts d r.steps n
      → Goes (module_of_run k) (choose_by_picks ps) zero k.limit (start k.root.0 k.edition) ts d r.steps n
  goes_there ps ts d n g =
      subst (λ m. Goes m (choose_by_picks ps) zero k.limit (start k.root.0 k.edition) ts d r.steps n) (sym h.code)
      (subst (λ l. Goes j.code (choose_by_picks ps) zero l (start k.root.0 k.edition) ts d r.steps n) (sym h.limit)
      (subst (λ i. Goes j.code (choose_by_picks ps) zero j.limit (start i k.edition) ts d r.steps n) (sym h.root)
      (subst (λ e. Goes j.code (choose_by_picks ps) zero j.limit (start j.root e) ts d r.steps n) (sym h.edition) g)))

  -- the events of what it means by some choices lead somewhere
  leads : (cs : Choices) → Means (record j { choices = cs }) r → (d : Configuration) × RunLeadsTo k d
  leads cs m = (
    m.last,
    record {
      picks = picks_of cs;
      transitions = m.transitions;
      steps = r.steps;
      made = m.state;
      goes = goes_there (picks_of cs) m.transitions m.last m.state m.run.goes;
      events = h.events ∙ ap (λ z. z.events) m.report;
    },
  )

  -- and so do those of what it means by a seed
  pub leads_to : (by : Option SeedChoice) → MeansFor (choosing_of by j) j r → (d : Configuration) × RunLeadsTo k d
  leads_to None m = leads j.choices m
  leads_to (Some g) m = leads (schedule (map (λ e. e.choice) r.events))
      (replay_of_seeds g.strategy j g.seed r (means_by_seed g j r m))

-- what is said of a known run's processes is said of the job's
pub reports_of : (j : meaning.Job) (r : Report) (by : Option SeedChoice) (source text : List ℕ) (k : KnownRun)
    → ReportsRun k source text → MeansFor (choosing_of by j) j r → IsKnownRunOf j r k
    → ReportsProcesses j by source text
reports_of j r by source text k reports means is_run =
    let there = leads_to j r k is_run by means in
    record { report = r; means = means; run = k; is_run = is_run; last = there.0; comes = there.1; reports = reports }

-- ---- jobs

-- a job is of its module, and its root is the function of that name
pub record IsFrom (m : ReadModule) (e : ℕ) (name : List ℕ) (j : Job) : Type 0 where
  pub code : j.asked.code ≡ m.code
  pub root : root_in m name ≡ Some j.asked.root
  pub edition : j.asked.edition ≡ e

pub from_asked : (m : ReadModule) (e : ℕ) (q : Option Property) (r : Request) (j : Job) → job_of m e q r ≡ Ok j
    → IsFrom m e r.root j
from_asked m e q r j = by_root (root_in m r.root) refl
  where
    within : (i : ℕ) → root_in m r.root ≡ Some i → (p : Property) (a b : Bool)
        → (if a then (if b then Ok (job_from m e i p r) else Err code.WeightsOutOfRange) else Err code.OutOfRange)
        ≡ Ok j → IsFrom m e r.root j
    within i at p false b h = absurd (cc)
    within i at p true false h = absurd (cc)
    within i at p true true h =
        let same : job_from m e i p r ≡ j = cc in
        subst (IsFrom m e r.root) same (record { code = refl; root = at; edition = refl })

    by_property : (i : ℕ) → root_in m r.root ≡ Some i → (o : Option Property) → with_property m e i o r ≡ Ok j
        → IsFrom m e r.root j
    by_property i at None h = absurd (cc)
    by_property i at (Some p) h = within i at p (is_within r) (may_weigh (choices_in r.kind)) h

    by_root : (o : Option ℕ) → root_in m r.root ≡ o → with_root m e o q r ≡ Ok j → IsFrom m e r.root j
    by_root None at h = absurd (cc)
    by_root (Some i) at h = by_property i at q h

-- The runs of a job by schedules: how many events they have in all, and which of them fail.
use Rattle.std.proofs.Common.{◌≡◌, ℕ, zero, ◌+◌, ◌*◌, ◌≤◌, Bool, List, [], ◌∷◌, ◌++◌, length, refl, sym, ap, ◌∙◌, subst}
use Rattle.std.proofs.Common.{arith}
use Rattle.std.proofs.lemmas.List.{length-map}
use Rattle.pf_model.specs.Choosers.{choose_by_picks}
use Rattle.pf_model.specs.Meaning.{Job, Report, Means, event_of_transition, picks_of}
use Rattle.pf_model.specs.Runs.{start}
use Rattle.pf_model.specs.Shrinking.{by_schedule, is_failure, ReportsFailures}
use Rattle.pf_model.proofs.Meanings.{one_meaning, only_evaluated}
use Rattle.pf_sched.specs.Events.{RunsHave, no_runs, and_run}
use Rattle.pf_sched.proofs.Past.{within_steps}

-- a job means one report
only_report : (j : Job) (r s : Report) → Means j r → Means j s → r ≡ s
only_report j r s h k = only_evaluated j r h ∙ sym (only_evaluated j s k)

-- a run has no more events than its limit has steps
pub few_events : (j : Job) (r : Report) → Means j r → length r.events ≤ j.limit
few_events j r h = omega (arith, all, within)
  where
    all : length r.events ≡ length h.transitions
    all = ap (λ z. length z.events) h.report ∙ length-map h.transitions event_of_transition

    within : length h.transitions ≤ j.limit
    within =
        within_steps j.code (choose_by_picks (picks_of j.choices)) zero j.limit (start j.root j.edition) h.transitions
        h.last r.steps h.state h.run.goes

module _ (j : Job) where
  -- ---- which fail

  pub fails_in : List ℕ → Bool
  fails_in ns = is_failure (one_meaning (by_schedule j ns) tt).0.verdict

  pub reports_failures : ReportsFailures j fails_in
  unfolding fails_in
  reports_failures ns r h = ap (λ s. is_failure s.verdict) (sym ((one_meaning (by_schedule j ns) tt).2 r h))

  -- one function says so
  pub only_fails : (f g : List ℕ → Bool) → ReportsFailures j f → ReportsFailures j g → f ≡ g
  only_fails f g a b = λ i ns. same ns i
    where
      same : (ns : List ℕ) → f ns ≡ g ns
      same ns = let m = one_meaning (by_schedule j ns) tt in a ns m.0 m.1 ∙ sym (b ns m.0 m.1)

  -- ---- how many events

  -- a run, and then others
  pub record FirstRun (ns : List ℕ) (nss : List (List ℕ)) (m : ℕ) : Type 0 where
    pub report : Report
    pub others : ℕ
    pub means : Means (by_schedule j ns) report
    pub rest : RunsHave j nss others
    pub sums : m ≡ length report.events + others

  pub first_run : (ns : List ℕ) (nss : List (List ℕ)) (m : ℕ) → RunsHave j (ns ∷ nss) m → FirstRun ns nss m
  first_run _ _ _ (and_run ns nss r n h rest) = record { report = r; others = n; means = h; rest = rest; sums = refl }

  none : (m : ℕ) → RunsHave j [] m → m ≡ zero
  none _ no_runs = refl

  -- runs have one number of events
  pub only_so_many : (nss : List (List ℕ)) (m n : ℕ) → RunsHave j nss m → RunsHave j nss n → m ≡ n
  only_so_many [] m n a b = none m a ∙ sym (none n b)
  only_so_many (ns ∷ nss) m n a b =
      let x = first_run ns nss m a in
      let y = first_run ns nss n b in
      x.sums ∙ ap (λ r. length r.events + x.others) (only_report (by_schedule j ns) x.report y.report x.means y.means)
      ∙ ap (λ k. length y.report.events + k) (only_so_many nss x.others y.others x.rest y.rest) ∙ sym y.sums

  -- some number
  pub so_many : (nss : List (List ℕ)) → (m : ℕ) × RunsHave j nss m
  so_many [] = (zero, no_runs)
  so_many (ns ∷ nss) =
      let m = one_meaning (by_schedule j ns) tt in
      let rest = so_many nss in
      (length m.0.events + rest.0, and_run ns nss m.0 rest.0 m.1 rest.1)

  -- the limit of each run bounds it
  pub few : (nss : List (List ℕ)) (m : ℕ) → RunsHave j nss m → m ≤ length nss * j.limit
  few [] m a = let e = none m a in omega arith
  few (ns ∷ nss) m a =
      let x = first_run ns nss m a in
      let one : length x.report.events ≤ j.limit = few_events (by_schedule j ns) x.report x.means in
      let rest = few nss x.others x.rest in
      let sums = x.sums in
      omega arith

  -- with one run more after them
  pub one_more : (nss : List (List ℕ)) (n : ℕ) (ns : List ℕ) (r : Report) → RunsHave j nss n
      → Means (by_schedule j ns) r
      → RunsHave j (nss ++ ns ∷ []) (n + length r.events)
  one_more [] n ns r a h =
      let e = none n a in
      let sums : length r.events + zero ≡ n + length r.events = omega arith in
      subst (RunsHave j (ns ∷ [])) sums (and_run ns [] r zero h no_runs)
  one_more (ms ∷ nss) n ns r a h =
      let x = first_run ms nss n a in
      let e = x.sums in
      let sums : length x.report.events + (x.others + length r.events) ≡ n + length r.events = omega arith in
      subst (RunsHave j (ms ∷ (nss ++ ns ∷ []))) sums
      (and_run ms (nss ++ ns ∷ []) x.report (x.others + length r.events) x.means (one_more nss x.others ns r x.rest h))

  -- some runs, and then others
  pub record Parts (nss mss : List (List ℕ)) (m : ℕ) : Type 0 where
    pub ahead : ℕ
    pub later : ℕ
    pub first : RunsHave j nss ahead
    pub rest : RunsHave j mss later
    pub sums : m ≡ ahead + later

  pub parts : (nss mss : List (List ℕ)) (m : ℕ) → RunsHave j (nss ++ mss) m → Parts nss mss m
  parts [] mss m a = record { ahead = zero; later = m; first = no_runs; rest = a; sums = omega arith }
  parts (ns ∷ nss) mss m a =
      let x = first_run ns (nss ++ mss) m a in
      let p = parts nss mss x.others x.rest in
      let e = x.sums in
      let q = p.sums in
      record {
        ahead = length x.report.events + p.ahead;
        later = p.later;
        first = and_run ns nss x.report p.ahead x.means p.first;
        rest = p.rest;
        sums = omega arith;
      }

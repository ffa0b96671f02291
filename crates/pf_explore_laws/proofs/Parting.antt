-- Two runs of a job part where their choices do; the choices of a run by a schedule are by its numbers.
use Rattle.std.proofs.Common.{◌≡◌, ◌∙◌, inl, inr, refl, sym, ap, subst, ℕ, zero, suc, ◌+◌, ◌-◌, ◌<◌, ◌%◌, arith}
use Rattle.std.proofs.Common.{List, [], ◌∷◌, Option, None, Some, slice_get, map, true≢false}
use Rattle.std.specs.Prelude.{is_some, unwrap_or}
use Rattle.std.proofs.Math.Nat.{mod-lt, sub-zero, zero-add, zero-mod}
use Rattle.std.proofs.lemmas.Bool.Decides.{eqb_tells}
use Rattle.pf_choice.specs.Words.{schedule_word}
use Rattle.pf_model.specs.Choosers.{Picks}
use Rattle.pf_model.specs.Module.{Module}
use Rattle.pf_model.specs.Configuration.{Configuration}
use Rattle.pf_model.specs.Runs.{Passed, Passes, Transition, transition, Stops, enabled, start}
use Rattle.pf_model.specs.Evaluation.{pass_of}
use Rattle.pf_model.specs.Meaning.{Job, Report, picks_of, report_of, schedule}
use Rattle.pf_model.specs.declared.report.Actor.{Actor}
use Rattle.pf_model.proofs.Turned.{pass_only}
use Rattle.pf_model.proofs.Meanings.{replay_of_choosers}
use Rattle.pf_strategy.specs.Last.{keep_named}
use Rattle.pf_strategy.specs.Noted.{MakesChoices, note_choices, point}
use Rattle.pf_strategy.specs.declared.noted.ChoicePoint.{ChoicePoint}
use Rattle.pf_model.specs.Choosers.{choose_by_picks}
use Rattle.pf_explore_laws.specs.Parting.{ArePart, Part, AreBy, ChoicesPart, ChoicesAreBySchedule, EventsAreChoices}
use Rattle.pf_explore_laws.specs.Parting.{ReplayOfChoices, SameChoicesSameReport, SomeChoices}
use Rattle.pf_explore_laws.proofs.Noted.{Noted, none, one, among, picked, place_of, some_among, choices_of_events}
use Rattle.pf_explore_laws.proofs.Noted.{from_noted, from_plain, to_noted}

-- where one may go, a run with a step left doesn't stop
goes_on : {T : Type 0} (n i : ℕ) (c : Configuration) (x : Actor) → slice_get (enabled c) i ≡ Some x
    → Stops (suc n) c → T
goes_on n i c x e (inl nobody) =
    absurd (true≢false (ap is_some (sym e ∙ ap (λ xs. slice_get xs i) nobody)))
goes_on n i c x e (inr q) = absurd (omega arith)

-- picks are of those among whom they pick, where there are some
abbrev pub AreBelow : Picks → Type 0
AreBelow ps = (i a b : ℕ) → 0 < a + b → ps i a b < a + b

module _ (m : Module) (p : Option ℕ) (ps : Picks) where
  -- the first transition of a run with a step left, and the rest
  record First (i n : ℕ) (c : Configuration) (us : List Transition) (fs : List ChoicePoint) (d : Configuration)
      (l : ℕ) : Type 0 where
    pub actor : Actor
    pub pass : Passed
    pub others : List Transition
    pub later : List ChoicePoint
    pub steps : ℕ
    pub chosen : slice_get (enabled c) (place_of p c (picked p ps i c)) ≡ Some actor
    pub passes : Passes m (suc n) c actor pass
    pub rest : Noted m p ps (suc i) (suc n - pass.used) pass.after others later d steps
    pub all : us ≡ transition (place_of p c (picked p ps i c)) (enabled c) actor pass ∷ others
    pub choices : fs ≡ point (picked p ps i c) (among p c) ∷ later
    pub used : l ≡ pass.used + steps

  first_of : (i n : ℕ) (c : Configuration) (us : List Transition) (fs : List ChoicePoint) (d : Configuration) (l : ℕ)
      → Noted m p ps i n c us fs d l → (j k : ℕ) (x : Actor) → n ≡ suc j → slice_get (enabled c) k ≡ Some x
      → Stops (n - l) d → First i j c us fs d l
  first_of _ _ _ _ _ _ _ (none i n c) j k x e some stop =
      goes_on j k c x some (subst (λ z. Stops z c) (sub-zero n ∙ e) stop)
  first_of _ _ _ _ _ _ _ (one i n c x q ts es d k chosen pass r) j h y e some stop =
      let same : n ≡ j = omega arith in
      subst (λ z. First i z c (transition (place_of p c (picked p ps i c)) (enabled c) x q ∷ ts)
      (point (picked p ps i c) (among p c) ∷ es) d (q.used + k)) same
      (record {
        actor = x;
        pass = q;
        others = ts;
        later = es;
        steps = k;
        chosen = chosen;
        passes = pass;
        rest = r;
        all = refl;
        choices = refl;
        used = refl;
      })

  -- a run from where runs stop has no transition
  record StaysThere (c : Configuration) (us : List Transition) (fs : List ChoicePoint) (d : Configuration)
      (l : ℕ) : Type 0 where
    pub all : us ≡ []
    pub choices : fs ≡ []
    pub last : d ≡ c
    pub used : l ≡ zero

  none_left : (i n : ℕ) (c : Configuration) (us : List Transition) (fs : List ChoicePoint) (d : Configuration) (l : ℕ)
      → Noted m p ps i n c us fs d l → Stops n c → StaysThere c us fs d l
  none_left _ _ _ _ _ _ _ (none i n c) stop = record { all = refl; choices = refl; last = refl; used = refl }
  none_left _ _ _ _ _ _ _ (one i n c x q ts es d k chosen pass r) stop =
      goes_on n (place_of p c (picked p ps i c)) c x chosen stop

module _ (m : Module) (p : Option ℕ) (ps qs : Picks) where
  -- where both pick the same, the same actor does the same
  record GoSame (i r n : ℕ) (c : Configuration) (x : Actor) (q : Passed) (us : List Transition) (fs : List ChoicePoint)
      (d : Configuration) (l : ℕ) (f : First m p qs r n c us fs d l) : Type 0 where
    pub place : place_of p c (picked p ps i c) ≡ place_of p c (picked p qs r c)
    pub who : x ≡ f.actor
    pub did : q ≡ f.pass
    pub rest : Noted m p qs (suc r) (suc n - q.used) q.after f.others f.later d f.steps
    pub used : l ≡ q.used + f.steps

  go_same : (i r n : ℕ) (c : Configuration) (x : Actor) (q : Passed) (us : List Transition) (fs : List ChoicePoint)
      (d : Configuration) (l : ℕ) (f : First m p qs r n c us fs d l)
      → slice_get (enabled c) (place_of p c (picked p ps i c)) ≡ Some x → Passes m (suc n) c x q
      → picked p ps i c ≡ picked p qs r c → GoSame i r n c x q us fs d l f
  go_same i r n c x q us fs d l f chosen pass e =
      let place : place_of p c (picked p ps i c) ≡ place_of p c (picked p qs r c) = ap (place_of p c) e in
      let who : x ≡ f.actor =
      ap (λ o. unwrap_or o x) (sym chosen ∙ ap (slice_get (enabled c)) place ∙ f.chosen) in
      let did : q ≡ f.pass =
      sym (pass_only m (suc n) c x q pass) ∙ ap (pass_of m (suc n) c) who
      ∙ pass_only m (suc n) c f.actor f.pass f.passes in
      record {
        place = place;
        who = who;
        did = did;
        rest = subst (λ z. Noted m p qs (suc r) (suc n - z.used) z.after f.others f.later d f.steps) (sym did) f.rest;
        used = f.used ∙ ap (λ z. z.used + f.steps) (sym did);
      }

  -- where they don't, they part
  parted : AreBelow ps → AreBelow qs → (i r n : ℕ) (c : Configuration) (x : Actor)
      → slice_get (enabled c) (place_of p c (picked p ps i c)) ≡ Some x → (picked p ps i c ≡ picked p qs r c → ⊥)
      → ArePart (point (picked p ps i c) (among p c)) (point (picked p qs r c) (among p c))
  parted below also i r n c x chosen apart =
      let some = some_among p c (place_of p c (picked p ps i c)) x chosen in
      record {
        count = refl;
        one_might = below i _ _ some;
        other_might = also r _ _ some;
        apart = apart;
      }

  runs_part : AreBelow ps → AreBelow qs
      → (i n : ℕ) (c : Configuration) (ts : List Transition) (es : List ChoicePoint) (e : Configuration) (k : ℕ)
      → Noted m p ps i n c ts es e k → Stops (n - k) e
      → (r : ℕ) (us : List Transition) (fs : List ChoicePoint) (d : Configuration) (l : ℕ)
      → Noted m p qs r n c us fs d l → Stops (n - l) d → Part es fs
  runs_part below also _ _ _ _ _ _ _ (none i n c) stop r us fs d l other ends =
      let stays = none_left m p qs r n c us fs d l other (subst (λ z. Stops z c) (sub-zero n) stop) in
      subst (Part []) (sym stays.choices) tt
  runs_part below also _ _ _ _ _ _ _ (one i n c x q ts es e k chosen pass rest) stop r us fs d l other ends =
      let f = first_of m p qs r (suc n) c us fs d l other n (place_of p c (picked p ps i c)) x refl chosen ends in
      subst (Part (point (picked p ps i c) (among p c) ∷ es)) (sym f.choices)
      (elim (eqb_tells (picked p ps i c) (picked p qs r c)) [
        | inl h ↦
            let g = go_same i r n c x q us fs d l f chosen pass h.1 in
            let left : suc n - (q.used + k) ≡ suc n - q.used - k = omega arith in
            let used = g.used in
            let other_left : suc n - l ≡ suc n - q.used - f.steps = omega arith in
            inl (
              ap (λ z. point z (among p c)) h.1,
              runs_part below also (suc i) (suc n - q.used) q.after ts es e k rest
                  (subst (λ z. Stops z e) left stop) (suc r) f.others f.later d f.steps g.rest
                  (subst (λ z. Stops z d) other_left ends),
            )
        | inr h ↦ inr (parted below also i r n c x chosen h.1)
      ])

  -- where all choices are the same, so are the runs
  pub same_runs : (i n : ℕ) (c : Configuration) (ts : List Transition) (es : List ChoicePoint) (e : Configuration)
      (k : ℕ) → Noted m p ps i n c ts es e k → Stops (n - k) e
      → (r : ℕ) (us : List Transition) (fs : List ChoicePoint) (d : Configuration) (l : ℕ)
      → Noted m p qs r n c us fs d l → Stops (n - l) d → es ≡ fs → (ts ≡ us) × (e ≡ d) × (k ≡ l)
  same_runs _ _ _ _ _ _ _ (none i n c) stop r us fs d l other ends same =
      let stays = none_left m p qs r n c us fs d l other (subst (λ z. Stops z c) (sub-zero n) stop) in
      (sym stays.all, sym stays.last, sym stays.used)
  same_runs _ _ _ _ _ _ _ (one i n c x q ts es e k chosen pass rest) stop r us fs d l other ends same =
      let f = first_of m p qs r (suc n) c us fs d l other n (place_of p c (picked p ps i c)) x refl chosen ends in
      let both : point (picked p ps i c) (among p c) ∷ es ≡ point (picked p qs r c) (among p c) ∷ f.later =
      same ∙ f.choices in
      let g = go_same i r n c x q us fs d l f chosen pass (ap first_choice both) in
      let left : suc n - (q.used + k) ≡ suc n - q.used - k = omega arith in
      let used = g.used in
      let other_left : suc n - l ≡ suc n - q.used - f.steps = omega arith in
      let tail = same_runs (suc i) (suc n - q.used) q.after ts es e k rest (subst (λ z. Stops z e) left stop) (suc r)
      f.others f.later d f.steps g.rest (subst (λ z. Stops z d) other_left ends) (ap all_but_first both) in (
        ap (λ z. transition z (enabled c) x q ∷ ts) g.place
            ∙ ap (λ z. transition (place_of p c (picked p qs r c)) (enabled c) z q ∷ ts) g.who
            ∙ ap (λ z. transition (place_of p c (picked p qs r c)) (enabled c) f.actor z ∷ ts) g.did
            ∙ ap (λ zs. transition (place_of p c (picked p qs r c)) (enabled c) f.actor f.pass ∷ zs) tail.0
            ∙ sym f.all,
        tail.1,
        ap (λ z. q.used + z) tail.2 ∙ sym g.used,
      )
    where
      first_choice : List ChoicePoint → ℕ
      first_choice [] = zero
      first_choice (a ∷ later) = a.choice

      all_but_first : List ChoicePoint → List ChoicePoint
      all_but_first [] = []
      all_but_first (a ∷ later) = later

-- ---- choices by a schedule

-- from this number on, choices are those of a schedule of these numbers
abbrev AreFrom : ℕ → List ℕ → Picks → Type 0
AreFrom i ns ps = (l procs chans : ℕ) → ps (i + l) procs chans ≡ schedule_word ns l % (procs + chans)

first_by : (ns : List ℕ) → AreFrom zero ns (picks_of (schedule ns))
first_by ns l procs chans = ap (λ i. schedule_word ns i % (procs + chans)) (zero-add l)

pub below_all : (ns : List ℕ) → AreBelow (picks_of (schedule ns))
below_all ns i a b some = mod-lt (schedule_word ns i) some

module _ (m : Module) (p : Option ℕ) (ps : Picks) where
  -- which is picked, where the choices from here on are by a schedule
  picked_by : (ns : List ℕ) (i : ℕ) (c : Configuration) → AreFrom i ns ps
      → picked p ps i c ≡ schedule_word ns zero % among p c
  picked_by ns i c from =
      let at : i ≡ i + zero = omega arith in
      ap (λ z. picked p ps z c) at ∙ from zero _ _

  -- and after that
  later_by : (ns ms : List ℕ) (i : ℕ) → AreFrom i ns ps
      → ((l : ℕ) → schedule_word ns (suc l) ≡ schedule_word ms l) → AreFrom (suc i) ms ps
  later_by ns ms i from each l procs chans =
      let at : suc i + l ≡ i + suc l = omega arith in
      ap (λ z. ps z procs chans) at ∙ from (suc l) procs chans ∙ ap (λ w. w % (procs + chans)) (each l)

  are_by : (ns : List ℕ) (i n : ℕ) (c : Configuration) (ts : List Transition) (es : List ChoicePoint)
      (d : Configuration) (k : ℕ) → Noted m p ps i n c ts es d k → AreFrom i ns ps → AreBy ns es
  are_by [] _ _ _ _ _ _ _ (none i n c) from = tt
  are_by (a ∷ later) _ _ _ _ _ _ _ (none i n c) from = tt
  are_by [] _ _ _ _ _ _ _ (one i n c x q ts es d k chosen pass rest) from = (
    picked_by [] i c from ∙ zero-mod (among p c),
    are_by [] (suc i) (suc n - q.used) q.after ts es d k rest (later_by [] [] i from (λ l. refl)),
  )
  are_by (a ∷ later) _ _ _ _ _ _ _ (one i n c x q ts es d k chosen pass rest) from = (
    picked_by (a ∷ later) i c from,
    are_by later (suc i) (suc n - q.used) q.after ts es d k rest (later_by (a ∷ later) later i from (λ l. refl)),
  )

-- ---- jobs

-- the run of a report by a schedule, with its choices
noted_of : (p : Option ℕ) (j : Job) (ns : List ℕ) (es : List ChoicePoint) (r : Report) (h : MakesChoices p j ns es r)
    → Noted j.code p (picks_of (schedule ns)) zero j.limit (start j.root j.edition) h.0.transitions es h.0.last r.steps
noted_of p j ns es r h =
    let f = from_noted j.code p (picks_of (schedule ns)) (zero, []) j.limit (start j.root j.edition) h.0.transitions
    h.0.last r.steps h.0.state h.0.run.goes in
    subst (λ fs. Noted j.code p (picks_of (schedule ns)) zero j.limit (start j.root j.edition) h.0.transitions fs
    h.0.last r.steps) (sym f.1 ∙ h.1) f.2

pub some_choices : SomeChoices
some_choices p j ns r h =
    let f = from_plain j.code p (picks_of (schedule ns)) zero j.limit (start j.root j.edition) h.transitions h.last
    r.steps h.state h.run.goes in
    let g = to_noted j.code p (picks_of (schedule ns)) zero j.limit (start j.root j.edition) h.transitions f.0 h.last
    r.steps f.1 [] in (
      f.0,
      (
        record {
          transitions = h.transitions;
          last = h.last;
          state = g.0;
          run = record { goes = g.2; stops = h.run.stops };
          report = h.report;
        },
        g.1,
      ),
    )

pub events_are_choices : EventsAreChoices
events_are_choices j ns r h =
    let f = from_plain j.code None (picks_of (schedule ns)) zero j.limit (start j.root j.edition) h.transitions h.last
    r.steps h.state h.run.goes in
    let same = choices_of_events j.code (picks_of (schedule ns)) zero j.limit (start j.root j.edition) h.transitions
    f.0 h.last r.steps f.1 in
    let g = to_noted j.code None (picks_of (schedule ns)) zero j.limit (start j.root j.edition) h.transitions f.0 h.last
    r.steps f.1 [] in (
      record {
        transitions = h.transitions;
        last = h.last;
        state = g.0;
        run = record { goes = g.2; stops = h.run.stops };
        report = h.report;
      },
      g.1 ∙ same ∙ ap (λ z. map (λ e. point e.choice e.count) z.events) (sym h.report),
    )

pub choices_part : ChoicesPart
choices_part p j ns ms es fs r s h k =
    runs_part j.code p (picks_of (schedule ns)) (picks_of (schedule ms)) (below_all ns) (below_all ms) zero j.limit
    (start j.root j.edition) h.0.transitions es h.0.last r.steps (noted_of p j ns es r h) h.0.run.stops zero
    k.0.transitions fs k.0.last s.steps (noted_of p j ms fs s k) k.0.run.stops

pub same_choices : SameChoicesSameReport
same_choices p j ns ms es r s h k =
    let same = same_runs j.code p (picks_of (schedule ns)) (picks_of (schedule ms)) zero j.limit
    (start j.root j.edition) h.0.transitions es h.0.last r.steps (noted_of p j ns es r h) h.0.run.stops zero
    k.0.transitions es k.0.last s.steps (noted_of p j ms es s k) k.0.run.stops refl in
    h.0.report ∙ ap (λ ts. report_of j.property ts h.0.last r.steps) same.0
    ∙ ap (λ d. report_of j.property k.0.transitions d r.steps) same.1
    ∙ ap (report_of j.property k.0.transitions k.0.last) same.2 ∙ sym k.0.report

pub choices_are_by_schedule : ChoicesAreBySchedule
choices_are_by_schedule p j ns es r h =
    are_by j.code p (picks_of (schedule ns)) ns zero j.limit (start j.root j.edition) h.0.transitions es h.0.last
    r.steps (noted_of p j ns es r h) (first_by ns)

pub replay_of_choices : ReplayOfChoices
replay_of_choices p j ns es r h =
    replay_of_choosers (ℕ × List ChoicePoint) (keep_named p (note_choices (choose_by_picks (picks_of (schedule ns)))))
    (zero, []) j r h.0

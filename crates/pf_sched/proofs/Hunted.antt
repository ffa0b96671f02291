-- Hunts of shrinkings: what true answers make of them, what they find, and how many events their runs have.
use Rattle.std.proofs.Common.{◌≡◌, ◌⊎◌, inl, inr, ℕ, zero, suc, ◌+◌, ◌*◌, ◌<◌, ◌≤◌, Bool, true, false, List, [], ◌∷◌}
use Rattle.std.proofs.Common.{◌++◌, length, max, Option, Some, None, refl, sym, ap, ◌∙◌, subst, arith, append_assoc}
use Rattle.std.proofs.Common.{if◌then◌else◌}
use Rattle.std.proofs.lemmas.List.{append-nil, length-append}
use Rattle.std.proofs.lemmas.Nat.{mul-le}
use Rattle.pf_choice.specs.Chosen.{IsProfile}
use Rattle.pf_model.specs.Meaning.{Job, Report, Means, profile_of, schedule}
use Rattle.pf_model.specs.Shrinking.{by_schedule, candidates, Found, is_failure, search, shrunk, Result, IsResult}
use Rattle.pf_model.specs.Shrinking.{smaller, no_failure}
use Rattle.pf_model.proofs.Meanings.{one_meaning}
use Rattle.pf_shrink.specs.Hunts.{Hunting, begins, searches, ended, searching, next_of, after_answer, found_of}
use Rattle.pf_shrink.specs.Hunts.{search_result}
use Rattle.pf_shrink.specs.Tried.{tried, tried_from}
use Rattle.pf_shrink.proofs.Tried.{tried_within_runs, tries_in_order}
use Rattle.pf_request.specs.Job as request
use Rattle.pf_sched.specs.Asked.{IsValid}
use Rattle.pf_sched.specs.Events.{RunsHave, no_runs, HasEvents, of_run, of_shrinking}
use Rattle.pf_sched.specs.Parts.{IsHuntOf, is_at}
use Rattle.pf_sched.specs.Slices.{GoesPast, ReportsFound}
use Rattle.pf_sched.proofs.Asking.{is_profile, within_bounds}
use Rattle.pf_sched.proofs.Tries.{fails_in, reports_failures, only_fails, few_events, first_run, only_so_many, so_many}
use Rattle.pf_sched.proofs.Tries.{few, one_more, parts}
use Rattle.std.proofs.lemmas.Option.{same_Some}

-- ---- where a hunt is

is_there_searching : (k : ℕ) (ns : List ℕ) (left : List (List ℕ)) → is_at (searching k ns left) ≡ Some ns
is_there_searching k ns [] = refl
is_there_searching zero ns (c ∷ cs) = refl
is_there_searching (suc k) ns (c ∷ cs) = refl

-- at the schedule that failed
pub is_there_at_failed : (h : Hunting) (ns : List ℕ) → next_of h ≡ Some ns → is_at (after_answer true h) ≡ Some ns
is_there_at_failed (begins k ms) ns e = is_there_searching k ms (candidates ms) ∙ e
is_there_at_failed (searches k ms c cs) ns e = is_there_searching k c (candidates c) ∙ e
is_there_at_failed (ended f) ns e = absurd (cc)

-- where it was
pub is_there_as_it_was : (h : Hunting) (ns : List ℕ) → next_of h ≡ Some ns
    → is_at (after_answer false h) ≡ is_at h
is_there_as_it_was (begins k ms) ns e = refl
is_there_as_it_was (searches k ms c cs) ns e = is_there_searching k ms cs
is_there_as_it_was (ended f) ns e = absurd (cc)

-- ---- what a hunt finds

comes_searching : (fails : List ℕ → Bool) (k : ℕ) (ns : List ℕ) (left : List (List ℕ))
    → search_result fails (searching k ns left) ≡ Some (search fails k ns left)
comes_searching fails k ns [] = refl
comes_searching fails zero ns (c ∷ cs) = refl
comes_searching fails (suc k) ns (c ∷ cs) = refl

-- a true answer changes nothing of it
comes_on : (fails : List ℕ → Bool) (h : Hunting) (ns : List ℕ) → next_of h ≡ Some ns
    → search_result fails (after_answer (fails ns) h) ≡ search_result fails h
comes_on fails (begins k ms) ns e =
    ap (λ z. search_result fails (after_answer (fails z) (begins k ms))) (same_Some ns ms (sym e)) ∙ by (fails ms)
  where
    by : (b : Bool) → search_result fails (after_answer b (begins k ms))
        ≡ (if b then Some (search fails k ms (candidates ms)) else None)
    by true = comes_searching fails k ms (candidates ms)
    by false = refl
comes_on fails (searches k ms c cs) ns e =
    ap (λ z. search_result fails (after_answer (fails z) (searches k ms c cs))) (same_Some ns c (sym e)) ∙ by (fails c)
  where
    by : (b : Bool) → search_result fails (after_answer b (searches k ms c cs))
        ≡ Some (if b then search fails k c (candidates c) else search fails k ms cs)
    by true = comes_searching fails k c (candidates c)
    by false = comes_searching fails k ms cs
comes_on fails (ended f) ns e = absurd (cc)

-- at its end it is what was found
comes_found : (fails : List ℕ → Bool) (h : Hunting) → next_of h ≡ None → found_of h ≡ search_result fails h
comes_found fails (begins k ms) e = absurd (cc)
comes_found fails (searches k ms c cs) e = absurd (cc)
comes_found fails (ended f) e = refl

module _ (j : Job) where
  -- ---- from its start to its end

  -- before the first run
  pub hunt_begins : (k : ℕ) (ns : List ℕ) → j.runs ≡ suc k → j.choices ≡ schedule ns → IsHuntOf j (begins k ns) zero
  hunt_begins k ns runs choices =
      record {
        further = k;
        given = ns;
        fails = fails_in j;
        after = [];
        runs = runs;
        choices = choices;
        reports = reports_failures j;
        comes = refl;
        events = no_runs;
        order = refl;
      }

  module _ (h : Hunting) (before : ℕ) (hunt : IsHuntOf j h before) where
    reported_so : (ns : List ℕ) → next_of h ≡ Some ns → (r : Report) → Means (by_schedule j ns) r
        → IsHuntOf j (after_answer (hunt.fails ns) h) (before + length r.events)
    reported_so ns e r means =
        let rest = tried_from hunt.fails (after_answer (hunt.fails ns) h) in
        record {
          further = hunt.further;
          given = hunt.given;
          fails = hunt.fails;
          after = hunt.after ++ ns ∷ [];
          runs = hunt.runs;
          choices = hunt.choices;
          reports = hunt.reports;
          comes = comes_on hunt.fails h ns e ∙ hunt.comes;
          events = one_more j hunt.after before ns r hunt.events means;
          order = hunt.order ∙ ap (λ nss. hunt.after ++ nss) ((tries_in_order hunt.fails h).first ns e)
              ∙ sym (append_assoc hunt.after (ns ∷ []) rest);
        }

    -- after the answer by the next run's report
    pub hunt_reported : (ns : List ℕ) → next_of h ≡ Some ns → (r : Report) → Means (by_schedule j ns) r
        → IsHuntOf j (after_answer (is_failure r.verdict) h) (before + length r.events)
    hunt_reported ns e r means = subst (λ b. IsHuntOf j (after_answer b h) (before + length r.events))
        (hunt.reports ns r means) (reported_so ns e r means)

    -- the events of the whole shrinking are those of the runs before it and of those to come
    all_events : (m : ℕ) → HasEvents j m → RunsHave j (hunt.after ++ tried_from hunt.fails h) m
    all_events _ (of_run r e means) = absurd (let some : j.runs ≡ suc hunt.further = hunt.runs in cc)
    all_events _ (of_shrinking k ns fails m e c reports has) =
        let counted : suc k ≡ suc hunt.further = sym e ∙ hunt.runs in
        let given : schedule ns ≡ schedule hunt.given = sym c ∙ hunt.choices in
        let same : ns ≡ hunt.given = cc in
        subst (λ nss. RunsHave j nss m)
        (ap (λ f. tried f (suc k) ns) (only_fails j fails hunt.fails reports hunt.reports)
        ∙ ap (λ n. tried hunt.fails n ns) counted
        ∙ ap (tried hunt.fails (suc hunt.further)) same ∙ hunt.order)
        has

    -- if the next run has more than n events, so has the shrinking after those before it
    pub hunt_goes_past : (ns : List ℕ) → next_of h ≡ Some ns → (n : ℕ)
        → ((r : Report) → Means (by_schedule j ns) r → n < length r.events)
        → (m : ℕ) → HasEvents j m → before + n < m
    hunt_goes_past ns e n past m has =
        let rest = tried_from hunt.fails (after_answer (hunt.fails ns) h) in
        let p = parts j hunt.after (tried_from hunt.fails h) m (all_events m has) in
        let x = first_run j ns rest p.later (subst (λ nss. RunsHave j nss p.later)
        ((tries_in_order hunt.fails h).first ns e) p.rest) in
        let ahead : p.ahead ≡ before = only_so_many j hunt.after p.ahead before p.first hunt.events in
        let more = past x.report x.means in
        let all = p.sums in
        let next = x.sums in
        omega arith

    -- at its end the events are those of all runs
    pub hunt_has : next_of h ≡ None → HasEvents j before
    hunt_has e =
        let none : tried_from hunt.fails h ≡ [] = (tries_in_order hunt.fails h).none.0 e in
        let order : hunt.after ≡ tried hunt.fails (suc hunt.further) hunt.given =
        sym (append-nil hunt.after) ∙ ap (λ nss. hunt.after ++ nss) (sym none) ∙ sym hunt.order in
        of_shrinking hunt.further hunt.given hunt.fails before hunt.runs hunt.choices hunt.reports
        (subst (λ nss. RunsHave j nss before) order hunt.events)

    -- and what was found, with its report, is the job's result
    pub hunt_comes : next_of h ≡ None → (r : Result) → ReportsFound j (found_of h) r → IsResult j r
    hunt_comes e r reports = by (found_of h) (sym hunt.comes ∙ sym (comes_found hunt.fails h e)) reports
      where
        by : (f : Option Found) → shrunk hunt.fails (suc hunt.further) hunt.given ≡ f → ReportsFound j f r
            → IsResult j r
        by None is reported = subst (IsResult j) (sym reported)
            (no_failure hunt.further hunt.given hunt.fails hunt.runs hunt.choices hunt.reports is)
        by (Some f) is reported =
            subst (IsResult j) (sym reported.2)
            (smaller hunt.further hunt.given hunt.fails f reported.0 hunt.runs hunt.choices
            hunt.reports is reported.1)

  -- ---- how many events there can be

  -- the limit of each of its runs bounds the events of a job
  pub all_within : (m : ℕ) → HasEvents j m → m ≤ max 1 j.runs * j.limit
  all_within _ (of_run r e means) = let one = few_events j r means in subst (λ k. length r.events ≤ max 1 k * j.limit)
      (sym e) (omega arith)
  all_within _ (of_shrinking k ns fails m e c reports has) =
      let all = few j (tried fails (suc k) ns) m has in
      let within = tried_within_runs fails (suc k) ns in
      subst (λ n. m ≤ max 1 n * j.limit) (sym e) (bound m (length (tried fails (suc k) ns)) k j.limit all within)
    where
      bound : (m l k n : ℕ) → m ≤ l * n → l ≤ suc k → m ≤ max 1 (suc k) * n
      bound m l k n a b = let more = mul-le l n (max 1 (suc k)) n (omega arith) (omega arith) in omega arith

  -- it has some number of them
  some_events : IsProfile (profile_of j.choices) → (j.runs ≡ zero) ⊎ ((ns : List ℕ) × (j.choices ≡ schedule ns))
      → (m : ℕ) × HasEvents j m
  some_events weighs kept = by j.runs refl kept
    where
      plain : j.runs ≡ zero → (m : ℕ) × HasEvents j m
      plain e = let m = one_meaning j weighs in (length m.0.events, of_run m.0 e m.1)

      shrinking : (k : ℕ) (ns : List ℕ) → j.runs ≡ suc k → j.choices ≡ schedule ns → (m : ℕ) × HasEvents j m
      shrinking k ns e c =
          let s = so_many j (tried (fails_in j) (suc k) ns) in
          (s.0, of_shrinking k ns (fails_in j) s.0 e c (reports_failures j) s.1)

      by : (k : ℕ) → j.runs ≡ k → (j.runs ≡ zero) ⊎ ((ns : List ℕ) × (j.choices ≡ schedule ns))
          → (m : ℕ) × HasEvents j m
      by zero e kept = plain e
      by (suc k) e (inl alone) = plain alone
      by (suc k) e (inr s) = shrinking k s.0 e s.1

-- a valid job has some number of events
pub has_events : (j : request.Job) → IsValid j → (m : ℕ) × HasEvents j.asked m
has_events j valid = some_events j.asked (is_profile j.asked.choices valid.weighs) valid.shrinks

-- whatever number of events a job has is above n
abbrev pub HasNoFewer : request.Job → ℕ → Type 0
HasNoFewer j n = (m : ℕ) → HasEvents j.asked m → n < m

-- so a valid job has more than n
pub has_more : (j : request.Job) → IsValid j → (n : ℕ) → HasNoFewer j n → GoesPast j n
has_more j valid n past = let h = has_events j valid in (h.0, h.1, past h.0 h.1)

-- more events can't be left than its limit and its runs bound
pub past_bound : (j : request.Job) (n : ℕ) → GoesPast j n → n < max 1 j.asked.runs * j.asked.limit
past_bound j n past =
    let most = all_within j.asked past.0 past.1 in
    let more = past.2 in
    omega arith

-- few events are those before a hunt's next run
pub few_before : (j : request.Job) → IsValid j → (h : Hunting) (before : ℕ) → IsHuntOf j.asked h before
    → before ≤ 100000000
few_before j valid h before hunt =
    let bounds = within_bounds j valid in
    let rest = tried_from hunt.fails h in
    let all : length (tried hunt.fails (suc hunt.further) hunt.given) ≡ length hunt.after + length rest =
    ap length hunt.order ∙ length-append hunt.after rest in
    let tried_few = tried_within_runs hunt.fails (suc hunt.further) hunt.given in
    let asked : j.asked.runs ≡ suc hunt.further = hunt.runs in
    let runs : length hunt.after ≤ 1000 = let b = bounds.1 in omega arith in
    let most = few j.asked hunt.after before hunt.events in
    let bound = mul-le (length hunt.after) j.asked.limit 1000 100000 runs bounds.0 in
    omega arith

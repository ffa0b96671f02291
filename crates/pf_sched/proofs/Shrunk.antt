-- Shrinkings so far.
use Rattle.std.proofs.Common.{◌≡◌, ℕ, zero, suc, ◌+◌, ◌-◌, ◌<◌, ◌≤◌, Bool, true, false, List, [], ◌∷◌, length, Option}
use Rattle.std.proofs.Common.{Some, None, refl, sym, ap, ◌∙◌, subst, arith, if◌then◌else◌}
use Rattle.rand_pcg.specs.Lcg.{Lcg}
use Rattle.pf_terms.specs.Atoms.{name_of}
use Rattle.pf_choice.specs.declared.choices.Choices.{Choices}
use Rattle.pf_model.specs.Meaning.{Means, schedule}
use Rattle.pf_model.specs.Meaning as meaning
use Rattle.pf_model.specs.Shrinking.{by_schedule, candidates, is_failure}
use Rattle.pf_shrink.specs.Hunts.{Hunting, begins, searches, ended, searching, next_of, after_answer}
use Rattle.pf_request.specs.Job.{Job}
use Rattle.pf_trace.specs.Written.{AreWritten, events_of, report_in}
use Rattle.pf_trace.specs.declared.lines.WrittenReport.{WrittenReport}
use Rattle.pf_sched.specs.declared.progress.ShrinkingProgress.{ShrinkingProgress}
use Rattle.pf_sched.specs.declared.run.Run.{Run}
use Rattle.pf_sched.specs.declared.shrinking.ShrinkingAdvance.{ShrinkingAdvance}
use Rattle.pf_sched.specs.declared.shrinking.ShrinkingAdvance.TheVariants as advance
use Rattle.pf_sched.specs.declared.shrinking.Shrinking.{Shrinking}
use Rattle.pf_sched.specs.Asked.{IsValid}
use Rattle.pf_sched.specs.Choosing.{choices}
use Rattle.pf_sched.specs.Parts.{IsHuntOf, IsRunBy, IsShrinkingOf, KeepsReport, events_in, events_so_far, is_at}
use Rattle.pf_sched.specs.Slices.{Advances, JobEvaluatesTo, NextRunFollows, ShrinkingGoesOn, IsRunOver, OpensNext}
use Rattle.pf_sched.specs.Slices.{RunAdvances, runs_left}
use Rattle.pf_sched.specs.Traces.{Makes}
use Rattle.pf_sched.proofs.Reported.{for_choices}
use Rattle.pf_sched.proofs.Sliced.{run_goes_past}
use Rattle.pf_sched.proofs.Hunted.{HasNoFewer, has_more, hunt_begins, hunt_reported, hunt_goes_past, is_there_at_failed}
use Rattle.pf_sched.proofs.Hunted.{is_there_as_it_was}

-- ---- the next schedule

-- what is opened is the next schedule
pub opens_next : (o : Option (List ℕ)) (q : Choices Lcg) → OpensNext o (Some q)
    → (ns : List ℕ) × (o ≡ Some ns) × Makes (schedule ns) q
opens_next None q h = absurd h
opens_next (Some ns) q h = (ns, refl, h)

pub opens_none : (o : Option (List ℕ)) → OpensNext o None → o ≡ None
opens_none None h = refl
opens_none (Some ns) h = absurd h

searches_fewer : (k : ℕ) (ns : List ℕ) (left : List (List ℕ)) → runs_left (searching k ns left) ≤ k
searches_fewer k ns [] = omega arith
searches_fewer zero ns (c ∷ cs) = omega arith
searches_fewer (suc k) ns (c ∷ cs) = omega arith

-- an answer leaves one run less
pub fewer_runs : (h : Hunting) (ns : List ℕ) → next_of h ≡ Some ns → (b : Bool)
    → runs_left (after_answer b h) ≤ runs_left h - 1
fewer_runs (begins k ms) ns e true = let h = searches_fewer k ms (candidates ms) in omega arith
fewer_runs (begins k ms) ns e false = omega arith
fewer_runs (searches k ms c cs) ns e true = let h = searches_fewer k c (candidates c) in omega arith
fewer_runs (searches k ms c cs) ns e false = let h = searches_fewer k ms cs in omega arith
fewer_runs (ended f) ns e b = absurd (cc)

pub some_runs : (h : Hunting) (ns : List ℕ) → next_of h ≡ Some ns → 0 < runs_left h
some_runs (begins k ms) ns e = omega arith
some_runs (searches k ms c cs) ns e = omega arith
some_runs (ended f) ns e = absurd (cc)

-- ---- the report that is kept

module _ (j : meaning.Job) where
  -- that of the schedule that failed, or the one from before
  pub keeps_on : (h : Hunting) (ns : List ℕ) → next_of h ≡ Some ns → (kept : Option WrittenReport) (r : WrittenReport)
      → Means (by_schedule j ns) (report_in r)
      → AreWritten (name_of j.code.atoms) r.lines → KeepsReport j (is_at h) kept → (b : Bool)
      → KeepsReport j (is_at (after_answer b h)) (if b then Some r else kept)
  keeps_on h ns e kept r means written k true = subst (λ o. KeepsReport j o (Some r)) (sym (is_there_at_failed h ns e))
      (means, written)
  keeps_on h ns e kept r means written k false = subst (λ o. KeepsReport j o kept) (sym (is_there_as_it_was h ns e)) k

module _ (j : Job) where
  -- with another run by the same schedule
  pub with_run : (s t : Shrinking) (x : IsShrinkingOf j s) → t ≡ record s { run = t.run }
      → IsRunBy j (choices (schedule x.next)) t.run → IsShrinkingOf j t
  with_run s t x e run =
      let same : IsShrinkingOf j (record s { run = t.run }) =
      record { hunt = x.hunt; report = x.report; next = x.next; is_next = x.is_next; run = run } in
      subst (IsShrinkingOf j) (sym e) same

  -- where its run isn't over it has more events
  pub shrinking_goes_past : (s : Shrinking) → IsShrinkingOf j s → (IsRunOver j.asked.limit s.run.execution → ⊥)
      → HasNoFewer j (events_so_far s)
  shrinking_goes_past s x going m has =
      hunt_goes_past j.asked s.hunt s.before x.hunt x.next x.is_next (length (events_in s.run))
      (λ r means. run_goes_past j (choices (schedule x.next)) (events_in s.run) s.run.execution x.run.run going r
      (for_choices j.asked (schedule x.next) r means)) m has

  -- before its first event
  pub shrinking_begins : (h : Hunting) (r : Run) (c : ShrinkingProgress) (runs : ℕ) (ns items : List ℕ) → 0 < runs
      → j.asked.runs ≡ runs → j.asked.choices ≡ schedule ns → items ≡ ns
      → h ≡ begins (runs - 1) items → IsRunBy j (choices (schedule ns)) r
      → IsShrinkingOf j (record { hunt = h; run = r; report = None; before = zero; progress = c })
  shrinking_begins h r c runs ns items some asked shrinks same is run =
      let begun : begins (runs - 1) ns ≡ h = ap (begins (runs - 1)) (sym same) ∙ sym is in
      let counted : j.asked.runs ≡ suc (runs - 1) = omega arith in
      let first : IsShrinkingOf j (record {
        hunt = begins (runs - 1) ns;
        run = r;
        report = None;
        before = zero;
        progress = c;
      }) =
      record {
        hunt = hunt_begins j.asked (runs - 1) ns counted shrinks;
        report = tt;
        next = ns;
        is_next =
            refl;
        run = run;
      } in
      subst (λ z. IsShrinkingOf j (record { hunt = z; run = r; report = None; before = zero; progress = c })) begun
      first

  -- after a run the hunt received true answers only
  pub hunt_goes_on : (s : Shrinking) (x : IsShrinkingOf j s) (r : WrittenReport)
      → Means (by_schedule j.asked x.next) (report_in r)
      → events_of r.lines ≡ events_in s.run → (h : Hunting) → h ≡ after_answer (is_failure r.verdict) s.hunt
      → (after : ℕ) → after ≡ events_so_far s
      → IsHuntOf j.asked h after
  hunt_goes_on s x r means same h reported after count =
      let reported_it : IsHuntOf j.asked (after_answer (is_failure r.verdict) s.hunt)
      (s.before + length (events_of r.lines)) =
      hunt_reported j.asked s.hunt s.before x.hunt x.next x.is_next (report_in r) means in
      let at : s.before + length (events_of r.lines) ≡ after = ap (λ es. s.before + length es) same ∙ sym count in
      subst (λ z. IsHuntOf j.asked z after) (sym reported)
      (subst (IsHuntOf j.asked (after_answer (is_failure r.verdict) s.hunt)) at reported_it)

  -- and the report of its current schedule is kept
  pub report_goes_on : (s : Shrinking) (x : IsShrinkingOf j s) (r : WrittenReport)
      → Means (by_schedule j.asked x.next) (report_in r)
      → AreWritten (name_of j.asked.code.atoms) r.lines → (h : Hunting) → h ≡ after_answer (is_failure r.verdict) s.hunt
      → (kept : Option WrittenReport) → kept ≡ (if is_failure r.verdict then Some r else s.report)
      → KeepsReport j.asked (is_at h) kept
  report_goes_on s x r means written h reported kept is =
      let k = keeps_on j.asked s.hunt x.next x.is_next s.report r means written x.report (is_failure r.verdict) in
      subst (λ z. KeepsReport j.asked (is_at z) kept) (sym reported)
      (subst (KeepsReport j.asked (is_at (after_answer (is_failure r.verdict) s.hunt))) (sym is) k)

  module _ (s t : Shrinking) (x : IsShrinkingOf j s) (turns : ℕ) (rest : t ≡ record s { run = t.run }) where
    before_same : t.before ≡ s.before
    before_same = ap (λ z. z.before) rest

    -- its run isn't over
    pub goes_further : IsValid j → (over : Bool) → over ≡ false → RunAdvances j s.run t.run turns over
        → ShrinkingGoesOn j (events_so_far s + turns) (advance.More t)
    goes_further valid over off went =
        let a = went (choices (schedule x.next)) x.run in
        let b : Advances (length (events_in s.run)) (length (events_in t.run)) turns false
        (IsRunOver j.asked.limit t.run.execution) =
        subst (λ v. Advances (length (events_in s.run)) (length (events_in t.run)) turns v
        (IsRunOver j.asked.limit t.run.execution)) off a.1 in
        let y = with_run s t x rest a.0 in
        let e = before_same in
        let count = b.0 in
        let at : events_so_far t ≡ events_so_far s + turns = omega arith in
        (y, at, has_more j valid (events_so_far s + turns) (subst (HasNoFewer j) at (shrinking_goes_past t y b.1)))

    -- or it is
    pub record AtEdge : Type 0 where
      pub shrinking : IsShrinkingOf j t
      pub over : IsRunOver j.asked.limit t.run.execution
      pub from : length (events_in s.run) ≤ length (events_in t.run)
      pub within : length (events_in t.run) ≤ length (events_in s.run) + turns
      pub before : t.before ≡ s.before
      pub hunt : t.hunt ≡ s.hunt

    pub at_edge : (over : Bool) → over ≡ true → RunAdvances j s.run t.run turns over → AtEdge
    at_edge over on went =
        let a = went (choices (schedule x.next)) x.run in
        let b : Advances (length (events_in s.run)) (length (events_in t.run)) turns true
        (IsRunOver j.asked.limit t.run.execution) =
        subst (λ v. Advances (length (events_in s.run)) (length (events_in t.run)) turns v
        (IsRunOver j.asked.limit t.run.execution)) on a.1 in
        record {
          shrinking = with_run s t x rest a.0;
          over = b.2;
          from = b.0;
          within = b.1;
          before = before_same;
          hunt = ap (λ z. z.hunt) rest;
        }

  -- what follows, by other numbers
  pub follows_so : (n m k l : ℕ) → n ≡ m → k ≤ l → (p : ShrinkingAdvance) → NextRunFollows j n k p
      → NextRunFollows j m l p
  follows_so n m k l e h (advance.More s) f = (f.0, f.1 ∙ e, (let few = f.2 in omega arith))
  follows_so n m k l e h (advance.Over r) f = subst (λ z. JobEvaluatesTo j z r) e f

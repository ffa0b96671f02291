-- A run by a chooser, transition by transition.
use Rattle.std.proofs.Common.{◌≡◌, ℕ, suc, ◌+◌, ◌-◌, ◌<◌, List, [], ◌∷◌, ◌++◌, length, map, refl, sym, ap, ◌∙◌}
use Rattle.std.proofs.Common.{subst, arith}
use Rattle.std.specs.Prelude.{slice_get}
use Rattle.rand_pcg.specs.Pcg.{pcg32}
use Rattle.rand_pcg.specs.Lcg.{Lcg}
use Rattle.pf_choice.specs.Choices.{Chooses, IsAt}
use Rattle.pf_choice.specs.Chosen.{chosen}
use Rattle.pf_choice.specs.declared.choices.Choices.{Choices}
use Rattle.pf_model.specs.Channels.{heads}
use Rattle.pf_model.specs.Choosers.{Chooser}
use Rattle.pf_model.specs.Configuration.{Configuration}
use Rattle.pf_model.specs.Meaning.{Event, event_of_transition, picks_of, words_of}
use Rattle.pf_model.specs.Module.{Module, module_of}
use Rattle.pf_model.specs.Runs.{enabled, next_choice, next_state, Goes, stays, Passes, ready, start, transition}
use Rattle.pf_model.specs.Runs.{Transition}
use Rattle.pf_request.specs.Job.{Job}
use Rattle.pf_strategy.specs.Priorities.{state_of}
use Rattle.pf_strategy.specs.Runs.{choose_by_priorities}
use Rattle.pf_system.specs.Steps.{IsNoteOf, Represents, SimulatesFrom}
use Rattle.pf_system.specs.View.{SystemView}
use Rattle.pf_system.specs.declared.enabled.Enabled.{Enabled}
use Rattle.pf_system.proofs.Bodies.{map_more}
use Rattle.pf_sched.specs.Choosing.{Choosing, chooser_of, choices, first_of, last, noted, priorities}
use Rattle.pf_sched.specs.declared.chooser.ActorChooser.TheVariants as code
use Rattle.pf_sched.specs.declared.chooser.ActorPriorities.{ActorPriorities}
use Rattle.pf_sched.specs.declared.execution.Execution.{Execution}
use Rattle.pf_sched.specs.Parts.{Executes}
use Rattle.pf_sched.specs.Reported.{event}
use Rattle.pf_sched.specs.Traces.{ChoosesFor, Going, IsFirst, Went, WentOn}
use Rattle.pf_sched.proofs.Longer.{goes_on}

pub length_last : {A : Type 0} (xs : List A) (x : A) → length (xs ++ x ∷ []) ≡ length xs + 1
length_last [] x = refl
length_last (y ∷ xs) x = let e = length_last xs x in omega arith

-- ---- one transition more

module _ {S : Type 0} (choose : Chooser S) (first : S) (j : Job) where
  abbrev m : Module
  m = j.asked.code

  abbrev limit : ℕ
  limit = j.asked.limit

  abbrev c : Configuration
  c = start j.asked.root j.asked.edition

  -- before the first
  pub begins : (x : SystemView) → module_of x.checked ≡ m → Represents x c → x.steps ≡ 0
      → Going choose first j [] x first
  begins x k e z =
      record {
        transitions = [];
        last = c;
        code = k;
        is_there = e;
        goes = subst (λ n. Goes m choose first limit c [] c n first) (sym z) (stays first limit c);
        within = omega arith;
        events = refl;
      }

  -- one event more
  pub next : (es : List Event) (x : SystemView) (s : S) (x' : SystemView) (t : S) (g : Going choose first j es x s)
      (e : Event) → x.steps < limit
      → Went choose (limit - x.steps) g.last x s e x' t → Going choose first j (es ++ e ∷ []) x' t
  next es x s x' t g e h w =
      record {
        transitions = g.transitions ++ u ∷ [];
        last = p.passed.after;
        code = ap module_of p.checked ∙ g.code;
        is_there = p.is_there;
        goes =
            subst (Goes m choose first limit c (g.transitions ++ u ∷ []) p.passed.after x'.steps)
            (ap (λ z. z.1) w.chooses)
            (subst (λ n. Goes m choose first limit c (g.transitions ++ u ∷ []) p.passed.after n
            (next_state choose s g.last)) steps longer);
        within = let u = p.within in let z = p.steps in omega arith;
        events = ap (λ l. l ++ e ∷ []) g.events ∙ ap (λ y. map event_of_transition g.transitions ++ y ∷ []) reports
            ∙ sym (map_more event_of_transition g.transitions u);
      }
    where
      p : SimulatesFrom g.last (limit - x.steps) x e.actor e.label w.used x'
      p = w.passes

      k : ℕ
      k = next_choice choose s g.last

      u : Transition
      u = transition k (enabled g.last) e.actor p.passed

      chosen_is : e.choice ≡ k
      chosen_is = sym (ap (λ z. z.0) w.chooses)

      left : limit - x.steps ≡ suc (limit - x.steps - 1)
      left = omega arith

      passes : Passes m (suc (limit - x.steps - 1)) g.last e.actor p.passed
      passes =
          subst (λ z. Passes z (suc (limit - x.steps - 1)) g.last e.actor p.passed) g.code
          (subst (λ n. Passes (module_of x.checked) n g.last e.actor p.passed) left p.passes)

      longer : Goes m choose first limit c (g.transitions ++ u ∷ []) p.passed.after (x.steps + p.passed.used)
          (next_state choose s g.last)
      longer =
          goes_on m choose first limit c g.transitions g.last x.steps s g.goes (limit - x.steps - 1) e.actor p.passed
          (ap (slice_get (enabled g.last)) (sym chosen_is) ∙ w.chosen) (omega arith) passes

      steps : x.steps + p.passed.used ≡ x'.steps
      steps = let z = p.steps in let u = p.counts in omega arith

      reports : e ≡ event_of_transition u
      reports =
          ap (λ i. event i e.count e.actor e.label) chosen_is
          ∙ ap (λ n. event k n e.actor e.label) w.counts
          ∙ ap (event k (length (enabled g.last)) e.actor) p.label

-- ---- of a run

-- before the first event
pub executes_first : (j : Job) (w : Choosing) (x : Execution)
    → Going (chooser_of w) (first_of w) j [] x.system (first_of w) → IsFirst w x.chooser → Executes j w [] x
executes_first j w x going is = record { state = first_of w; run = going; is_in = is }

-- one event more
pub executes_next : (j : Job) (w : Choosing) (es : List Event) (x x' : Execution) (g : Executes j w es x) (e : Event)
    → x.system.steps < j.asked.limit
    → WentOn (j.asked.limit - x.system.steps) g.run.last x e x' → Executes j w (es ++ e ∷ []) x'
executes_next j w es x x' g e some went =
    let t = went w g.state g.is_in in
    record {
      state = t.0;
      run = next (chooser_of w) (first_of w) j es x.system g.state x'.system t.0 g.run e some
          t.1;
      is_in = t.2;
    }

-- ---- what is chosen

module _ (e : Enabled) (c : Configuration) (note : IsNoteOf e c) where
  -- a choice among those that are noted is one among those that may go
  pub chooses_among : (q q' : Choices Lcg) (procs chans k : ℕ) → procs ≡ length e.ready.now
      → chans ≡ length (heads e.channels.now)
      → Chooses pcg32 q procs chans k q' → Chooses pcg32 q (length (ready c)) (length (heads c.channels)) k q'
  chooses_among q q' procs chans k a b h =
      subst (λ n. Chooses pcg32 q n (length (heads c.channels)) k q') (a ∙ ap length note.processes)
      (subst (λ n. Chooses pcg32 q procs n k q') (b ∙ ap length note.channels) h)

-- what choices choose, whichever they are
pub chosen_by_choices : (c : Configuration) (q q' : Choices Lcg) (k : ℕ)
    → Chooses pcg32 q (length (ready c)) (length (heads c.channels)) k q'
    → ChoosesFor (code.Choices q) c k (code.Choices q')
chosen_by_choices c q q' k h (choices cs) i makes =
    let next : i + 1 ≡ suc i = omega arith in
    let same : k ≡ picks_of cs i (length (ready c)) (length (heads c.channels)) =
    h.choice_is (words_of cs) i makes.at ∙ ap
    (λ p. chosen p (words_of cs i) (length (ready c)) (length (heads c.channels))) makes.profile in (
      suc i,
      ap (λ n. (n, suc i)) (sym same),
      record {
        at = subst (λ n. IsAt pcg32 (words_of cs) n q') next (h.moves (words_of cs) i makes.at);
        profile =
            h.keeps ∙ makes.profile;
      },
    )
chosen_by_choices c q q' k h (priorities seed) s is = absurd is
chosen_by_choices c q q' k h (noted cs) s is = absurd is
chosen_by_choices c q q' k h (last p w) s is = absurd is

-- and what priorities do
pub chosen_by_priorities : (c : Configuration) (p p' : ActorPriorities) (k : ℕ)
    → choose_by_priorities (state_of p.priorities) (ready c) (heads c.channels) ≡ (k, state_of p'.priorities)
    → ChoosesFor (code.Priorities p) c k (code.Priorities p')
chosen_by_priorities c p p' k h (choices cs) i is = absurd is
chosen_by_priorities c p p' k h (priorities seed) s is = (
  state_of p'.priorities,
  ap (λ z. choose_by_priorities z (ready c) (heads c.channels)) is ∙ h,
  refl,
)
chosen_by_priorities c p p' k h (noted cs) s is = absurd is
chosen_by_priorities c p p' k h (last a w) s is = absurd is

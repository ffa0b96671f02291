-- What a run made of its transitions so far, and which events its trace received.
use Rattle.std.specs.Prelude.{◌≡◌, ◌≤◌, ℕ, zero, ◌+◌, Bool, true, false, List, Option, Some, None, [], ◌∷◌, ◌++◌}
use Rattle.std.specs.Prelude.{length, map}
use Rattle.std.specs.Prelude.{slice_get}
use Rattle.rand_pcg.specs.Lcg.{Lcg}
use Rattle.rand_pcg.specs.Pcg.{pcg32}
use Rattle.pf_choice.specs.Choices as choice
use Rattle.pf_choice.specs.Choices.{Chooses, IsAt}
use Rattle.pf_choice.specs.declared.choices.Choices.{Choices}
use Rattle.pf_model.specs.Channels.{heads}
use Rattle.pf_model.specs.Choosers.{Chooser}
use Rattle.pf_model.specs.Configuration.{Configuration}
use Rattle.pf_model.specs.Labels.{Label}
use Rattle.pf_model.specs.Meaning as meaning
use Rattle.pf_model.specs.Meaning.{Event, profile_of, words_of}
use Rattle.pf_model.specs.Module.{module_of}
use Rattle.pf_model.specs.Runs.{Goes, Transition, enabled, ready, start}
use Rattle.pf_request.specs.Job.{Job}
use Rattle.pf_strategy.specs.Last.{keep_last}
use Rattle.pf_strategy.specs.Noted.{point}
use Rattle.pf_strategy.specs.Priorities.{state_of}
use Rattle.pf_strategy.specs.declared.noted.ChoicePoint.{ChoicePoint}
use Rattle.pf_system.specs.Steps.{Represents, SimulatesFrom}
use Rattle.pf_system.specs.View.{SystemView}
use Rattle.pf_sched.specs.declared.chooser.ActorChooser.{ActorChooser}
use Rattle.pf_sched.specs.declared.chooser.ActorChooser.TheVariants as code
use Rattle.pf_sched.specs.declared.last.Sampler.{Sampler}
use Rattle.pf_sched.specs.declared.last.Sampler.TheVariants as sampler
use Rattle.pf_sched.specs.declared.noted.NotedChoices.{NotedChoices}
use Rattle.pf_sched.specs.declared.execution.Execution.{Execution}
use Rattle.pf_sched.specs.declared.execution.Chosen.{Chosen}
use Rattle.pf_sched.specs.Choosing.{Choosing, StateOf, chooser_of, choices, first_of, last, noted, priorities}
use Rattle.pf_sched.specs.Reported.{Hears, event}

-- ---- by a chooser

-- of the actors that may go the one that a chooser chooses in state s went, within n steps, as the event says; the
-- chooser is in state t then
pub record Went {S : Type 0} (choose : Chooser S) (left : ℕ) (c : Configuration) (x : SystemView) (s : S) (e : Event)
    (x' : SystemView) (t : S) : Type 0 where
  pub used : ℕ
  pub counts : e.count ≡ length (enabled c)
  pub chooses : choose s (ready c) (heads c.channels) ≡ (e.choice, t)
  pub chosen : slice_get (enabled c) e.choice ≡ Some e.actor
  pub passes : SimulatesFrom c left x e.actor e.label used x'

-- a run of a job by a chooser from state s so far, which is in state t: it is at some configuration, and these events
-- show its transitions
pub record Going {S : Type 0} (choose : Chooser S) (s : S) (j : Job) (es : List Event) (x : SystemView)
    (t : S) : Type 0 where
  pub transitions : List Transition
  pub last : Configuration
  pub code : module_of x.checked ≡ j.asked.code
  pub is_there : Represents x last
  pub goes : Goes j.asked.code choose s j.asked.limit (start j.asked.root j.asked.edition) transitions last x.steps t
  pub within : x.steps ≤ j.asked.limit
  pub events : es ≡ map meaning.event_of_transition transitions

-- ---- what chooses in the code

-- choices are those of a job from number i on
pub record MakesFrom (cs : meaning.Choices) (i : ℕ) (q : Choices Lcg) : Type 0 where
  pub at : IsAt pcg32 (words_of cs) i q
  pub profile : choice.profile_of q ≡ profile_of cs

-- and from the first on
abbrev pub Makes : meaning.Choices → Choices Lcg → Type 0
Makes cs q = MakesFrom cs zero q

-- of so many processes and channels choices choose this index, and it is noted
abbrev pub NotesChoice : NotedChoices → (pids channels : ℕ) → ℕ → NotedChoices → Type 0
NotesChoice n pids channels k n' =
    Chooses pcg32 n.choices pids channels k n'.choices
    × (n'.points.items ≡ n.points.items ++ point k (pids + channels) ∷ [])

-- what chooses beside the last process is the chooser of this, in this state
abbrev pub IsSampler : (w : Choosing) → StateOf w → Sampler → Type 0
IsSampler (choices cs) i (sampler.Choices q) = MakesFrom cs i q
IsSampler (choices cs) i (sampler.Priorities p) = ⊥
IsSampler (choices cs) i (sampler.Noted n) = ⊥
IsSampler (priorities seed) s (sampler.Choices q) = ⊥
IsSampler (priorities seed) s (sampler.Priorities p) = s ≡ state_of p
IsSampler (priorities seed) s (sampler.Noted n) = ⊥
IsSampler (noted cs) s (sampler.Choices q) = ⊥
IsSampler (noted cs) s (sampler.Priorities p) = ⊥
IsSampler (noted cs) s (sampler.Noted n) = MakesFrom cs s.0 n.choices × (s.1 ≡ n.points.items)
IsSampler (last p w) s q = ⊥

-- ChoosesAmong q pids channels k q': in whichever state of whichever chooser it was, k is the index that this chooses
-- of these, and it is in the state after that
abbrev pub ChoosesAmong : Sampler → (pids : List ℕ) → (channels : List (ℕ × ℕ)) → ℕ → Sampler → Type 0
ChoosesAmong q pids channels k q' =
    (w : Choosing) (s : StateOf w) → IsSampler w s q
    → (t : StateOf w) × (chooser_of w s pids channels ≡ (k, t)) × IsSampler w t q'

-- the same where a process goes last
abbrev pub ChoosesLast : (pid : ℕ) → Sampler → (pids : List ℕ) → (channels : List (ℕ × ℕ)) → ℕ → Sampler → Type 0
ChoosesLast p q pids channels k q' =
    (w : Choosing) (s : StateOf w) → IsSampler w s q
    → (t : StateOf w) × (keep_last p (chooser_of w) s pids channels ≡ (k, t)) × IsSampler w t q'

-- the choices that are noted, of what chooses beside the last process
abbrev pub noted_by : Sampler → List ChoicePoint
noted_by (sampler.Choices q) = []
noted_by (sampler.Priorities p) = []
noted_by (sampler.Noted n) = n.points.items

-- and in a run
abbrev pub points_in : ActorChooser → List ChoicePoint
points_in (code.Choices q) = []
points_in (code.Priorities p) = []
points_in (code.Last l) = noted_by l.by

-- what chooses in a run is the chooser of this, in this state
abbrev pub IsIn : (w : Choosing) → StateOf w → ActorChooser → Type 0
IsIn (choices cs) i (code.Choices q) = MakesFrom cs i q
IsIn (choices cs) i (code.Priorities p) = ⊥
IsIn (priorities seed) s (code.Choices q) = ⊥
IsIn (priorities seed) s (code.Priorities p) = s ≡ state_of p.priorities
IsIn (choices cs) i (code.Last l) = ⊥
IsIn (priorities seed) s (code.Last l) = ⊥
IsIn (noted cs) s q = ⊥
IsIn (last p w) s (code.Choices q) = ⊥
IsIn (last p w) s (code.Priorities q) = ⊥
IsIn (last p w) s (code.Last l) = (p ≡ l.others.last) × IsSampler w s l.by

abbrev pub IsFirst : Choosing → ActorChooser → Type 0
IsFirst w q = IsIn w (first_of w) q

-- ChoosesFor q c k q': in whichever state of whichever chooser it was, k is the index that this chooses of those who
-- may go, and it is in the state after that
abbrev pub ChoosesFor : ActorChooser → Configuration → ℕ → ActorChooser → Type 0
ChoosesFor q c k q' =
    (w : Choosing) (s : StateOf w) → IsIn w s q
    → (t : StateOf w) × (chooser_of w s (ready c) (heads c.channels) ≡ (k, t)) × IsIn w t q'

-- ---- of a run

-- and the actor went that it chooses
abbrev pub WentOn : (left : ℕ) → Configuration → Execution → Event → Execution → Type 0
WentOn left c x e x' =
    (w : Choosing) (s : StateOf w) → IsIn w s x.chooser
    → (t : StateOf w) × Went (chooser_of w) left c x.system s e x'.system t × IsIn w t x'.chooser

-- the actor that is chosen went, which showed this; or nobody may go and nothing was done
abbrev pub MayHavePassed : ℕ → Configuration → Execution → Option Chosen → Label → Execution → Type 0
MayHavePassed left c x (Some n) l x' = WentOn left c x (event n.index n.among n.actor l) x'
MayHavePassed left c x None l x' = (enabled c ≡ []) × (x' ≡ x)

-- the same, and a trace received it; or nobody may go and nothing was done
abbrev pub MayHaveGone : {T : Type 0} (Reported : T → meaning.Job → List Event → Type 0) → ℕ → Configuration
    → Execution → T
    → Bool → Execution → T → Type 0
MayHaveGone Reported left c x t true x' t' = (e : Event) × WentOn left c x e x' × Hears Reported t e t'
MayHaveGone Reported left c x t false x' t' = (enabled c ≡ []) × (x' ≡ x) × (t' ≡ t)

-- A run is made again event by event.
use Rattle.std.proofs.Common.{◌≡◌, inl, inr, ◌+◌, ◌-◌, ◌<◌, ◌≤◌, ℕ, zero, suc, true, false, List, [], ◌∷◌, ◌++◌, length}
use Rattle.std.proofs.Common.{map, take, Option, Some, None, refl, sym, ap, ◌∙◌, subst, arith}
use Rattle.std.specs.Prelude.{IfSome, MatchOption, get_or, option_map, slice_get}
use Rattle.std.proofs.lemmas.List.{length-map, take-map}
use Rattle.std.proofs.lemmas.Option.{same_Some, slice_get-map, slice_get-get_or}
use Rattle.pf_syntax.specs.Module.{Checked}
use Rattle.pf_syntax.specs.declared.node.FunctionId.{FunctionId}
use Rattle.pf_model.specs.Choosers.{choose_by_picks}
use Rattle.pf_model.specs.Configuration.{Configuration, of}
use Rattle.pf_model.specs.Context.{ProcessState}
use Rattle.pf_model.specs.Labels.{Label}
use Rattle.pf_model.specs.Meaning as meaning
use Rattle.pf_model.specs.Meaning.{Event}
use Rattle.pf_model.specs.Module.{Module, module_of}
use Rattle.pf_model.specs.Reports.{view_of_event}
use Rattle.pf_model.specs.declared.report.Event.{Event as Coded}
use Rattle.pf_model.specs.Runs.{Passes, Transition, enabled, start}
use Rattle.pf_model.proofs.Turned.{pass_only}
use Rattle.pf_stepper.specs.declared.point.Point.{Point}
use Rattle.pf_stepper.specs.declared.point.Point.TheVariants as point
use Rattle.pf_system.specs.Steps.{Begins, Represents, SimulatesFrom}
use Rattle.pf_system.specs.View.{SystemView}
use Rattle.pf_system.proofs.Bodies.{more_length}
use Rattle.pf_process_status.specs.Fates.{Began, IsCalled, IsNoCall, IsAtPoint, begun_in}
use Rattle.pf_process_status.specs.Followed.{AreBegun, HasGone, IsFollowed}
use Rattle.pf_process_status.specs.declared.follow.Begun.{Begun}
use Rattle.pf_process_status.specs.declared.follow.Followed.{Followed}
use Rattle.pf_process_status.specs.Known.{Comes, RunLeadsTo, checked_of, module_of_run, events_of}
use Rattle.pf_process_status.specs.declared.known.KnownRun.{KnownRun}
use Rattle.pf_process_status.proofs.Lives.{IsNext, as_many, pass_begins, pass_count}
use Rattle.pf_process_status.proofs.Marked.{IsNextTo, Marked, at_end, front, here, next_to}

-- ---- lists

pub at_mapped : {A B : Type 0} (f : A → B) (xs : List A) (i : ℕ) (y : B) → slice_get (map f xs) i ≡ Some y
    → (x : A) × (slice_get xs i ≡ Some x) × (y ≡ f x)
at_mapped {A = A} f xs i y e = by (slice_get xs i) refl (sym (slice_get-map f xs i) ∙ e)
  where
    by : (o : Option A) → slice_get xs i ≡ o → option_map f o ≡ Some y → (x : A) × (slice_get xs i ≡ Some x) × (y ≡ f x)
    by None h k = absurd (cc)
    by (Some x) h k = (x, h, sym (same_Some (f x) y k))

-- what is at an index of a list with one element more
pub at_pushed : {A : Type 0} (P : ℕ → A → Type 0) (xs : List A) (x : A)
    → ((p : ℕ) (y : A) → slice_get xs p ≡ Some y → P p y) → P (length xs) x
    → (p : ℕ) (y : A) → slice_get (xs ++ x ∷ []) p ≡ Some y → P p y
at_pushed P [] x h k zero y e = subst (P zero) (same_Some x y e) k
at_pushed P [] x h k (suc p) y e = absurd (cc)
at_pushed P (z ∷ xs) x h k zero y e = h zero y e
at_pushed P (z ∷ xs) x h k (suc p) y e = at_pushed (λ q. P (suc q)) xs x (λ q. h (suc q)) k p y e

-- ---- where a run is

-- a system is after the first i events of a run, and it is known in whose calls the processes began that there are then
pub record At (k : KnownRun) (d : Configuration) (h : RunLeadsTo k d) (i : ℕ) (s : SystemView)
    (fs : List Begun) : Type 0 where
  pub here : Configuration
  pub made : ℕ
  pub marked : Marked (module_of_run k) (choose_by_picks h.picks) d h.made 0 k.limit (start k.root.0 k.edition)
      h.transitions h.steps i here s.steps made
  pub module_is : s.checked ≡ checked_of k
  pub is_there : Represents s here
  pub begun : AreBegun k here fs

abbrev pub root_of : KnownRun → Begun
root_of k = record { pid = 0; function = Some k.root }

-- the root began
root_began : (k : KnownRun) (p : ℕ) (b : Begun) → slice_get (root_of k ∷ []) p ≡ Some b
    → (b.pid ≡ p) × Began k p b.function
root_began k zero b e = subst (λ z. (z.pid ≡ zero) × Began k zero z.function) (same_Some (root_of k) b e)
    (refl, inl (refl, refl))
root_began k (suc p) b e = absurd (cc)

pub at_start : (k : KnownRun) (d : Configuration) (h : RunLeadsTo k d) (s : SystemView) (fs : List Begun)
    → Begins (checked_of k) k.root.0 k.edition s → fs ≡ root_of k ∷ [] → At k d h 0 s fs
at_start k d h s fs e g =
    record {
      here = start k.root.0 k.edition;
      made = 0;
      marked =
          subst
          (λ n. Marked (module_of_run k) (choose_by_picks h.picks) d h.made 0 k.limit (start k.root.0 k.edition)
          h.transitions h.steps zero (start k.root.0 k.edition) n 0)
          (sym e.steps) (here 0 k.limit (start k.root.0 k.edition) h.transitions h.steps h.goes);
      module_is = e.checked;
      is_there = e.is_there;
      begun = subst (AreBegun k (start k.root.0 k.edition)) (sym g)
          (record { count = refl; pids = λ p b q. (root_began k p b q).0; each = λ p b q. (root_began k p b q).1 });
    }

-- after all events it is where the run leads
pub at_last : (k : KnownRun) (d : Configuration) (h : RunLeadsTo k d) (i : ℕ) (s : SystemView) (fs : List Begun)
    (a : At k d h i s fs)
    → i ≡ length h.transitions → a.here ≡ d
at_last k d h i s fs a e =
    at_end (module_of_run k) (choose_by_picks h.picks) d h.made 0 k.limit (start k.root.0 k.edition) h.transitions
    h.steps i a.here s.steps a.made a.marked e

-- ---- one event more

module _ (k : KnownRun) (d : Configuration) (h : RunLeadsTo k d) (i : ℕ) (s : SystemView) (fs : List Begun)
    (a : At k d h i s fs) (e : Event)
    (at : slice_get (events_of k) i ≡ Some e) where
  abbrev pub m : Module
  m = module_of_run k

  abbrev pub its : (t : Transition) × (slice_get h.transitions i ≡ Some t) × (e ≡ meaning.event_of_transition t)
  its = at_mapped meaning.event_of_transition h.transitions i e (ap (λ es. slice_get es i) (sym h.events) ∙ at)

  abbrev pub t : Transition
  t = its.0

  pub b : IsNextTo m (choose_by_picks h.picks) d h.made 0 k.limit (start k.root.0 k.edition) h.transitions h.steps i
      a.here s.steps t
  b =
      next_to m (choose_by_picks h.picks) d h.made 0 k.limit (start k.root.0 k.edition) h.transitions h.steps i a.here
      s.steps a.made a.marked t its.1

  chosen_there : slice_get (enabled a.here) e.choice ≡ Some t.actor
  chosen_there = ap (λ z. slice_get (enabled a.here) z.choice) its.2 ∙ b.chosen

  -- there is an actor of its choice, and a step is left
  pub not_stopped : (l : Label) (s' : SystemView) → HasGone k.limit e.choice a.here s l s' false → ⊥
  not_stopped l s' (inl few) = let left = b.left in absurd (omega arith)
  not_stopped l s' (inr none) = let same : None ≡ Some t.actor = sym none ∙ chosen_there in absurd (cc)

  module _ (l : Label) (s' : SystemView) (went : HasGone k.limit e.choice a.here s l s' true) where
    abbrev used : ℕ
    used = went.2.0

    passes : SimulatesFrom a.here (k.limit - s.steps) s went.0 l used s'
    passes = went.2.1

    actor : went.0 ≡ t.actor
    actor = same_Some went.0 t.actor (sym went.1 ∙ chosen_there)

    as_it_passes : Passes m (k.limit - s.steps) a.here t.actor passes.passed
    as_it_passes =
        subst (λ z. Passes (module_of z) (k.limit - s.steps) a.here t.actor passes.passed) a.module_is
        (subst (λ z. Passes (module_of s.checked) (k.limit - s.steps) a.here z passes.passed) actor passes.passes)

    same : passes.passed ≡ b.passed
    same =
        sym (pass_only m (k.limit - s.steps) a.here t.actor passes.passed as_it_passes)
        ∙ pass_only m (k.limit - s.steps) a.here t.actor b.passed b.passes

    steps : s'.steps ≡ s.steps + b.passed.used
    steps = passes.steps ∙ ap (λ n. s.steps + n) (passes.counts ∙ ap (λ z. z.used) same)

    abbrev pub after : Configuration
    after = b.passed.after

    pub is_there : Represents s' after
    is_there = subst (λ z. Represents s' z.after) same passes.is_there

    shows : l ≡ b.passed.label
    shows = passes.label ∙ ap (λ z. z.label) same

    next : Marked m (choose_by_picks h.picks) d h.made 0 k.limit (start k.root.0 k.edition) h.transitions h.steps
        (suc i) after s'.steps b.later
    next =
        subst (λ n. Marked m (choose_by_picks h.picks) d h.made 0 k.limit (start k.root.0 k.edition) h.transitions
        h.steps (suc i) after n b.later)
        (sym steps) b.next

    comes : Comes k (take (suc i) (events_of k)) after
    comes =
        record {
          picks = h.picks;
          transitions = take (suc i) h.transitions;
          steps = s'.steps;
          made = b.later;
          goes = front m (choose_by_picks h.picks) d h.made 0 k.limit (start k.root.0 k.edition) h.transitions h.steps
              (suc i) after s'.steps b.later next;
          events = ap (take (suc i)) h.events ∙ take-map meaning.event_of_transition (suc i) h.transitions;
        }

    event_shows : e.label ≡ l
    event_shows = ap (λ z. z.label) its.2 ∙ b.label ∙ sym shows

    count : length after.core.processes ≡ as_many (begun_in l) (length a.here.core.processes)
    count =
        pass_count m (k.limit - s.steps) a.here t.actor b.passed b.passes
        ∙ ap (λ z. as_many (begun_in z) (length a.here.core.processes)) (sym shows)

    is_next : IsNext l (length a.here.core.processes)
    is_next =
        subst (λ z. IsNext z (length a.here.core.processes)) (sym shows)
        (pass_begins m (k.limit - s.steps) a.here t.actor b.passed b.passes)

    there : (gs : List Begun) → AreBegun k after gs → At k d h (suc i) s' gs
    there gs g =
        record {
          here = after;
          made = b.later;
          marked = next;
          module_is = passes.checked ∙ a.module_is;
          is_there = is_there;
          begun = g;
        }

    -- where no process began
    pub none_began : begun_in l ≡ None → At k d h (suc i) s' fs
    none_began n = there fs (record {
      count =
          a.begun.count ∙ sym (count ∙ ap (λ o. as_many o (length a.here.core.processes)) n);
      pids = a.begun.pids;
      each =
          a.begun.each;
    })

    -- where one began, in the call that is given
    pub one_began : (pid : ℕ) (f : Option FunctionId) → begun_in l ≡ Some pid
        → IsCalled s'.checked (of after.core pid).state f
        → At k d h (suc i) s' (fs ++ record { pid = pid; function = f } ∷ [])
    one_began pid f n calls =
        let it : Begun = record { pid = pid; function = f } in
        there (fs ++ it ∷ [])
        (record {
          count = more_length fs it ∙ ap suc a.begun.count
              ∙ sym (count ∙ ap (λ o. as_many o (length a.here.core.processes)) n);
          pids = at_pushed (λ p b. b.pid ≡ p) fs it a.begun.pids its_pid;
          each = at_pushed (λ p b. Began k p b.function) fs it a.begun.each began;
        })
      where
        its_pid : pid ≡ length fs
        its_pid = subst (λ o. IfSome o (λ p. p ≡ length a.here.core.processes)) n is_next ∙ sym a.begun.count

        its_module : s'.checked ≡ checked_of k
        its_module = passes.checked ∙ a.module_is

        began : Began k (length fs) f
        began =
            inr (record {
              number = i;
              event = e;
              is = at;
              begins = ap begun_in event_shows ∙ n ∙ ap (λ z. Some z) its_pid;
              following = after;
              comes = comes;
              calls = subst (λ z. IsCalled (checked_of k) (of after.core z).state f) its_pid
                  (subst (λ z. IsCalled z (of after.core pid).state f) its_module calls);
            })

-- the function that is called where a process is
pub called_of : (m : Checked) (s : ProcessState) (x : Point) (o : Option FunctionId)
    → MatchOption o (IsNoCall x) (λ f. x ≡ point.Calls f) → IsAtPoint m s x → IsCalled m s o
called_of m s x None h at = inr (x, at, h)
called_of m s x (Some f) h at = subst (IsAtPoint m s) h at

-- the event at an index
pub event_in : (es : List Coded) (i : ℕ) (e : Coded) → i < length es
    → slice_get (map view_of_event es) i ≡ Some (view_of_event (get_or es i e))
event_in es i e l = slice_get-map view_of_event es i ∙ ap (option_map view_of_event) (slice_get-get_or es i e l)

pub event_at : (es : List Coded) (i : ℕ) (e : Coded) → i < length es → e ≡ get_or es i e
    → slice_get (map view_of_event es) i ≡ Some (view_of_event e)
event_at es i e l h = event_in es i e l ∙ ap (λ z. Some (view_of_event z)) (sym h)

-- once all events were made, the run is followed
pub followed : (k : KnownRun) (d : Configuration) (h : RunLeadsTo k d) (i : ℕ) (f : Followed)
    → At k d h i f.system f.begun.items → length k.events.now ≤ i → i ≤ length k.events.now
    → IsFollowed k d f
followed k d h i f a few most =
    let count : length k.events.now ≡ length h.transitions =
    sym (length-map k.events.now view_of_event) ∙ ap length h.events
    ∙ length-map h.transitions meaning.event_of_transition in
    let all : i ≡ length h.transitions = omega (arith, count) in
    let same = at_last k d h i f.system f.begun.items a all in
    record {
      module_is = a.module_is;
      is_there = subst (Represents f.system) same a.is_there;
      begun = subst (λ z. AreBegun k z f.begun.items) same a.begun;
    }

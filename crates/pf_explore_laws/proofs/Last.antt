-- What holds by each schedule where a process goes last holds by each chooser that lets it go last.
use Rattle.std.proofs.Common.{◌≡◌, ◌∙◌, refl, sym, ap, subst, ℕ, zero, suc, ◌+◌, ◌-◌, ◌%◌, ◌<◌, ◌≤◌, ◌==◌}
use Rattle.std.proofs.Common.{Bool, true, false}
use Rattle.std.proofs.Common.{if◌then◌else◌, List, [], ◌∷◌, length, map, Option, None, Some, arith}
use Rattle.std.specs.Prelude.{filter, slice_get}
use Rattle.std.proofs.Math.Nat.{mod-eq_of_lt, zero-add}
use Rattle.std.proofs.lemmas.Option.{slice_get_within}
use Rattle.pf_choice.specs.Words.{schedule_word}
use Rattle.pf_model.specs.Choosers.{Chooser, Picks}
use Rattle.pf_model.specs.Module.{Module}
use Rattle.pf_model.specs.Channels.{heads}
use Rattle.pf_model.specs.Configuration.{Configuration}
use Rattle.pf_model.specs.Runs.{ready, Transition, transition, Goes, stays, more, enabled, next_choice, next_state}
use Rattle.pf_model.specs.Runs.{start}
use Rattle.pf_model.specs.Meaning.{Event, Job, Means, Report, picks_of, schedule}
use Rattle.pf_model.specs.Shrinking.{by_schedule}
use Rattle.pf_model.specs.declared.report.Actor.{Actor}
use Rattle.pf_model.proofs.Meanings.{enabled_count}
use Rattle.pf_strategy.specs.Last.{are_others, choose_other, is_other, is_other_channel, keep_named, place}
use Rattle.pf_strategy.specs.Noted.{MeansBySchedule, point}
use Rattle.pf_strategy.specs.declared.noted.ChoicePoint.{ChoicePoint}
use Rattle.pf_strategy.proofs.Lasting.{count_of_marks, count_of_others}
use Rattle.pf_explore_laws.specs.Schedules.{deviations}
use Rattle.pf_explore_laws.specs.Last.{NobodyLast, NoChooserFailsLast, SomeScheduleLast, other_choices}
use Rattle.pf_explore_laws.specs.Parting.{point_of}
use Rattle.pf_explore_laws.proofs.Noted.{Noted, none, one, are_any, among, chans, picked, place_of, procs, to_plain}
use Rattle.pf_explore_laws.proofs.Parting.{events_are_choices}

-- ---- where no process is named

same_count : (es : List Event) → other_choices (map point_of es) ≡ deviations es
same_count [] = refl
same_count (e ∷ es) = by (e.choice == 0) (same_count es)
  where
    by : (b : Bool) → other_choices (map point_of es) ≡ deviations es
        → (if b then other_choices (map point_of es) else suc (other_choices (map point_of es)))
        ≡ (if b then deviations es else suc (deviations es))
    by true h = h
    by false h = ap suc h

-- what a job means by a schedule it means by it where no process goes last
nobody_named : (j : Job) (ns : List ℕ) (r : Report) → Means (by_schedule j ns) r → MeansBySchedule None j ns r
nobody_named j ns r h = record {
  transitions = h.transitions;
  last = h.last;
  state = h.state;
  run = h.run;
  report = h.report;
}

pub nobody_last : NobodyLast
nobody_last j = (
  λ each ns r means. each ns r (nobody_named j ns r means),
  λ k within ns r means few.
      within ns (map point_of r.events) r (events_are_choices j ns r means)
      (subst (λ n. n ≤ k) (sym (same_count r.events)) few),
)

-- ---- choosers that let a process go last

-- only those are at a place that are so many
place_below : (i : ℕ) (bs : List Bool) → place i bs < length bs → i < length (filter (λ b. b) bs)
place_below i [] l = absurd (omega arith)
place_below i (false ∷ bs) l = place_below i bs (omega arith)
place_below zero (true ∷ bs) l = omega arith
place_below (suc i) (true ∷ bs) l = let k = place_below i bs (omega arith) in omega arith

module _ {S : Type 0} (choose : Chooser S) where
  abbrev of_others : (p : ℕ) → S → Configuration → ℕ × S
  of_others p s c = choose s (filter (is_other p) (ready c)) (filter (is_other_channel p) (heads c.channels))

  abbrev of_all : S → Configuration → ℕ × S
  of_all s c = choose s (ready c) (heads c.channels)

  -- which of those among whom it chooses it chooses, and its state then
  abbrev chosen_in : (p : Option ℕ) → S → Configuration → ℕ × S
  chosen_in None s c = of_all s c
  chosen_in (Some p) s c = if are_any p c then of_others p s c else of_all s c

  choice_in : (p : Option ℕ) (s : S) (c : Configuration)
      → keep_named p choose s (ready c) (heads c.channels)
      ≡ (place_of p c (chosen_in p s c).0, (chosen_in p s c).1)
  choice_in None s c = refl
  choice_in (Some p) s c = by (are_any p c)
    where
      by : (b : Bool)
          → (if b then choose_other p choose s (ready c) (heads c.channels) else choose s (ready c) (heads c.channels))
          ≡ (
            if b then place (if b then of_others p s c else of_all s c).0 (are_others p (ready c) (heads c.channels))
                else (if b then of_others p s c else of_all s c).0,
            (if b then of_others p s c else of_all s c).1,
          )
      by true = refl
      by false = refl

-- one that is at a place of those who may go is one of those among whom is chosen
one_of_those : (p : Option ℕ) (c : Configuration) (i : ℕ) (x : Actor) → slice_get (enabled c) (place_of p c i) ≡ Some x
    → i < among p c
one_of_those None c i x e =
    let all = enabled_count c in
    let within = slice_get_within (enabled c) i x e in
    omega arith
one_of_those (Some p) c i x e =
    by (are_any p c) (slice_get_within (enabled c) (place_of (Some p) c i) x e)
  where
    by : (b : Bool)
        → (if b then place i (are_others p (ready c) (heads c.channels)) else i) < length (enabled c)
        → i
        < (if b then length (filter (is_other p) (ready c)) else length (ready c))
        + (if b then length (filter (is_other_channel p) (heads c.channels)) else length (heads c.channels))
    by true within =
        let all = enabled_count c in
        let marks = count_of_marks p (ready c) (heads c.channels) in
        let count = count_of_others p (ready c) (heads c.channels) in
        let below = place_below i (are_others p (ready c) (heads c.channels)) (omega arith) in
        omega arith
    by false within =
        let all = enabled_count c in
        omega arith

-- from this number on, picks are those of a schedule of these numbers
abbrev AreFrom : ℕ → List ℕ → Picks → Type 0
AreFrom i ns ps = (l a b : ℕ) → ps (i + l) a b ≡ schedule_word ns l % (a + b)

abbrev numbers : List ChoicePoint → List ℕ
numbers es = map (λ e. e.choice) es

module _ {S : Type 0} (m : Module) (p : Option ℕ) (choose : Chooser S) where
  -- the choices of its run are a schedule of it
  replayed : (s : S) (n : ℕ) (c : Configuration) (ts : List Transition) (d : Configuration) (k : ℕ) (t : S)
      → Goes m (keep_named p choose) s n c ts d k t
      → (es : List ChoicePoint) × ((i : ℕ) (ps : Picks) → AreFrom i (numbers es) ps → Noted m p ps i n c ts es d k)
  replayed _ _ _ _ _ _ _ (stays s n c) = ([], λ i ps from. none i n c)
  replayed _ _ _ _ _ _ _ (more s n c x q ts d k t chosen pass rest) =
      let e = choice_in choose p s c in
      let a = (chosen_in choose p s c).0 in
      let at : next_choice (keep_named p choose) s c ≡ place_of p c a = ap (λ z. z.0) e in
      let there : slice_get (enabled c) (place_of p c a) ≡ Some x =
      subst (λ y. slice_get (enabled c) y ≡ Some x) at chosen in
      let below : a < among p c = one_of_those p c a x there in
      let r = replayed (next_state (keep_named p choose) s c) (suc n - q.used) q.after ts d k t rest in (
        point a (among p c) ∷ r.0,
        λ i ps from.
            let first : picked p ps i c ≡ a = picked_first i ps r.0 a c below from in
            let later = r.1 (suc i) ps (after_first i ps (numbers r.0) a from) in
            subst (λ y. Noted m p ps i (suc n) c (transition y (enabled c) x q ∷ ts)
            (point a (among p c) ∷ r.0) d (q.used + k)) (sym at)
            (subst (λ z. Noted m p ps i (suc n) c (transition (place_of p c z) (enabled c) x q ∷ ts)
            (point z (among p c) ∷ r.0) d (q.used + k)) first
            (one i n c x q ts r.0 d k (subst (λ z. slice_get (enabled c) (place_of p c z) ≡ Some x) (sym first) there)
            pass later)),
      )
    where
      picked_first : (i : ℕ) (ps : Picks) (es : List ChoicePoint) (a : ℕ) (c : Configuration) → a < among p c
          → AreFrom i (a ∷ numbers es) ps → picked p ps i c ≡ a
      picked_first i ps es a c below from =
          let at : i ≡ i + zero = omega arith in
          ap (λ z. picked p ps z c) at ∙ from zero (procs p c) (chans p c) ∙ mod-eq_of_lt below

      after_first : (i : ℕ) (ps : Picks) (ns : List ℕ) (a : ℕ) → AreFrom i (a ∷ ns) ps → AreFrom (suc i) ns ps
      after_first i ps ns a from l b c =
          let at : suc i + l ≡ i + suc l = omega arith in
          ap (λ z. ps z b c) at ∙ from (suc l) b c

pub some_schedule : (S : Type 0) → SomeScheduleLast S
some_schedule S p j choose s r means =
    let f = replayed j.code p choose s j.limit (start j.root j.edition) means.transitions means.last r.steps means.state
    means.run.goes in
    let ps = picks_of (schedule (numbers f.0)) in
    let from : AreFrom zero (numbers f.0) ps =
    λ l a b. ap (λ i. schedule_word (numbers f.0) i % (a + b)) (zero-add l) in
    let g = to_plain j.code p ps zero j.limit (start j.root j.edition) means.transitions f.0 means.last r.steps
    (f.1 zero ps from) in (
      numbers f.0,
      record {
        transitions = means.transitions;
        last = means.last;
        state = g.0;
        run = record { goes = g.1; stops = means.run.stops };
        report = means.report;
      },
    )

pub no_chooser_fails_last : (S : Type 0) → NoChooserFailsLast S
no_chooser_fails_last S p j each choose s r means =
    let h = some_schedule S p j choose s r means in
    each h.0 r h.1

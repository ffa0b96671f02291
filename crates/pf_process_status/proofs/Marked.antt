-- A run with a mark between two of its transitions.
use Rattle.std.proofs.Common.{◌≡◌, ◌+◌, ◌-◌, ◌<◌, ℕ, zero, suc, List, ◌∷◌, length, take, Some, refl, sym, subst, arith}
use Rattle.std.specs.Prelude.{slice_get}
use Rattle.std.proofs.lemmas.Option.{same_Some}
use Rattle.pf_model.specs.Choosers.{Chooser}
use Rattle.pf_model.specs.Configuration.{Configuration}
use Rattle.pf_model.specs.Module.{Module}
use Rattle.pf_model.specs.Runs.{Goes, stays, more, next_choice, next_state, Passed, Passes, Transition, transition}
use Rattle.pf_model.specs.Runs.{enabled}
use Rattle.pf_model.specs.declared.report.Actor.{Actor}

-- Marked m choose d t s n c ts k i e j u: a run by a chooser from c and its state s, with n steps left, by ts in k
-- steps to d and its state t; after i transitions, in j steps, it was at e, and the chooser in state u
pub data Marked {S : Type 0} (m : Module) (choose : Chooser S) (d : Configuration) (t : S) : S → ℕ → Configuration
    → List Transition → ℕ → ℕ → Configuration → ℕ → S → Type 0 where
  here : (s : S) (n : ℕ) (c : Configuration) (ts : List Transition) (k : ℕ) → Goes m choose s n c ts d k t
      → Marked m choose d t s n c ts k zero c zero s
  further : (s : S) (n : ℕ) (c : Configuration) (x : Actor) (p : Passed) (ts : List Transition) (k i : ℕ)
      (e : Configuration) (j : ℕ) (u : S)
      → slice_get (enabled c) (next_choice choose s c) ≡ Some x → Passes m (suc n) c x p
      → Marked m choose d t (next_state choose s c) (suc n - p.used) p.after ts k i e j u
      → Marked m choose d t s (suc n) c (transition (next_choice choose s c) (enabled c) x p ∷ ts) (p.used + k)
      (suc i) e (p.used + j) u

module _ {S : Type 0} (m : Module) (choose : Chooser S) (d : Configuration) (t : S) where
  -- the transition after the mark: its actor is the one that its choice is among those that may go, and it passes so
  pub record IsNextTo (s : S) (n : ℕ) (c : Configuration) (ts : List Transition) (k i : ℕ) (e : Configuration) (j : ℕ)
      (v : Transition) : Type 0 where
    pub passed : Passed
    pub later : S
    pub left : j < n
    pub chosen : slice_get (enabled e) v.choice ≡ Some v.actor
    pub passes : Passes m (n - j) e v.actor passed
    pub label : v.label ≡ passed.label
    pub next : Marked m choose d t s n c ts k (suc i) passed.after (j + passed.used) later

  -- the run up to the mark
  pub front : (s : S) (n : ℕ) (c : Configuration) (ts : List Transition) (k i : ℕ) (e : Configuration) (j : ℕ) (u : S)
      → Marked m choose d t s n c ts k i e j u → Goes m choose s n c (take i ts) e j u
  front _ _ _ _ _ _ _ _ _ (here s n c ts k g) = stays s n c
  front _ _ _ _ _ _ _ _ _ (further s n c x p ts k i e j u chosen pass rest) =
      more s n c x p (take i ts) e j u chosen pass
      (front (next_state choose s c) (suc n - p.used) p.after ts k i e j u rest)

  first : (s : S) (n : ℕ) (c : Configuration) (ts : List Transition) (k : ℕ) (e : Configuration) (u : S)
      → Goes m choose s n c ts e k u → e ≡ d → u ≡ t
      → (v : Transition) → slice_get ts zero ≡ Some v → IsNextTo s n c ts k zero c zero v
  first _ _ _ _ _ _ _ (stays s n c) to at v h = absurd (cc)
  first _ _ _ _ _ _ _ (more s n c x p ts e k u chosen pass rest) to at v h =
      let w = transition (next_choice choose s c) (enabled c) x p in
      let same : w ≡ v = same_Some w v h in
      let steps : p.used + zero ≡ zero + p.used = omega arith in
      let left : suc n ≡ suc n - zero = omega arith in
      let later = next_state choose s c in
      let leads : Goes m choose later (suc n - p.used) p.after ts d k t =
      subst (Goes m choose later (suc n - p.used) p.after ts d k) at
      (subst (λ z. Goes m choose later (suc n - p.used) p.after ts z k u) to rest) in
      let goes = further s n c x p ts k zero p.after zero later chosen pass
      (here later (suc n - p.used) p.after ts k leads) in
      subst (IsNextTo s (suc n) c (w ∷ ts) (p.used + k) zero c zero) same
      (record {
        passed = p;
        later = later;
        left = omega arith;
        chosen = chosen;
        passes = subst (λ l. Passes m l c x p) left pass;
        label = refl;
        next = subst (λ j. Marked m choose d t s (suc n) c (w ∷ ts) (p.used + k) 1 p.after j later) steps goes;
      })

  -- the mark may go on past the transition of its number
  pub next_to : (s : S) (n : ℕ) (c : Configuration) (ts : List Transition) (k i : ℕ) (e : Configuration) (j : ℕ) (u : S)
      → Marked m choose d t s n c ts k i e j u → (v : Transition) → slice_get ts i ≡ Some v
      → IsNextTo s n c ts k i e j v
  next_to _ _ _ _ _ _ _ _ _ (here s n c ts k g) v h = first s n c ts k d t g refl refl v h
  next_to _ _ _ _ _ _ _ _ _ (further s n c x p ts k i e j u chosen pass rest) v h =
      let b = next_to (next_state choose s c) (suc n - p.used) p.after ts k i e j u rest v h in
      let before = b.left in
      let left : suc n - p.used - j ≡ suc n - (p.used + j) = omega arith in
      let steps : p.used + (j + b.passed.used) ≡ (p.used + j) + b.passed.used = omega arith in
      let w = transition (next_choice choose s c) (enabled c) x p in
      let goes = further s n c x p ts k (suc i) b.passed.after (j + b.passed.used) b.later chosen pass b.next in
      record {
        passed = b.passed;
        later = b.later;
        left = omega arith;
        chosen = b.chosen;
        passes = subst (λ l. Passes m l e v.actor b.passed) left b.passes;
        label = b.label;
        next = subst (λ l. Marked m choose d t s (suc n) c (w ∷ ts) (p.used + k) (suc (suc i)) b.passed.after l b.later)
            steps goes;
      }

  -- ---- the last mark

  ends_here : (s : S) (n : ℕ) (c : Configuration) (ts : List Transition) (e : Configuration) (k : ℕ) (u : S)
      → Goes m choose s n c ts e k u
      → length ts ≡ zero → c ≡ e
  ends_here _ _ _ _ _ _ _ (stays s n c) h = refl
  ends_here _ _ _ _ _ _ _ (more s n c x p ts e k u chosen pass rest) h = absurd (omega arith)

  -- after all transitions the run is where it leads
  pub at_end : (s : S) (n : ℕ) (c : Configuration) (ts : List Transition) (k i : ℕ) (e : Configuration) (j : ℕ) (u : S)
      → Marked m choose d t s n c ts k i e j u → i ≡ length ts → e ≡ d
  at_end _ _ _ _ _ _ _ _ _ (here s n c ts k g) h = ends_here s n c ts d k t g (sym h)
  at_end _ _ _ _ _ _ _ _ _ (further s n c x p ts k i e j u chosen pass rest) h =
      at_end (next_state choose s c) (suc n - p.used) p.after ts k i e j u rest (omega arith)

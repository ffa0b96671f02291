-- In each run a process lives that no event ended.
use Rattle.std.proofs.Common.{◌≡◌, ◌-◌, ◌<◌, ℕ, zero, suc, true, List, [], ◌∷◌, length, map, Some, refl, sym, subst}
use Rattle.std.proofs.Common.{arith}
use Rattle.std.specs.Prelude.{slice_get}
use Rattle.std.proofs.lemmas.Option.{same_Some}
use Rattle.pf_model.specs.Choosers.{Chooser}
use Rattle.pf_model.specs.Configuration.{Configuration, Process, is_alive, of, process_at}
use Rattle.pf_model.specs.Module.{Module}
use Rattle.pf_model.specs.Runs.{Goes, stays, more, next_state, Transition, start}
use Rattle.pf_process_status.specs.Fates.{who_ends}
use Rattle.pf_process_status.proofs.Lives.{Spared, lives, lives_in, pass_lives, spared_after}

-- ---- who lives

-- no transition ends this process
abbrev pub NoneEnds : ℕ → List Transition → Type 0
NoneEnds q ts = (i : ℕ) (t : Transition) → slice_get ts i ≡ Some t → who_ends t.actor t.label ≡ Some q → ⊥

goes_spared : {S : Type 0} (m : Module) (q : ℕ) (choose : Chooser S) (s : S) (n : ℕ) (c : Configuration)
    (ts : List Transition) (d : Configuration) (k : ℕ) (t : S)
    → Goes m choose s n c ts d k t → NoneEnds q ts → Spared q (lives_in c.core) → Spared q (lives_in d.core)
goes_spared m q choose _ _ _ _ _ _ _ (stays s n c) none h = h
goes_spared m q choose _ _ _ _ _ _ _ (more s n c x p ts d k t e pass rest) none h =
    goes_spared m q choose (next_state choose s c) (suc n - p.used) p.after ts d k t rest (λ i u. none (suc i) u)
    (subst (Spared q) (sym (pass_lives m (suc n) c x p pass))
    (spared_after q x p.label (lives_in c.core) (none zero _ refl) h))

lives_at : (ps : List Process) (q : ℕ) → q < length ps → Spared q (map lives ps) → lives (process_at q ps) ≡ true
lives_at [] q l h = absurd (omega arith)
lives_at (p ∷ ps) zero l h = h (lives p) refl
lives_at (p ∷ ps) (suc q) l h = lives_at ps q (omega arith) h

root_spared : (q : ℕ) → Spared q (true ∷ [])
root_spared zero b e = sym (same_Some true b e)
root_spared (suc q) b e = absurd (cc)

-- a process that no transition ends lives
pub lives_on : {S : Type 0} (m : Module) (choose : Chooser S) (s : S) (n root edition : ℕ) (ts : List Transition)
    (d : Configuration) (k : ℕ) (t : S)
    → Goes m choose s n (start root edition) ts d k t → (q : ℕ) → NoneEnds q ts → q < length d.core.processes
    → is_alive (of d.core q).state ≡ true
lives_on m choose s n root edition ts d k t g q none l =
    lives_at d.core.processes q l (goes_spared m q choose s n (start root edition) ts d k t g none (root_spared q))

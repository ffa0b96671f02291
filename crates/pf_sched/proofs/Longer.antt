-- A run that goes on by one transition more.
use Rattle.std.proofs.Common.{◌≡◌, ℕ, zero, suc, ◌+◌, ◌-◌, List, [], ◌∷◌, ◌++◌, Some, subst, arith}
use Rattle.std.specs.Prelude.{slice_get}
use Rattle.pf_model.specs.Choosers.{Chooser}
use Rattle.pf_model.specs.Module.{Module}
use Rattle.pf_model.specs.Configuration.{Configuration}
use Rattle.pf_model.specs.Runs.{Passed, Passes, Transition, transition, next_choice, next_state, Goes, stays, more}
use Rattle.pf_model.specs.Runs.{enabled}
use Rattle.pf_model.specs.declared.report.Actor.{Actor}

-- one transition more, of the actor that is chosen where the run is
pub goes_on : {S : Type 0} (m : Module) (choose : Chooser S) (s : S) (n : ℕ) (c : Configuration) (ts : List Transition)
    (d : Configuration) (k : ℕ) (t : S)
    → Goes m choose s n c ts d k t
    → (l : ℕ) (x : Actor) (p : Passed) → slice_get (enabled d) (next_choice choose t d) ≡ Some x → n ≡ suc l + k
    → Passes m (suc l) d x p
    → Goes m choose s n c (ts ++ transition (next_choice choose t d) (enabled d) x p ∷ []) p.after (k + p.used)
    (next_state choose t d)
goes_on m choose s n c _ _ _ _ (stays _ _ _) l x p e h pass =
    let after = next_state choose s c in
    let steps : p.used + zero ≡ zero + p.used = omega arith in
    let left : suc l ≡ n = omega arith in
    let one = more s l c x p [] p.after zero after e pass (stays after (suc l - p.used) p.after) in
    let u = transition (next_choice choose s c) (enabled c) x p in
    subst (λ z. Goes m choose s z c (u ∷ []) p.after (zero + p.used) after) left
    (subst (λ z. Goes m choose s (suc l) c (u ∷ []) p.after z after) steps one)
goes_on m choose s _ c _ d _ t (more _ n _ y q ts _ k _ e0 pass0 rest) l x p e h pass =
    let left : suc n - q.used ≡ suc l + k = omega arith in
    let inner = goes_on m choose (next_state choose s c) (suc n - q.used) q.after ts d k t rest l x p e left pass in
    let u = transition (next_choice choose t d) (enabled d) x p in
    let all = more s n c y q (ts ++ u ∷ []) p.after (k + p.used) (next_state choose t d) e0 pass0 inner in
    let steps : q.used + (k + p.used) ≡ (q.used + k) + p.used = omega arith in
    subst (λ z. Goes m choose s (suc n) c (transition (next_choice choose s c) (enabled c) y q ∷ (ts ++ u ∷ [])) p.after
    z (next_state choose t d)) steps all

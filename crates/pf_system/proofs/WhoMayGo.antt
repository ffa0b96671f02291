-- Who may go: what a caller knows of those that are noted.
use Rattle.std.proofs.Common.{◌≡◌, zero, suc, ℕ, ◌+◌, ◌<◌, List, [], ◌∷◌, ◌++◌, length, map, Some, sym, ap}
use Rattle.std.proofs.Common.{◌∙◌, arith}
use Rattle.std.specs.Prelude.{slice_get}
use Rattle.std.proofs.lemmas.List.{length-append, length-map}
use Rattle.std.proofs.lemmas.Option.{same_Some}
use Rattle.pf_model.specs.Module.{module_of}
use Rattle.pf_model.specs.Channels.{heads}
use Rattle.pf_model.specs.Configuration.{Configuration}
use Rattle.pf_model.specs.Labels.{Label}
use Rattle.pf_model.specs.Runs.{enabled, ready, Passed, Passes, delivery}
use Rattle.pf_model.specs.declared.report.Actor.{Actor}
use Rattle.pf_model.specs.declared.report.Actor.TheVariants.{Process, Channel}
use Rattle.pf_system.specs.Steps.{IsAmong, MayGo, Represents, SimulatesFrom, SimulatesTransition, actors_in}
use Rattle.pf_system.specs.Steps.{noted_actors}
use Rattle.pf_system.specs.View.{SystemView}
use Rattle.pf_system.specs.declared.enabled.Enabled.{Enabled}

-- they are those of each configuration that a system represents
pub actors_of : (s : SystemView) (c : Configuration) → Represents s c → actors_in s ≡ enabled c
actors_of s c r =
    ap (λ ps. map Process ps ++ map (λ h. Channel h.0 h.1) (heads s.processes.channels)) r.core.ready
    ∙ ap (λ cs. map Process (ready c) ++ map (λ h. Channel h.0 h.1) (heads cs)) r.channels

-- what is at an index is among them
among : (xs : List Actor) (k : ℕ) (x : Actor) → slice_get xs k ≡ Some x → IsAmong x xs
among [] k x e = absurd (cc)
among (y ∷ xs) zero x e = ([], xs, ap (λ z. z ∷ xs) (same_Some y x e))
among (y ∷ xs) (suc k) x e = let r = among xs k x e in (y ∷ r.0, r.1, ap (λ z. y ∷ z) r.2)

-- a delivery is one step, however many are left
pub delivers_within : (left a b : ℕ) (s s' : SystemView) (l : Label) → 0 < left
    → SimulatesTransition 1 s (Channel a b) l 1 s' → SimulatesTransition left s (Channel a b) l 1 s'
delivers_within left a b s s' l h p =
    record { before = p.before; was = p.was; from_each = λ c r. wider c (p.from_each c r) }
  where
    further : (c : Configuration) (q : Passed) → Passes (module_of s.checked) 1 c (Channel a b) q
        → Passes (module_of s.checked) left c (Channel a b) q
    further c _ (delivery _ _ x cs e) = delivery a b x cs e

    wider : (c : Configuration) → SimulatesFrom c 1 s (Channel a b) l 1 s' → SimulatesFrom c left s (Channel a b) l 1 s'
    wider c f =
        record {
          passed = f.passed;
          passes = further c f.passed f.passes;
          is_there = f.is_there;
          checked = f.checked;
          steps = f.steps;
          label = f.label;
          counts = f.counts;
          within = omega arith;
        }

-- what is among those that are noted may go
pub may_go : (s : SystemView) (xs : List Actor) → ((c : Configuration) → Represents s c → xs ≡ enabled c)
    → (k : ℕ) (x : Actor) → slice_get xs k ≡ Some x → MayGo x s
may_go s xs h k x e c r = among (enabled c) k x (ap (λ l. slice_get l k) (sym (h c r)) ∙ e)

-- how many are noted
pub noted_count : (e : Enabled) → length (noted_actors e) ≡ length e.ready.now + length (heads e.channels.now)
noted_count e =
    let a = length-map e.ready.now Process in
    let b = length-map (heads e.channels.now) (λ h. Channel h.0 h.1) in
    let all = length-append (map Process e.ready.now) (map (λ h. Channel h.0 h.1) (heads e.channels.now)) in
    omega arith

-- Each enabled actor can pass.
use Rattle.std.proofs.Common.{◌≡◌, ℕ, zero, suc, ◌+◌, Bool, true, false, List, [], ◌∷◌, Some, ◌==◌, if◌then◌else◌, refl}
use Rattle.std.proofs.Common.{subst, arith, map, add-zero}
use Rattle.std.specs.Prelude.{All, slice_get}
use Rattle.std.proofs.Math.Nat.{zero-add}
use Rattle.std.proofs.lemmas.Bool.{eq-eqb}
use Rattle.std.proofs.lemmas.List.Elements.{All-nil, All-cons, All-append, All-map, All-get_or}
use Rattle.std.proofs.lemmas.Option.{slice_get_within, get_or_from_slice_get}
use Rattle.pf_sorted.specs.Maps.{got}
use Rattle.pf_model.specs.Context.{ProcessState}
use Rattle.pf_model.specs.Channels.{Queue, SenderRow, Channels, row_of, heads_of, heads_from, heads}
use Rattle.pf_model.specs.Configuration.{Process, Configuration, process_at}
use Rattle.pf_model.specs.Runs.{can_go, pids_in_state, enabled}
use Rattle.pf_model.specs.declared.report.Actor.{Actor}
use Rattle.pf_model.specs.declared.report.Actor.TheVariants as actors
use Rattle.pf_model.proofs.Turned.{CanPass}

-- what holds of each process in such a state holds of their numbers
numbers_all : (P : ℕ → Type 0) (so : ProcessState → Bool) (n : ℕ) (ps : List Process)
    → ((j : ℕ) → so (process_at j ps).state ≡ true → P (n + j))
    → All P (pids_in_state so n ps)
numbers_all P so n [] h = All-nil P
numbers_all P so n (p ∷ ps) h =
    by (so p.state) refl (numbers_all P so (suc n) ps (λ j e. let q : n + suc j ≡ suc n + j = omega arith in
    subst P q (h (suc j) e)))
  where
    by : (e : Bool) → so p.state ≡ e → All P (pids_in_state so (suc n) ps)
        → All P (if e then n ∷ pids_in_state so (suc n) ps else pids_in_state so (suc n) ps)
    by true e rest = All-cons P n (pids_in_state so (suc n) ps) (subst P (add-zero n) (h zero e)) rest
    by false e rest = rest

-- what holds of each channel with a queue holds of the heads
row_all : (a : ℕ) (P : ℕ × ℕ → Type 0) (r : SenderRow) → ((b : ℕ) (q : Queue) → got b r ≡ Some q → P (a, b))
    → All P (heads_of a r)
row_all a P [] h = All-nil P
row_all a P (p ∷ ps) h =
    All-cons P (a, p.0) (heads_of a ps) (h p.0 p.1 (rw (eq-eqb p.0 p.0 refl) refl))
    (row_all a P ps (λ b q e. after b q e (b == p.0) refl))
  where
    after : (b : ℕ) (q : Queue) → got b ps ≡ Some q → (e : Bool) → (b == p.0) ≡ e → P (a, b)
    after b q g true e = h b p.1 (rw e refl)
    after b q g false e = h b q (rw e g)

heads_all : (P : ℕ × ℕ → Type 0) (n : ℕ) (cs : Channels)
    → ((a b : ℕ) (q : Queue) → got b (row_of a cs) ≡ Some q → P (n + a, b))
    → All P (heads_from n cs)
heads_all P n [] h = All-nil P
heads_all P n (r ∷ rs) h =
    All-append P (heads_of n r) (heads_from (suc n) rs)
    (row_all n P r (λ b q e. subst (λ x. P (x, b)) (add-zero n) (h zero b q e)))
    (heads_all P (suc n) rs (λ a b q e. let d : n + suc a ≡ suc n + a = omega arith in
    subst (λ x. P (x, b)) d (h (suc a) b q e)))

all_can_pass : (c : Configuration) → All (CanPass c) (enabled c)
all_can_pass c =
    All-append (CanPass c) (map actors.Process (pids_in_state can_go zero c.core.processes))
    (map (λ h. actors.Channel h.0 h.1) (heads c.channels))
    (All-map (CanPass c) actors.Process (pids_in_state can_go zero c.core.processes)
    (numbers_all (λ a. CanPass c (actors.Process a)) can_go zero c.core.processes (λ j e. rw (zero-add j) e)))
    (All-map (CanPass c) (λ h. actors.Channel h.0 h.1) (heads c.channels)
    (heads_all (λ h. CanPass c (actors.Channel h.0 h.1)) zero c.channels (λ a b q e. (q, rw (zero-add a) e))))

pub enabled_can_pass : (c : Configuration) (i : ℕ) (x : Actor) → slice_get (enabled c) i ≡ Some x → CanPass c x
enabled_can_pass c i x e =
    subst (CanPass c) (get_or_from_slice_get (enabled c) i x x e)
    (All-get_or (CanPass c) (enabled c) i x (slice_get_within (enabled c) i x e) (all_can_pass c))

-- The processes that can go, as their bodies change.
use Rattle.std.proofs.Common.{◌≡◌, ℕ, zero, suc, ◌+◌, ◌<◌, ◌≤◌, ◌==◌, Bool, true, false, List, [], ◌∷◌, ◌++◌}
use Rattle.std.proofs.Common.{if◌then◌else◌, refl, sym, ap, ◌∙◌, arith, nat_lt, length, map, slice_set}
use Rattle.pf_model.specs.Context.{ProcessState}
use Rattle.pf_sorted.specs.Maps.{with_number, without_number}
use Rattle.pf_model.specs.Configuration.{Process, Core, process_at}
use Rattle.pf_model.specs.Runs.{pids_in_state}
use Rattle.pf_system.specs.Bodies.{Body, process_body, bodies_of}
use Rattle.pf_sorted.proofs.Indices.{eq_of, ne_of, below_not, lower}
use Rattle.pf_sorted.proofs.Sets.{Rises, with_front, without_above}

abbrev pub numbers_in : (ProcessState → Bool) → ℕ → List Body → List ℕ
numbers_in so n [] = []
numbers_in so n (b ∷ bs) = if so b.state then n ∷ numbers_in so (suc n) bs else numbers_in so (suc n) bs

pub by_bodies : (so : ProcessState → Bool) (n : ℕ) (ps : List Process)
    → pids_in_state so n ps ≡ numbers_in so n (map process_body ps)
by_bodies so n [] = refl
by_bodies so n (p ∷ ps) = by (by_bodies so (suc n) ps) (so p.state)
  where
    by : pids_in_state so (suc n) ps ≡ numbers_in so (suc n) (map process_body ps) → (t : Bool)
        → (if t then n ∷ pids_in_state so (suc n) ps else pids_in_state so (suc n) ps)
        ≡ (if t then n ∷ numbers_in so (suc n) (map process_body ps) else numbers_in so (suc n) (map process_body ps))
    by h true = ap (λ z. n ∷ z) h
    by h false = h

-- no more numbers than processes
pub numbers_few : (so : ProcessState → Bool) (n : ℕ) (ps : List Process) → length (pids_in_state so n ps) ≤ length ps
numbers_few so n [] = omega arith
numbers_few so n (p ∷ ps) = by (so p.state) (numbers_few so (suc n) ps)
  where
    by : (t : Bool) → length (pids_in_state so (suc n) ps) ≤ length ps
        → length (if t then n ∷ pids_in_state so (suc n) ps else pids_in_state so (suc n) ps) ≤ suc (length ps)
    by true h = omega arith
    by false h = omega arith

-- the same bodies, the same numbers
pub numbers_alike : (so : ProcessState → Bool) (n : ℕ) (c d : Core) → bodies_of c ≡ bodies_of d
    → pids_in_state so n c.processes ≡ pids_in_state so n d.processes
numbers_alike so n c d e = by_bodies so n c.processes ∙ ap (numbers_in so n) e ∙ sym (by_bodies so n d.processes)

-- ---- numbers that rise

module _ (so : ProcessState → Bool) where
  rise : (n : ℕ) (bs : List Body) → Rises n (numbers_in so n bs)
  rise n [] = tt
  rise n (b ∷ bs) = by (so b.state) (rise (suc n) bs)
    where
      by : (e : Bool) → Rises (suc n) (numbers_in so (suc n) bs)
          → Rises n (if e then n ∷ numbers_in so (suc n) bs else numbers_in so (suc n) bs)
      by true h = (omega arith, h)
      by false h = lower (λ x. x) (suc n) n (numbers_in so (suc n) bs) (omega arith) h

  -- a body that can no longer go
  pub gone_in : (n : ℕ) (bs : List Body) (a : ℕ) (b : Body) → a < length bs → so b.state ≡ false
      → numbers_in so n (slice_set bs a b) ≡ without_number (n + a) (numbers_in so n bs)
  gone_in n [] a b l e = absurd (omega arith)
  gone_in n (x ∷ bs) zero b l e =
      ap (λ t. if t then n ∷ numbers_in so (suc n) bs else numbers_in so (suc n) bs) e ∙ by (so x.state)
    where
      zero_more : n + zero ≡ n
      zero_more = omega arith

      h : without_number n (numbers_in so (suc n) bs) ≡ numbers_in so (suc n) bs
      h = without_above n (suc n) (numbers_in so (suc n) bs) (omega arith) (rise (suc n) bs)

      same_key : (n == n) ≡ true
      same_key = eq_of n n refl

      drops : without_number n (n ∷ numbers_in so (suc n) bs) ≡ without_number n (numbers_in so (suc n) bs)
      drops = ap (λ t. if t then without_number n (numbers_in so (suc n) bs)
          else n ∷ without_number n (numbers_in so (suc n) bs)) same_key

      by : (t : Bool) → numbers_in so (suc n) bs ≡ without_number (n + zero) (if t then n ∷ numbers_in so (suc n) bs
          else numbers_in so (suc n) bs)
      by true = sym (ap (λ k. without_number k (n ∷ numbers_in so (suc n) bs)) zero_more ∙ drops ∙ h)
      by false = sym (ap (λ k. without_number k (numbers_in so (suc n) bs)) zero_more ∙ h)
  gone_in n (x ∷ bs) (suc a) b l e =
      ap (λ r. if so x.state then n ∷ r else r) (gone_in (suc n) bs a b (omega arith) e) ∙ by (so x.state)
    where
      same : suc n + a ≡ n + suc a
      same = omega arith

      by : (t : Bool) → (if t then n ∷ without_number (suc n + a) (numbers_in so (suc n) bs)
          else without_number (suc n + a) (numbers_in so (suc n) bs))
          ≡ without_number (n + suc a) (if t then n ∷ numbers_in so (suc n) bs else numbers_in so (suc n) bs)
      by true = let d = ne_of n (n + suc a) (λ z. omega arith) in
          rw d (ap (λ k. n ∷ without_number k (numbers_in so (suc n) bs)) same)
      by false = ap (λ k. without_number k (numbers_in so (suc n) bs)) same

  -- a body that can go from now on, or still
  pub woken_in : (n : ℕ) (bs : List Body) (a : ℕ) (b : Body) → a < length bs → so b.state ≡ true
      → numbers_in so n (slice_set bs a b) ≡ with_number (n + a) (numbers_in so n bs)
  woken_in n [] a b l e = absurd (omega arith)
  woken_in n (x ∷ bs) zero b l e =
      ap (λ t. if t then n ∷ numbers_in so (suc n) bs else numbers_in so (suc n) bs) e ∙ by (so x.state)
    where
      zero_more : n + zero ≡ n
      zero_more = omega arith

      h : with_number n (numbers_in so (suc n) bs) ≡ n ∷ numbers_in so (suc n) bs
      h = with_front n (suc n) (numbers_in so (suc n) bs) (omega arith) (rise (suc n) bs)

      same_key : (n == n) ≡ true
      same_key = eq_of n n refl

      keeps : with_number n (n ∷ numbers_in so (suc n) bs) ≡ n ∷ numbers_in so (suc n) bs
      keeps = ap (λ t. if t then n ∷ numbers_in so (suc n) bs
          else (if nat_lt n n then n ∷ n ∷ numbers_in so (suc n) bs else n ∷ with_number n (numbers_in so (suc n) bs)))
          same_key

      by : (t : Bool) → n ∷ numbers_in so (suc n) bs ≡ with_number (n + zero) (if t then n ∷ numbers_in so (suc n) bs
          else numbers_in so (suc n) bs)
      by true = sym (ap (λ k. with_number k (n ∷ numbers_in so (suc n) bs)) zero_more ∙ keeps)
      by false = sym (ap (λ k. with_number k (numbers_in so (suc n) bs)) zero_more ∙ h)
  woken_in n (x ∷ bs) (suc a) b l e =
      ap (λ r. if so x.state then n ∷ r else r) (woken_in (suc n) bs a b (omega arith) e) ∙ by (so x.state)
    where
      same : suc n + a ≡ n + suc a
      same = omega arith

      by : (t : Bool) → (if t then n ∷ with_number (suc n + a) (numbers_in so (suc n) bs)
          else with_number (suc n + a) (numbers_in so (suc n) bs))
          ≡ with_number (n + suc a) (if t then n ∷ numbers_in so (suc n) bs else numbers_in so (suc n) bs)
      by true =
          let d = ne_of n (n + suc a) (λ z. omega arith) in let b = below_not n (n + suc a) (omega arith) in
          rw (d, b) (ap (λ k. n ∷ with_number k (numbers_in so (suc n) bs)) same)
      by false = ap (λ k. with_number k (numbers_in so (suc n) bs)) same

  -- a body more that can go
  pub more_in : (n : ℕ) (bs : List Body) (b : Body) → so b.state ≡ true
      → numbers_in so n (bs ++ b ∷ []) ≡ with_number (n + length bs) (numbers_in so n bs)
  more_in n [] b e =
      let z : n ≡ n + zero = omega arith in ap (λ t. if t then n ∷ [] else []) e ∙ ap (λ k. k ∷ []) z
  more_in n (x ∷ bs) b e = ap (λ r. if so x.state then n ∷ r else r) (more_in (suc n) bs b e) ∙ by (so x.state)
    where
      k : ℕ
      k = length bs

      same : suc n + k ≡ n + suc k
      same = omega arith

      by : (t : Bool) → (if t then n ∷ with_number (suc n + k) (numbers_in so (suc n) bs)
          else with_number (suc n + k) (numbers_in so (suc n) bs))
          ≡ with_number (n + suc k) (if t then n ∷ numbers_in so (suc n) bs else numbers_in so (suc n) bs)
      by true =
          let d = ne_of n (n + suc k) (λ z. omega arith) in let b = below_not n (n + suc k) (omega arith) in
          rw (d, b) (ap (λ j. n ∷ with_number j (numbers_in so (suc n) bs)) same)
      by false = ap (λ j. with_number j (numbers_in so (suc n) bs)) same

-- a process that can go where it could, or can't where it couldn't
pub numbers_kept : (so : ProcessState → Bool) (n : ℕ) (ps : List Process) (a : ℕ) (q : Process)
    → so q.state ≡ so (process_at a ps).state
    → pids_in_state so n (slice_set ps a q) ≡ pids_in_state so n ps
numbers_kept so n [] a q e = refl
numbers_kept so n (p ∷ ps) zero q e = ap (λ t. if t then n ∷ pids_in_state so (suc n) ps
    else pids_in_state so (suc n) ps) e
numbers_kept so n (p ∷ ps) (suc a) q e = ap (λ r. if so p.state then n ∷ r else r) (numbers_kept so (suc n) ps a q e)

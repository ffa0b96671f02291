-- Whether a process is among those that can go.
use Rattle.std.proofs.Common.{◌≡◌, ◌+◌, ◌<◌, ◌==◌, ◌||◌, ℕ, zero, suc, Bool, true, false, if◌then◌else◌, List, [], ◌∷◌}
use Rattle.std.proofs.Common.{refl, sym, ap, ◌∙◌, arith}
use Rattle.std.specs.List.{list_any}
use Rattle.std.specs.Prelude.{MatchOption, Option, Some, None, unwrap_or}
use Rattle.pf_stepper.specs.declared.point.Point.{Point}
use Rattle.pf_stepper.specs.declared.point.Point.TheVariants as p
use Rattle.std.proofs.lemmas.Bool.{eq-eqb}
use Rattle.std.proofs.lemmas.Bool.Decides.{nat_tests}
use Rattle.pf_model.specs.Configuration.{Process, is_alive, process_at}
use Rattle.pf_model.specs.Context.{ProcessState, running, waiting, ending, ended}
use Rattle.pf_model.specs.Runs.{can_go, is_waiting, pids_in_state}

abbrev pub is_in : ℕ → List ℕ → Bool
is_in q ns = list_any (λ y. y == q) ns

other : (n q : ℕ) → (n ≡ q → ⊥) → (n == q) ≡ false
other n q h = grind (arith, nat_tests)

first_or_not : (n q : ℕ) (t : Bool) (ns : List ℕ) → (n == q) ≡ false → is_in q (if t then n ∷ ns else ns) ≡ is_in q ns
first_or_not n q true ns h = ap (λ b. b || is_in q ns) h
first_or_not n q false ns h = refl

below : (q m : ℕ) (ps : List Process) → q < m → is_in q (pids_in_state can_go m ps) ≡ false
below q m [] l = refl
below q m (p ∷ ps) l =
    first_or_not m q (can_go p.state) (pids_in_state can_go (suc m) ps) (other m q (λ e. omega arith))
    ∙ below q (suc m) ps (omega arith)

first_goes : (n : ℕ) (t : Bool) (ns : List ℕ) → is_in n ns ≡ false → is_in n (if t then n ∷ ns else ns) ≡ t
first_goes n true ns h = ap (λ b. b || is_in n ns) (eq-eqb n n refl)
first_goes n false ns h = h

is_in_numbers : (n i : ℕ) (ps : List Process)
    → is_in (n + i) (pids_in_state can_go n ps) ≡ can_go (process_at i ps).state
is_in_numbers n i [] = refl
is_in_numbers n zero (p ∷ ps) =
    let e : n + zero ≡ n = omega arith in
    ap (λ q. is_in q (pids_in_state can_go n (p ∷ ps))) e
    ∙ first_goes n (can_go p.state) (pids_in_state can_go (suc n) ps) (below n (suc n) ps (omega arith))
is_in_numbers n (suc i) (p ∷ ps) =
    let e : n + suc i ≡ suc n + i = omega arith in
    first_or_not n (n + suc i) (can_go p.state) (pids_in_state can_go (suc n) ps)
    (other n (n + suc i) (λ k. omega arith))
    ∙ ap (λ q. is_in q (pids_in_state can_go (suc n) ps)) e ∙ is_in_numbers (suc n) i ps

-- a process is among those that can go if it can
pub is_in_ready : (q : ℕ) (ps : List Process) → is_in q (pids_in_state can_go zero ps) ≡ can_go (process_at q ps).state
is_in_ready q ps = let e : zero + q ≡ q = omega arith in ap (λ z. is_in z (pids_in_state can_go zero ps)) (sym e)
    ∙ is_in_numbers zero q ps

-- a process that lives and can't go waits
pub or_waits : (s : ProcessState) → is_alive s ≡ true → can_go s ≡ false → is_waiting s ≡ true
or_waits (running t) h e = absurd (cc)
or_waits (waiting t) h e = refl
or_waits (ending r) h e = absurd (cc)
or_waits (ended x) h e = absurd (cc)

-- where a process that lives is
pub is_there_still : (P : Point → Type 0) (s : ProcessState) (o : Option Point) → is_alive s ≡ true
    → MatchOption o (is_alive s ≡ false) P → P (unwrap_or o p.Nowhere)
is_there_still P s None h e = let never : true ≡ false = sym h ∙ e in absurd (cc)
is_there_still P s (Some x) h e = e

-- A process that makes one more step goes on by itself until then.
use Rattle.std.proofs.Common.{◌≡◌, ℕ, suc, List, refl, subst, arith}
use Rattle.pf_syntax.specs.Tree.{lit, receive}
use Rattle.pf_heap.specs.Heap.{Cell, word_value}
use Rattle.pf_model.specs.Module.{Module}
use Rattle.pf_model.specs.Context.{Move, ProcessState, running, ending, goes_on, asks, awaits, returns}
use Rattle.pf_code.specs.Points.{plug, Contracts, Steps, no_step, one_more}
use Rattle.pf_code.specs.Sound.{Code}
use Rattle.pf_code.specs.Machine.{State}
use Rattle.pf_code.specs.Simulation.{IsAt, IsSoundFor}
use Rattle.pf_code.proofs.Many.{runs_are_steps}
use Rattle.pf_loop.specs.Run.{Ran}
use Rattle.pf_loop.specs.declared.flow.Halt.{Halt}
use Rattle.pf_loop.specs.declared.flow.Halt.TheVariants as halt
use Rattle.pf_loop.specs.declared.machine.Machine.{Machine}
use Rattle.pf_loop.proofs.Reached.{all_reach, cuts}
use Rattle.pf_turns.specs.Turns.{Charges, Did, Represents}
use Rattle.pf_turns.specs.declared.status.Status.{Status}
use Rattle.pf_turns.specs.declared.status.Status.TheVariants as status

went_on : (m : Module) (own : ℕ) (p q : Move) → Contracts m own p q → (u : ProcessState) × (p ≡ goes_on u)
went_on m own (goes_on u) q c = (u, refl)
went_on m own (asks fs a) q c = absurd c
went_on m own (awaits fs ks) q c = absurd c
went_on m own (returns v) q c = absurd c

pub before_last : (m : Module) (own n : ℕ) (p r : Move) → Steps m own (suc n) p r
    → (u : ProcessState) × Steps m own n p (goes_on u)
before_last m own n p r (one_more k x q y s c) =
    let u = went_on m own q y c in (u.0, subst (λ z. Steps m own n x z) u.1 s)

pub not_moved : (m : Module) (own n : ℕ) (p q : Move) → n ≡ 0 → Steps m own n p q → p ≡ q
not_moved m own n p q e (no_step x) = refl
not_moved m own n p q e (one_more k x y z s c) = absurd (omega (arith, e))

-- a process whose next step is no instruction goes on by itself
pub charging : (m : Module) (own : ℕ) (code : Code) (p : Move) (h : List Cell) (k : Machine) (x : Status) → Charges x
    → Represents m own code h k x p → (u : ProcessState) × (p ≡ goes_on u)
charging m own code p h k status.Begins c a =
    let u = before_last m own 0 p a.2.0 a.2.1 in (u.0, not_moved m own 0 p (goes_on u.0) refl u.1)
charging m own code p h k (status.Receives d) c a = (running (plug a.1 (receive a.2)), a.5)
charging m own code p h k (status.Returns w) c a = (running (lit (word_value h w)), a)
charging m own code p h k (status.Ends w) c a = (ending (word_value h w), a)
charging m own code p h k status.Goes c a = absurd c
charging m own code p h k (status.Asks d) c a = absurd c
charging m own code p h k status.Cut c a = absurd c

-- what a machine reports of a run over sound code
pub did : (m : Module) (own : ℕ) (code : Code) (entries : List ℕ) (s : State) (p : Move) (n : ℕ) (h : List Cell)
    (k : Machine) (left : ℕ) (x : Halt) → IsSoundFor m code entries → IsAt m own code s p
    → Ran m own code entries s n h k left x → Did m own code entries p n h k left x
did m own code entries s p n h k left halt.Spent every at r =
    let c = runs_are_steps m own code entries s r.0 p n every at r.1 in
    let d = cuts m own code r.0 c.0 r.3 (suc left) c.2 r.4 (omega (arith, r.5)) in
    (r.0, c.0, d.0, r.2, c.1, c.2, d.1)
did m own code entries s p n h k left halt.Nowhere every at r =
    all_reach m own code entries s p n h k left halt.Nowhere every at r
did m own code entries s p n h k left halt.Paused every at r =
    all_reach m own code entries s p n h k left halt.Paused every at r
did m own code entries s p n h k left (halt.Asks f d from c) every at r =
    all_reach m own code entries s p n h k left (halt.Asks f d from c) every at r
did m own code entries s p n h k left (halt.Sends d a b) every at r =
    all_reach m own code entries s p n h k left (halt.Sends d a b) every at r
did m own code entries s p n h k left (halt.Awaits d) every at r =
    all_reach m own code entries s p n h k left (halt.Awaits d) every at r
did m own code entries s p n h k left halt.Takes every at r =
    all_reach m own code entries s p n h k left halt.Takes every at r
did m own code entries s p n h k left (halt.Passes d) every at r =
    all_reach m own code entries s p n h k left (halt.Passes d) every at r
did m own code entries s p n h k left (halt.Raises w) every at r =
    all_reach m own code entries s p n h k left (halt.Raises w) every at r
did m own code entries s p n h k left (halt.Returns w) every at r =
    all_reach m own code entries s p n h k left (halt.Returns w) every at r

-- What comes of a halt, and of a step that is no instruction.
use Rattle.std.proofs.Common.{◌≡◌, ◌+◌, ℕ, zero, suc, [], refl, sym, ap, ◌∙◌, subst, arith, List}
use Rattle.pf_heap.specs.Heap.{Cell, word_value}
use Rattle.pf_heap.specs.declared.word.Word.{Word}
use Rattle.pf_syntax.specs.Tree.{lit, receive}
use Rattle.pf_model.specs.Module.{Module}
use Rattle.pf_model.specs.Contraction.{Becomes, Raises, Asks, called, send}
use Rattle.pf_ops.specs.Reasons.{ending_reason}
use Rattle.pf_syntax.specs.declared.operator.Builtin.{Builtin}
use Rattle.pf_code.specs.Registers.{row}
use Rattle.pf_actions.specs.Acts.{act_over}
use Rattle.pf_model.specs.Context.{Frame, Move, Moves, at_value, goes_on, ending, returns}
use Rattle.pf_code.specs.Points.{inside, Contracts, Steps, no_step, one_more}
use Rattle.pf_code.specs.Sound.{Code}
use Rattle.pf_code.specs.Machine.{State}
use Rattle.pf_code.specs.Simulation.{IsAt, Reaches}
use Rattle.pf_code.proofs.Charges.{steps_then}
use Rattle.pf_loop.specs.Run.{IsIn}
use Rattle.pf_loop.specs.Reached.{Does}
use Rattle.pf_loop.specs.declared.flow.Halt.TheVariants as halt
use Rattle.pf_loop.specs.declared.machine.Machine.{Machine}
use Rattle.pf_turns.specs.Turns.{Charges, Did, IsAsking, Went, Stopped, Represents}
use Rattle.pf_turns.specs.declared.status.Status.{Status}
use Rattle.pf_turns.specs.declared.status.Status.TheVariants as status
use Rattle.pf_turns.specs.declared.status.Stop.{Stop}
use Rattle.pf_turns.specs.declared.status.Stop.TheVariants as stop
use Rattle.pf_turns.proofs.Going.{before_last, charging, not_moved}

module _ (m : Module) (own : ℕ) (code : Code) (entries : List ℕ) (p : Move) (n : ℕ) (h : List Cell) (k : Machine)
    (left : ℕ) where
  abbrev Done : ℕ → Type 0
  Done j = j ≡ n

  pub sends : (d j rest : ℕ) (a b : Word) → n ≡ j → Does m own code entries p n h k left (halt.Sends d a b)
      → Stopped m own code p j rest h k (status.Asks d) (stop.Sends a b)
  sends d j rest a b e does =
      let c = Asks (send (word_value h a) (word_value h b)) in
      let r = subst (Reaches m own code p n) does.2.2 does.1 in
      let steps = subst (λ i. Steps m own i p (inside r.0 c)) e r.1 in
      (r.0, steps, (does.2.0, r.0, send (word_value h a) (word_value h b), does.2.1, r.2, refl))

  pub asking : (f : Builtin) (d from c : ℕ) → Does m own code entries p n h k left (halt.Asks f d from c)
      → (s : State) × (fs : List Frame) × IsIn h k s × IsAsking m own code d s fs
      × Steps m own n p (inside fs (called own f (row s.registers from c)))
  asking f d from c does =
      let r = subst (Reaches m own code p n) does.2.2 does.1 in (does.2.0, r.0, does.2.1, r.2, r.1)

  pub raises : (w u : Word) (g : List Cell) → word_value g u ≡ ending_reason (word_value h w)
      → Does m own code entries p n h k left (halt.Raises w) → Went m own code p n g k (status.Ends u)
  raises w u g e does =
      let r = subst (Reaches m own code p n) does.2 does.1 in
      (inside [] (Raises (word_value h w)), r, ap (λ v. goes_on (ending v)) (sym e))

  pub awaits : (d j : ℕ) → n ≡ j → Does m own code entries p n h k left (halt.Awaits d)
      → Went m own code p j h k (status.Receives d)
  awaits d j e does =
      let r = subst (Reaches m own code p n) does.2.2 does.1 in
      let q = inside r.0 (Becomes (receive r.1)) in
      (q, subst (λ i. Steps m own i p q) e r.2, (does.2.0, r.0, r.1, does.2.1, r.3, refl))

  pub returned : (w : Word) (j : ℕ) → n ≡ j → Does m own code entries p n h k left (halt.Returns w)
      → Went m own code p j h k (status.Returns w)
  returned w j e does =
      let r = subst (Reaches m own code p n) does.2 does.1 in
      let q = inside [] (Becomes (lit (word_value h w))) in
      (q, subst (λ i. Steps m own i p q) e r, refl)

  pub paused : (j : ℕ) → n ≡ j → Does m own code entries p n h k left halt.Paused
      → Went m own code p j h k status.Goes
  paused j e does =
      let r = does.2 in (r.0, subst (λ i. Steps m own i p r.0) e r.1, (does.0, does.1, r.2))

  pub spent_here : (j rest : ℕ) → n ≡ j → rest ≡ 0 → left ≡ 0 → Did m own code entries p n h k left halt.Spent
      → Stopped m own code p j rest h k status.Goes stop.Cut
  spent_here j rest e z none does =
      let q = does.1 in
      let last = before_last m own left q does.2 does.6 in
      let same : q ≡ goes_on last.0 = not_moved m own left q (goes_on last.0) none last.1 in (
        z,
        last.0,
        subst (λ r. Steps m own j p r) same (subst (λ i. Steps m own i p q) e does.4),
        (does.0, does.3, subst (λ r. IsAt m own code does.0 r) same does.5),
      )

  pub spent_within : (j : ℕ) → n + left ≡ j → Did m own code entries p n h k left halt.Spent
      → Stopped m own code p j 0 h k status.Cut stop.Cut
  spent_within j e does =
      let q = does.1 in
      let last = before_last m own left q does.2 does.6 in
      let all = steps_then m own n left p q (goes_on last.0) does.4 last.1 in
      (refl, last.0, subst (λ i. Steps m own i p (goes_on last.0)) e all, tt)

module _ (m : Module) (own : ℕ) (code : Code) (p : Move) (h : List Cell) (k : Machine) (n : ℕ) (one : 1 ≡ n) where
  stepped : (q : Move) → Steps m own 1 p q → Steps m own n p q
  stepped q s = subst (λ i. Steps m own i p q) one s

  pub begins : Represents m own code h k status.Begins p → Went m own code p n h k status.Goes
  begins a = (a.2.0, stepped a.2.0 a.2.1, (a.0, a.1, a.2.2))

  pub receives : (d left : ℕ) → Represents m own code h k (status.Receives d) p
      → Stopped m own code p n left h k (status.Receives d) (stop.Receives d)
  receives d left a =
      let z : 1 ≡ suc 0 = omega arith in
      (refl, a.0, a.1, a.2, 0, sym one ∙ z, a.3, a.4, subst (λ q. Steps m own 0 p q) a.5 (no_step p))

  pub returns_it : (w : Word) (left : ℕ) → Represents m own code h k (status.Returns w) p
      → Stopped m own code p n left h k (status.Returns w) (stop.Returns w)
  returns_it w left a =
      let v = word_value h w in
      let q = inside [] (Becomes (lit v)) in
      let moves : Moves m own (lit v) (returns v) = at_value v refl refl in
      let c : Contracts m own q (returns v) = moves in
      stepped (returns v) (subst (λ x. Steps m own 1 x (returns v)) (sym a)
      (one_more zero q q (returns v) (no_step q) c))

  pub ends_it : (w : Word) (left : ℕ) → Represents m own code h k (status.Ends w) p
      → Stopped m own code p n left h k (status.Ends w) (stop.Ends w)
  ends_it w left a =
      let z : 1 ≡ suc 0 = omega arith in
      (0, sym one ∙ z, subst (λ q. Steps m own 0 p q) a (no_step p))

pub cut_before : (m : Module) (own : ℕ) (code : Code) (p : Move) (h : List Cell) (k : Machine) (n left : ℕ) (x : Status)
    → 0 ≡ n → left ≡ 0 → Charges x → Represents m own code h k x p → Stopped m own code p n left h k x stop.Cut
cut_before m own code p h k n left x e z c a =
    let u = charging m own code p h k x c a in (
      z,
      u.0,
      subst (λ i. Steps m own i p (goes_on u.0)) e (subst (λ q. Steps m own 0 p q) u.1 (no_step p)),
      subst (λ q. Represents m own code h k x q) u.1 a,
    )

-- ---- one after the other

pub went_then : (m : Module) (own : ℕ) (code : Code) (p q : Move) (j n i : ℕ) (h : List Cell) (k : Machine) (x : Status)
    → Steps m own j p q → j + n ≡ i → Went m own code q n h k x → Went m own code p i h k x
went_then m own code p q j n i h k x s e w =
    (w.0, subst (λ c. Steps m own c p w.0) e (steps_then m own j n p q w.0 s w.1), w.2)

pub stopped_then : (m : Module) (own : ℕ) (code : Code) (p q : Move) (j n i left : ℕ) (h : List Cell) (k : Machine)
    (x : Status) (t : Stop) → Steps m own j p q → j + n ≡ i → Stopped m own code q n left h k x t
    → Stopped m own code p i left h k x t
stopped_then m own code p q j n i left h k x stop.Cut s e w =
    let r = goes_on w.1 in
    (w.0, w.1, subst (λ c. Steps m own c p r) e (steps_then m own j n p q r s w.2), w.3)
stopped_then m own code p q j n i left h k x (stop.Receives d) s e w =
    let z : i ≡ suc (j + w.4) = omega (arith, e, w.5) in
    (w.0, w.1, w.2, w.3, j + w.4, z, w.6, w.7, steps_then m own j w.4 p q _ s w.8)
stopped_then m own code p q j n i left h k x (stop.Acts a) s e w =
    let r = inside w.0 (Asks (act_over h a)) in
    (w.0, subst (λ c. Steps m own c p r) e (steps_then m own j n p q r s w.1), w.2)
stopped_then m own code p q j n i left h k x (stop.Sends a b) s e w =
    let r = inside w.0 (Asks (send (word_value h a) (word_value h b))) in
    (w.0, subst (λ c. Steps m own c p r) e (steps_then m own j n p q r s w.1), w.2)
stopped_then m own code p q j n i left h k x (stop.Returns v) s e w =
    let r = returns (word_value h v) in
    subst (λ c. Steps m own c p r) e (steps_then m own j n p q r s w)
stopped_then m own code p q j n i left h k x (stop.Ends v) s e w =
    let z : i ≡ suc (j + w.0) = omega (arith, e, w.1) in
    (j + w.0, z, steps_then m own j w.0 p q _ s w.2)

-- The steps of a process over code as those of a machine, and the last of them.
use Rattle.std.proofs.Common.{◌≡◌, ℕ, suc, List, refl, sym, ap, ◌∙◌, subst}
use Rattle.std.specs.Prelude.{reverse}
use Rattle.pf_terms.specs.Value.{Value}
use Rattle.pf_syntax.specs.Tree.{Clauses, lit, receive}
use Rattle.pf_model.specs.Module.{Module}
use Rattle.pf_model.specs.Contraction.{Becomes, Raises, Exits, Asks, Awaits}
use Rattle.pf_model.specs.Context.{Frame, IsRedexIn, Move, Moves, ProcessState, at_index, at_value, running, waiting}
use Rattle.pf_model.specs.Context.{ending, ended, goes_on, asks, awaits, returns}
use Rattle.pf_code.specs.Points as points
use Rattle.pf_code.specs.Points.{inside, plug}
use Rattle.pf_code.proofs.Charges.{plug_fill}
use Rattle.pf_stepper.specs.Advanced.{Steps, no_step, one_more}
use Rattle.pf_stepper.specs.MicroSteps.{Contracts}

module _ (m : Module) (own : ℕ) where
  contracts_are : (p q : Move) → points.Contracts m own p q → Contracts m own p q
  contracts_are (goes_on (running t)) q c = c
  contracts_are (goes_on (waiting t)) q c = absurd c
  contracts_are (goes_on (ending v)) q c = absurd c
  contracts_are (goes_on (ended e)) q c = absurd c
  contracts_are (asks fs a) q c = absurd c
  contracts_are (awaits fs ks) q c = absurd c
  contracts_are (returns v) q c = absurd c

  pub steps_are : (n : ℕ) (p q : Move) → points.Steps m own n p q → Steps m own n p q
  steps_are n p q (points.no_step x) = no_step x
  steps_are n p q (points.one_more k x y z s c) = one_more k x y z (steps_are k x y s) (contracts_are y z c)

  -- a process that goes on, up to a step that leads elsewhere
  pub record LastStep (n : ℕ) (p r : Move) : Type 0 where
    pub before : ℕ
    pub state : ProcessState
    pub counted : n ≡ suc before
    pub steps : Steps m own before p (goes_on state)
    pub last : Contracts m own (goes_on state) r

  abbrev pub Stops : Move → Type 0
  Stops (goes_on u) = ⊥
  Stops (asks fs a) = Unit {0}
  Stops (awaits fs ks) = Unit {0}
  Stops (returns v) = Unit {0}

  last_from : (k n : ℕ) (x y z : Move) → n ≡ suc k → Steps m own k x y → points.Contracts m own y z → LastStep n x z
  last_from k n x (goes_on u) z e s c = record {
    before = k;
    state = u;
    counted = e;
    steps = s;
    last = contracts_are (goes_on u) z c;
  }
  last_from k n x (asks fs a) z e s c = absurd c
  last_from k n x (awaits fs ks) z e s c = absurd c
  last_from k n x (returns v) z e s c = absurd c

  pub last_step : (n : ℕ) (p r : Move) (u : ProcessState) → p ≡ goes_on u → Stops r → points.Steps m own n p r
      → LastStep n p r
  last_step n p r u e stops (points.no_step x) = absurd (subst Stops e stops)
  last_step n p r u e stops (points.one_more k x y z s c) = last_from k (suc k) x y z refl (steps_are k x y s) c

  -- only a value is returned
  pub returns_value : (u : ProcessState) (v : Value) → Contracts m own (goes_on u) (returns v) → u ≡ running (lit v)
  returns_value (running t) v (at_value w e d) =
      let same : w ≡ v = cc in ap running e ∙ ap (λ x. running (lit x)) same
  returns_value (running t) v (at_index fs r (Becomes b) x d) = absurd cc
  returns_value (running t) v (at_index fs r (Raises w) x d) = absurd cc
  returns_value (running t) v (at_index fs r (Exits w) x d) = absurd cc
  returns_value (running t) v (at_index fs r (Asks a) x d) = absurd cc
  returns_value (running t) v (at_index fs r (Awaits ks) x d) = absurd cc
  returns_value (waiting t) v c = absurd c
  returns_value (ending w) v c = absurd c
  returns_value (ended w) v c = absurd c

  -- a `receive` in its frames asks for a message
  pub awaits_next : (fs : List Frame) (ks : Clauses)
      → Contracts m own (inside fs (Becomes (receive ks))) (awaits (reverse fs) ks)
  awaits_next fs ks =
      let redex : IsRedexIn m own (plug fs (receive ks)) (reverse fs) (receive ks) (Awaits ks) =
      record { filled = sym (plug_fill fs (receive ks)); redex = refl } in
      let moves : Moves m own (plug fs (receive ks)) (awaits (reverse fs) ks) =
      at_index (reverse fs) (receive ks) (Awaits ks) redex refl in
      moves

-- Which process a machine and its status stand for, and what a turn of it is.
use Rattle.std.specs.Prelude.{◌≡◌, ℕ, suc, List, [], Option, Some, None}
use Rattle.pf_terms.specs.Value.{Value}
use Rattle.pf_syntax.specs.Tree.{Clauses, lit, receive}
use Rattle.pf_heap.specs.Heap.{Cell, word_value, IsWordOf}
use Rattle.pf_model.specs.Module.{Module}
use Rattle.pf_model.specs.Contraction.{Act, Becomes, Asks, send}
use Rattle.pf_model.specs.Context.{Frame, Move, ProcessState, goes_on, ending, returns}
use Rattle.pf_code.specs.Registers.{Registers, Sets}
use Rattle.pf_code.specs.Points.{inside, Steps}
use Rattle.pf_code.specs.Sound.{Code}
use Rattle.pf_code.specs.Machine.{State, runs}
use Rattle.pf_code.specs.Simulation.{IsAt, IsAtReceive, Reaches, set_registers}
use Rattle.pf_loop.specs.Run.{IsIn}
use Rattle.pf_loop.specs.Reached.{Does}
use Rattle.pf_loop.specs.declared.flow.Halt.{Halt}
use Rattle.pf_loop.specs.declared.flow.Halt.TheVariants as halt
use Rattle.pf_loop.specs.declared.machine.Machine.{Machine}
use Rattle.pf_actions.specs.Acts.{act_over, IsActOf}
use Rattle.pf_turns.specs.declared.status.Status.{Status}
use Rattle.pf_turns.specs.declared.status.Status.TheVariants as status
use Rattle.pf_turns.specs.declared.status.Stop.{Stop}
use Rattle.pf_turns.specs.declared.status.Stop.TheVariants as stop

-- a process waits in a state for the answer to this action, in these frames, which goes into a register
abbrev pub IsAsking : Module → ℕ → Code → ℕ → State → List Frame → Type 0
IsAsking m own code d s fs = (v : Value) (r : Registers) → Sets d v s.registers r
    → IsAt m own code (set_registers s r) (inside fs (Becomes (lit v)))

-- a machine with this status represents a process that does p next
abbrev pub Represents : Module → ℕ → Code → List Cell → Machine → Status → Move → Type 0
Represents m own code h k status.Begins p = (s : State) × IsIn h k s × Reaches m own code p 1 (runs s)
Represents m own code h k status.Goes p = (s : State) × IsIn h k s × IsAt m own code s p
Represents m own code h k (status.Receives d) p = (s : State) × (fs : List Frame) × (ks : Clauses) × IsIn h k s
    × IsAtReceive m own code d s fs ks × (p ≡ inside fs (Becomes (receive ks)))
Represents m own code h k (status.Returns w) p = p ≡ inside [] (Becomes (lit (word_value h w)))
Represents m own code h k (status.Ends w) p = p ≡ goes_on (ending (word_value h w))
Represents m own code h k (status.Asks d) p = (s : State) × (fs : List Frame) × (a : Act) × IsIn h k s
    × IsAsking m own code d s fs × (p ≡ inside fs (Asks a))
Represents m own code h k status.Cut p = Unit {0}

-- what a process that did p next did by n contractions where its machine stopped with so many left: where that cut its
-- turn, it can make one more than those
abbrev pub Did : Module → ℕ → Code → List ℕ → Move → ℕ → List Cell → Machine → ℕ → Halt → Type 0
Did m own code entries p n h k left halt.Spent = (t : State) × (q : Move) × (r : Move) × IsIn h k t
    × Steps m own n p q × IsAt m own code t q × Steps m own (suc left) q r
Did m own code entries p n h k left x = Does m own code entries p n h k left x

-- a process that did p next made n steps, and this machine and status stand for it
abbrev pub Went : Module → ℕ → Code → Move → ℕ → List Cell → Machine → Status → Type 0
Went m own code p n h k x = (q : Move) × Steps m own n p q × Represents m own code h k x q

-- a process that did p next made n steps, the last of which ended its turn, with so many left; where no step was left
-- it goes on
abbrev pub Stopped : Module → ℕ → Code → Move → ℕ → ℕ → List Cell → Machine → Status → Stop → Type 0
Stopped m own code p n left h k x stop.Cut = (left ≡ 0) × (u : ProcessState) × Steps m own n p (goes_on u)
    × Represents m own code h k x (goes_on u)
Stopped m own code p n left h k x (stop.Receives d) = (x ≡ status.Receives d) × (s : State) × (fs : List Frame)
    × (ks : Clauses) × (j : ℕ) × (n ≡ suc j) × IsIn h k s × IsAtReceive m own code d s fs ks
    × Steps m own j p (inside fs (Becomes (receive ks)))
Stopped m own code p n left h k x (stop.Acts a) = (fs : List Frame) × Steps m own n p (inside fs (Asks (act_over h a)))
    × Represents m own code h k x (inside fs (Asks (act_over h a)))
Stopped m own code p n left h k x (stop.Sends to v) = (fs : List Frame)
    × Steps m own n p (inside fs (Asks (send (word_value h to) (word_value h v))))
    × Represents m own code h k x (inside fs (Asks (send (word_value h to) (word_value h v))))
Stopped m own code p n left h k x (stop.Returns w) = Steps m own n p (returns (word_value h w))
Stopped m own code p n left h k x (stop.Ends w) = (j : ℕ) × (n ≡ suc j)
    × Steps m own j p (goes_on (ending (word_value h w)))

-- a process went on, or its turn ended
abbrev pub Goes : Module → ℕ → Code → Move → ℕ → ℕ → List Cell → Machine → Status → Option Stop → Type 0
Goes m own code p n left h k x None = Went m own code p n h k x
Goes m own code p n left h k x (Some s) = Stopped m own code p n left h k x s

-- the words of a status and of a stop are of this heap
abbrev pub IsStatusOf : List Cell → Status → Type 0
IsStatusOf h (status.Returns w) = IsWordOf h w
IsStatusOf h (status.Ends w) = IsWordOf h w
IsStatusOf h x = Unit {0}

abbrev pub IsStopOf : List Cell → Stop → Type 0
IsStopOf h (stop.Acts a) = IsActOf h a
IsStopOf h (stop.Sends to v) = IsWordOf h to × IsWordOf h v
IsStopOf h (stop.Returns w) = IsWordOf h w
IsStopOf h (stop.Ends w) = IsWordOf h w
IsStopOf h x = Unit {0}

-- a status whose next step is no instruction
abbrev pub Charges : Status → Type 0
Charges status.Begins = Unit {0}
Charges (status.Receives d) = Unit {0}
Charges (status.Returns w) = Unit {0}
Charges (status.Ends w) = Unit {0}
Charges status.Goes = ⊥
Charges (status.Asks d) = ⊥
Charges status.Cut = ⊥

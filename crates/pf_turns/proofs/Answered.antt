-- Where an answer goes, and where a process begins.
use Rattle.std.proofs.Common.{◌≡◌, ℕ, List, [], sym, ap, ◌∙◌, subst}
use Rattle.std.proofs.lemmas.List.{reverse-reverse}
use Rattle.std.specs.Prelude.{Some, slice_get, reverse}
use Rattle.pf_terms.specs.Value.{Value, Values, count}
use Rattle.pf_syntax.specs.Tree.{Function, call, lit}
use Rattle.pf_heap.specs.Heap.{Cell}
use Rattle.pf_model.specs.Module.{Module}
use Rattle.pf_model.specs.Contraction.{Act, Asks, Becomes}
use Rattle.pf_model.specs.Context.{Frame, Move, goes_on, asks, awaits, returns, literals, running}
use Rattle.pf_code.specs.Registers.{Registers, row, Sets}
use Rattle.pf_code.specs.Points.{inside}
use Rattle.pf_code.specs.Sound.{Code}
use Rattle.pf_code.specs.Machine.{State, state, entry, runs}
use Rattle.pf_code.specs.Simulation.{IsAt, IsSoundFor, Reaches, set_registers}
use Rattle.pf_code.proofs.Many.{calls_begin}
use Rattle.pf_loop.specs.Run.{IsIn}
use Rattle.pf_loop.specs.declared.machine.Machine.{Machine}
use Rattle.pf_loop.proofs.Words.{count_row}
use Rattle.pf_turns.specs.Turns.{Represents}
use Rattle.pf_turns.specs.declared.status.Status.TheVariants as status

abbrev frames_in : Move → List Frame
frames_in (goes_on s) = []
frames_in (asks fs a) = fs
frames_in (awaits fs ks) = fs
frames_in (returns v) = []

same_frames : (fs gs : List Frame) (a b : Act) → inside fs (Asks a) ≡ inside gs (Asks b) → gs ≡ fs
same_frames fs gs a b e = sym (reverse-reverse gs) ∙ sym (ap (λ p. reverse (frames_in p)) e) ∙ reverse-reverse fs

pub answered : (m : Module) (own : ℕ) (code : Code) (h : List Cell) (old new : Machine) (d : ℕ) (v : Value)
    (fs : List Frame) (a : Act) → Represents m own code h old (status.Asks d) (inside fs (Asks a))
    → ((s : State) → IsIn h old s → (r : Registers) × Sets d v s.registers r × IsIn h new (set_registers s r))
    → Represents m own code h new status.Goes (inside fs (Becomes (lit v)))
answered m own code h old new d v fs a represents put =
    let s = represents.0 in
    let r = put s represents.3 in
    let same = same_frames fs represents.1 a represents.2 represents.5 in (
      set_registers s r.0,
      r.2,
      subst (λ gs. IsAt m own code (set_registers s r.0) (inside gs (Becomes (lit v)))) same
          (represents.4 v r.0 r.1),
    )

pub begins_call : (m : Module) (own : ℕ) (code : Code) (entries : List ℕ) (h : List Cell) (k : Machine) (i pc n : ℕ)
    (f : Function) (vs : Values) → IsSoundFor m code entries → slice_get m.functions i ≡ Some f → f.arity ≡ n
    → entry entries i ≡ pc → ((r : Registers) × (row r 0 n ≡ vs) × IsIn h k (state pc r []))
    → Represents m own code h k status.Begins (goes_on (running (call i (literals vs))))
begins_call m own code entries h k i pc n f vs every there arity e a =
    let counted : count vs ≡ n = ap count (sym a.1) ∙ count_row a.0 0 n in
    let rows : row a.0 0 (count vs) ≡ vs = ap (row a.0 0) counted ∙ a.1 in (
      state pc a.0 [],
      a.2,
      subst (λ j. Reaches m own code (goes_on (running (call i (literals vs)))) 1
          (runs (state j a.0 []))) e (calls_begin m own code entries i f vs a.0 every there (arity ∙ sym counted) rows),
    )

use Rattle.std.proofs.Common.{ℕ, ◌-◌, ◌≤◌, List}
use Rattle.pf_heap.specs.Heap.{Keeps}
use Rattle.pf_model.specs.Module.{Module}
use Rattle.pf_model.specs.Context.{Move}
use Rattle.pf_code.specs.Sound.{Code}
use Rattle.pf_code.specs.Simulation.{IsSoundFor}
use Rattle.pf_loop.specs.View.{AreWords}
use Rattle.pf_loop.specs.Run.{IsCode}
use Rattle.pf_turns.specs.Turns.{IsStatusOf, Represents, Went}
use Rattle.pf_turns.proofs.process.Process.run.Given as goal

-- the process made the steps that were used, and the machine represents it
abbrev pub invariant-steps : goal.invariant-steps
invariant-steps l = record {
  words : AreWords l.heap l.self.machine.stack.words.items;
  keeps : Keeps l.fn.heap l.heap;
  few : l.rest ≤ l.left;
  status : IsStatusOf l.heap l.self.status;
  went : (m : Module) (code : Code) (entries : List ℕ) (p : Move) → IsCode l.fn.heap l.setting m code entries
      → IsSoundFor m code entries
      → Represents m l.setting.own code l.fn.heap l.fn.self.machine l.fn.self.status p
      → Went m l.setting.own code p (l.left - l.rest) l.heap l.self.machine l.self.status;
}

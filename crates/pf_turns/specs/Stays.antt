-- What stays as it is while another process runs.
use Rattle.std.specs.Prelude.{ℕ, List}
use Rattle.pf_heap.specs.Heap.{Cell, Keeps}
use Rattle.pf_model.specs.Module.{Module}
use Rattle.pf_model.specs.Context.{Move}
use Rattle.pf_code.specs.Sound.{Code}
use Rattle.pf_loop.specs.View.{AreWords}
use Rattle.pf_loop.specs.declared.machine.Machine.{Machine}
use Rattle.pf_turns.specs.Turns.{IsStatusOf, Represents}
use Rattle.pf_turns.specs.declared.status.Status.{Status}

-- where every word of a heap keeps its value, a machine represents the process that it represented
abbrev pub ProcessesStay : Type 0
ProcessesStay = (m : Module) (own : ℕ) (code : Code) (h g : List Cell) (k : Machine) (x : Status) (p : Move)
    → Keeps h g → AreWords h k.stack.words.items → IsStatusOf h x → Represents m own code h k x p
    → AreWords g k.stack.words.items × IsStatusOf g x × Represents m own code g k x p

-- Where a process is that has no slot.
use Rattle.std.proofs.Common.{◌≡◌, ℕ, zero, suc, ◌≤◌, false, List, [], ◌∷◌, refl, arith, length}
use Rattle.pf_model.specs.Configuration.{Core, Process, is_alive, of, process_at}
use Rattle.pf_system.specs.Processes.{RepresentsCore, view_of_processes}
use Rattle.pf_system.specs.declared.processes.Processes.{Processes}
use Rattle.pf_system.proofs.Changed.{slots_length}

-- nobody lives after the last process
beyond : (n : ℕ) (ps : List Process) → length ps ≤ n → is_alive (process_at n ps).state ≡ false
beyond n [] h = refl
beyond zero (p ∷ ps) h = absurd (omega arith)
beyond (suc n) (p ∷ ps) h = beyond n ps (omega arith)

pub none_there : (w : Processes) (c : Core) (a : ℕ) → RepresentsCore (view_of_processes w) c → length w.slots.items ≤ a
    → is_alive (of c a).state ≡ false
none_there w c a h l = let k = slots_length w c h in beyond a c.processes (omega arith)

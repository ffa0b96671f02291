use Rattle.std.proofs.Common.{◌≡◌}
use Rattle.pf_model.specs.Configuration.{Core}
use Rattle.pf_system.specs.Processes.{RepresentsCore, view_of_processes}
use Rattle.pf_system.proofs.Outcomes.{waiting_before}
use Rattle.pf_system.proofs.processes.Processes.waiting.Given as goal

-- those before are noted
abbrev pub invariant-loop-pid : goal.invariant-loop-pid
invariant-loop-pid l =
    (c : Core) → RepresentsCore (view_of_processes l.self) c → l.pids.items ≡ waiting_before c l.pid

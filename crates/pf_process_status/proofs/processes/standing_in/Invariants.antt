use Rattle.pf_model.specs.Configuration.{Configuration}
use Rattle.pf_system.specs.Steps.{Represents}
use Rattle.pf_process_status.specs.Followed.{AreByPid}
use Rattle.pf_process_status.specs.Put.{AreStanding}
use Rattle.pf_process_status.proofs.processes.standing_in.Given as goal

-- those so far have their statuses
abbrev pub invariant-loop-begun : goal.invariant-loop-begun
invariant-loop-begun l =
    (c : Configuration) → Represents l.followed.system c → AreByPid l.followed.begun.items
    → AreStanding l.followed.system.checked c l.followed.begun.items l.begun-index l.standings.items

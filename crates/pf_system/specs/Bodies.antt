-- Processes without their ties.
use Rattle.std.specs.Prelude.{List, [], ◌∷◌, ◌++◌, map}
use Rattle.pf_terms.specs.Value.{Value}
use Rattle.pf_model.specs.Context.{ProcessState}
use Rattle.pf_model.specs.Configuration.{Process, Core}
use Rattle.pf_model.specs.Deliveries.{woken}

-- what a process does, and its messages
pub record Body : Type 0 where
  pub state : ProcessState
  pub mailbox : List Value

abbrev pub body_of : ProcessState → List Value → Body
body_of s vs = record { state = s; mailbox = vs }

abbrev pub process_body : Process → Body
process_body p = body_of p.state p.mailbox

-- with a message more, for which it may have waited
abbrev pub with_one_message : Value → Body → Body
with_one_message v b = body_of (woken b.state) (b.mailbox ++ v ∷ [])

-- the bodies of a core, by pid
abbrev pub bodies_of : Core → List Body
bodies_of c = map process_body c.processes

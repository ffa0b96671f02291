-- Who did a step, and so is sent its answer.
use Rattle.std.specs.Prelude.{ℕ, zero}
use Rattle.pf_world.specs.Steps.{WorldStep, client_calls, worker_does}
use Rattle.pf_wire.specs.declared.outcome.Requester.{Requester}
use Rattle.pf_wire.specs.declared.outcome.Requester.TheVariants.{Client, Worker}

abbrev pub requester_of : WorldStep → Requester
requester_of (client_calls q c) = Client q
requester_of (worker_does w q t k) = Worker w q

-- the project that it names, and the worker; a client's names none
abbrev pub project_in : Requester → ℕ
project_in (Client q) = q
project_in (Worker w q) = q

abbrev pub worker_in : Requester → ℕ
worker_in (Client q) = zero
worker_in (Worker w q) = w

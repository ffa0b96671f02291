-- Clients: what a line of the file of a project's client asks for.
use Rattle.std.specs.Prelude.{ℕ, ◌==◌, if◌then◌else◌, List, [], ◌∷◌, Option, Some, None, codes}
use Rattle.std.specs.Str.{bytes_eq}
use Rattle.pf_text.specs.Numbers.{number_of_digits}
use Rattle.pf_request.specs.Calls.{Call}
use Rattle.pf_world.specs.Steps.{WorldStep, client_calls, worker_does}
use Rattle.pf_protocol.specs.Commands.{command_at, first_line, words_of_line}

-- a client makes a call, or waits until the trial of a ticket is done, or isn't held
pub data ClientLine : Type 0 where
  calls : Call → ClientLine
  awaits : (ticket : ℕ) → ClientLine

abbrev pub both_numbers : Option ℕ → Option ℕ → Option (ℕ × ℕ)
both_numbers (Some m) (Some n) = Some (m, n)
both_numbers _ _ = None

-- await P T: the project and the ticket of a line that waits
abbrev pub awaited_ticket : List (List ℕ) → Option (ℕ × ℕ)
awaited_ticket (w ∷ p ∷ t ∷ []) = if bytes_eq w (codes "await") then
    both_numbers (number_of_digits p) (number_of_digits t) else None
awaited_ticket _ = None

-- a call is one of the client's own if it is a call of its project
abbrev pub own_call : (project : ℕ) → WorldStep → List ℕ → Option (ClientLine × List ℕ)
own_call project (client_calls p c) rest = if p == project then Some (calls c, rest) else None
own_call project (worker_does w p t k) rest = None

abbrev pub own_command : (project : ℕ) → Option (WorldStep × List ℕ) → Option (ClientLine × List ℕ)
own_command project (Some s) = own_call project s.0 s.1
own_command project None = None

-- a line that waits, which waits for a trial of the client's project, or else a command
abbrev pub own_line : (project : ℕ) → Option (ℕ × ℕ) → (bytes rest : List ℕ) → Option (ClientLine × List ℕ)
own_line project (Some a) bytes rest = if a.0 == project then Some (awaits a.1, rest) else None
own_line project None bytes rest = own_command project (command_at bytes)

-- what the bytes of a project's file ask for first, and what follows
abbrev pub client_line_at : (project : ℕ) → List ℕ → Option (ClientLine × List ℕ)
client_line_at project bytes = own_line project (awaited_ticket (words_of_line (first_line bytes).text)) bytes
    (first_line bytes).rest

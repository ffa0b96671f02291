-- Tickets keep their jobs.
use Rattle.std.specs.Prelude.{◌≡◌, ◌≤◌, ℕ, List, length, IfSome}
use Rattle.pf_request.specs.Job.{Job}
use Rattle.pf_desks.specs.Desk.{Profile, Desk, held_at}
use Rattle.pf_desks.specs.Desks.{Desks, DeskStep, desk_at}
use Rattle.pf_desks.specs.Legality.{after_steps}

-- a ticket was given for this job: its trial, if it is held yet, is of the job
abbrev pub IsTicketOf : Desk → (ticket : ℕ) → Job → Type 0
IsTicketOf d t j = (t ≤ length d.trials) × IfSome (held_at d.trials t) (λ x. j ≡ x.job)

-- from one desk to the next, tickets that were given are still for their jobs
abbrev pub KeepsTickets : Desk → Desk → Type 0
KeepsTickets d d' = (t : ℕ) (j : Job) → IsTicketOf d t j → IsTicketOf d' t j

-- from some desks to the next, tickets of all projects that were given are still for their jobs
abbrev pub KeepsAllTickets : Desks → Desks → Type 0
KeepsAllTickets w w' = (q : ℕ) → KeepsTickets (desk_at q w) (desk_at q w')

-- whatever steps there are, from whatever desks, a ticket that was given is still for its job
abbrev pub TicketsStay : Type 0
TicketsStay = (p : Profile) (w : Desks) (ss : List DeskStep) → KeepsAllTickets w (after_steps p w ss)

-- Desks hold legal histories.
use Rattle.std.specs.Prelude.{ℕ, List, [], ◌∷◌}
use Rattle.pf_desks.specs.Desk.{Profile}
use Rattle.pf_desks.specs.History.{IsLegalDesk}
use Rattle.pf_desks.specs.Desks.{Desks, DeskStep, desk_at, step}

-- the desks after some steps
abbrev pub after_steps : Profile → Desks → List DeskStep → Desks
after_steps p w [] = w
after_steps p w (s ∷ ss) = after_steps p (step p w s).0 ss

-- whatever steps there are, from no open desk, the desk of each project is what its history makes
-- of an empty one, and what is noted in it follows: a worker claims what is queued and files what is running
abbrev pub Legality : Type 0
Legality = (p : Profile) (q : ℕ) (ss : List DeskStep) → IsLegalDesk p (desk_at q (after_steps p [] ss))

-- Worlds: many projects and their workers, and the replies that one project would get if it were alone.
use Rattle.std.specs.Prelude.{◌≡◌, ℕ, Bool, true, false, ◌==◌, if◌then◌else◌, List, [], ◌∷◌, ◌++◌, Option, Some, None}
use Rattle.std.specs.Prelude.{unwrap_or}
use Rattle.pf_request.specs.Calls.{Call}
use Rattle.pf_desks.specs.Desk.{Profile, Desk, no_desk, Reply}
use Rattle.pf_desks.specs.Calls.{reply_to, after_call}
use Rattle.pf_desks.specs.Work.{DeskWork, worker_step}

-- a client of a project makes a call, or a worker does something for it
pub data DeskStep : Type 0 where
  client : ℕ → Call → DeskStep
  worker : ℕ → DeskWork → DeskStep

pub data Answer : Type 0 where
  replied : Reply → Answer
  work_done : Answer
  not_now : Answer

-- the desks by project, in the order in which they were opened
abbrev pub Desks : Type 0
Desks = List (ℕ × Desk)

-- the desk of a project; one that was never opened is empty
abbrev pub desk_at : ℕ → Desks → Desk
desk_at q [] = no_desk
desk_at q (e ∷ es) = if q == e.0 then e.1 else desk_at q es

-- the desks with this one for a project, all other desks as they were
abbrev pub put_desk : ℕ → Desk → Desks → Desks
put_desk q d [] = (q, d) ∷ []
put_desk q d (e ∷ es) = if q == e.0 then (e.0, d) ∷ es else e ∷ put_desk q d es

-- the desks with the one that a worker's step leads to, where the step can be done
abbrev pub worked : ℕ → Desks → Option Desk → Desks × Answer
worked q w (Some d) = (put_desk q d w, work_done)
worked q w None = (w, not_now)

-- a call is answered by its project's desk, and a worker's step is done there
abbrev pub step : Profile → Desks → DeskStep → Desks × Answer
step p w (client q c) = (put_desk q (after_call p (desk_at q w) c) w, replied (reply_to p (desk_at q w) c))
step p w (worker q k) = worked q w (worker_step p (desk_at q w) k)

abbrev pub answers : Profile → Desks → List DeskStep → List Answer
answers p w [] = []
answers p w (s ∷ ss) = (step p w s).1 ∷ answers p (step p w s).0 ss

-- the answers to all steps, from no open desk
abbrev pub all_answers : Profile → List DeskStep → List Answer
all_answers p ss = answers p [] ss

-- ---- one project among the others

-- the project that a step names
abbrev pub project_named : DeskStep → ℕ
project_named (client q c) = q
project_named (worker q k) = q

abbrev pub happened : Answer → Bool
happened (replied r) = true
happened work_done = true
happened not_now = false

-- a step belongs to the project that it names, but one that was answered `not now` to none
abbrev pub belongs : ℕ → DeskStep → Answer → Bool
belongs q s a = if happened a then project_named s == q else false

abbrev pub replies_in : Answer → List Reply
replies_in (replied r) = r ∷ []
replies_in work_done = []
replies_in not_now = []

-- the replies that a project gets by the answers to some steps
abbrev pub replies_to : ℕ → List DeskStep → List Answer → List Reply
replies_to q [] xs = []
replies_to q (s ∷ ss) [] = []
replies_to q (s ∷ ss) (a ∷ xs) = (if project_named s == q then replies_in a else []) ++ replies_to q ss xs

-- the steps that belong to a project
abbrev pub own_steps : ℕ → List DeskStep → List Answer → List DeskStep
own_steps q [] xs = []
own_steps q (s ∷ ss) [] = []
own_steps q (s ∷ ss) (a ∷ xs) = if belongs q s a then s ∷ own_steps q ss xs else own_steps q ss xs

-- one desk after a step, and the replies that it gives
abbrev pub desk_after : Profile → Desk → DeskStep → Desk
desk_after p d (client q c) = after_call p d c
desk_after p d (worker q k) = unwrap_or (worker_step p d k) d

abbrev pub desk_replies : Profile → Desk → DeskStep → List Reply
desk_replies p d (client q c) = reply_to p d c ∷ []
desk_replies p d (worker q k) = []

-- the replies of one desk along some steps, where there is no other desk
abbrev pub replies_along : Profile → Desk → List DeskStep → List Reply
replies_along p d [] = []
replies_along p d (s ∷ ss) = desk_replies p d s ++ replies_along p (desk_after p d s) ss

-- the replies that a project gets where its own steps are all that there is: one empty desk, along the steps of the
-- whole that belong to it
abbrev pub alone : Profile → ℕ → List DeskStep → List Reply
alone p q ss = replies_along p no_desk (own_steps q ss (all_answers p ss))

-- isolation: whatever steps there are, of however many projects and in whatever order, a project gets the replies that
-- it gets alone
abbrev pub Isolation : Type 0
Isolation = (p : Profile) (q : ℕ) (ss : List DeskStep) → replies_to q ss (all_answers p ss) ≡ alone p q ss

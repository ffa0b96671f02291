-- One project among the others: the steps that belong to it, what it hears, and what it would hear alone.
use Rattle.std.specs.Prelude.{ℕ, Bool, true, false, ◌==◌, if◌then◌else◌, List, [], ◌∷◌, ◌++◌, filter_map, Option, Some}
use Rattle.std.specs.Prelude.{None}
use Rattle.pf_desks.specs.Desk.{no_desk, Reply}
use Rattle.pf_desks.specs.declared.mark.FileMark.TheVariants.{Whole}
use Rattle.pf_desks.specs.Work.{claim, file, hand_back}
use Rattle.pf_desks.specs.Desks.{DeskStep, client, worker, happened, replies_in, replies_along}
use Rattle.pf_world.specs.World.{RunProfile}
use Rattle.pf_world.specs.Chores.{Response, answer, stray}
use Rattle.pf_request.specs.declared.step.Chore.TheVariants.{Claim, File, HandBack}
use Rattle.pf_world.specs.Steps.{WorldStep, client_calls, worker_does, all_responses}

-- the project that a step names
abbrev pub project_of : WorldStep → ℕ
project_of (client_calls q c) = q
project_of (worker_does w q t k) = q

-- a step took place: it was answered, done, or stray
abbrev pub took_place : Response → Bool
took_place (answer a) = happened a
took_place stray = true

-- a step belongs to the project that it names, but one that was answered `not_now` to none
abbrev pub is_own : ℕ → WorldStep → Response → Bool
is_own q x a = if took_place a then project_of x == q else false

-- the steps that belong to a project, by what was answered to each
abbrev pub own_part : ℕ → List WorldStep → List Response → List WorldStep
own_part q (x ∷ xs) (a ∷ ans) = if is_own q x a then x ∷ own_part q xs ans else own_part q xs ans
own_part q xs ans = []

-- what was answered to the steps that belong to a project
abbrev pub own_responses : ℕ → List WorldStep → List Response → List Response
own_responses q (x ∷ xs) (a ∷ ans) = if is_own q x a then a ∷ own_responses q xs ans else own_responses q xs ans
own_responses q xs ans = []

-- the reply in what was answered, if there is one
abbrev pub replies_of : Response → List Reply
replies_of (answer a) = replies_in a
replies_of stray = []

-- what a project hears: the replies to its calls
abbrev pub heard : ℕ → List WorldStep → List Response → List Reply
heard q (x ∷ xs) (a ∷ ans) = (if project_of x == q then replies_of a else []) ++ heard q xs ans
heard q xs ans = []

-- what a step is at its project's desk, if no allocation fails: a call, a claim, a file of a whole run, or a hand-back;
-- slicing, parking, taking up and stealing are nothing there
abbrev pub at_desk : WorldStep → Option DeskStep
at_desk (client_calls q c) = Some (client q c)
at_desk (worker_does w q t Claim) = Some (worker q (claim t))
at_desk (worker_does w q t File) = Some (worker q (file t Whole))
at_desk (worker_does w q t HandBack) = Some (worker q (hand_back t))
at_desk (worker_does w q t k) = None

-- what a project hears alone: the replies of one empty desk along the steps that belong to it, with no other desk and
-- no worker
abbrev pub heard_alone : RunProfile → (workers : ℕ) → ℕ → List WorldStep → List Reply
heard_alone p n q xs = replies_along p.profile no_desk (filter_map at_desk (own_part q xs (all_responses p n xs)))

-- What the histories of a world's desks note of the calls of clients.
use Rattle.std.specs.Prelude.{◌≡◌, ℕ, ◌==◌, if◌then◌else◌, List, [], ◌∷◌, ◌++◌, take, Option, Some}
use Rattle.pf_quota.specs.declared.refusals.TheConstants.{MOST_CALLS}
use Rattle.pf_desks.specs.Desk.{Entry, called}
use Rattle.pf_desks.specs.History.{calls_noted}
use Rattle.pf_desks.specs.Desks.{desk_at, replied}
use Rattle.pf_world.specs.World.{RunProfile, World, new_world}
use Rattle.pf_world.specs.Chores.{Response, answer}
use Rattle.pf_world.specs.Steps.{WorldStep, client_calls}
use Rattle.pf_world.specs.Memory.{RespondsInTurn}

-- a call of a project with the reply that it got; nothing of another step, nor where an allocation failed
abbrev pub call_answered : ℕ → WorldStep → Option Response → List Entry
call_answered q (client_calls r c) (Some (answer (replied k))) = if r == q then called c k ∷ [] else []
call_answered q x a = []

-- the calls of a project with the replies that they got, in order
abbrev pub calls_answered : ℕ → List WorldStep → List (Option Response) → List Entry
calls_answered q (x ∷ xs) (a ∷ ans) = call_answered q x a ++ calls_answered q xs ans
calls_answered q xs ans = []

-- whatever steps there are, and wherever allocations fail, the history of a project's desk notes its calls with the
-- replies that they got, in their order, as many as a log holds
abbrev pub HistoriesNoteTheCalls : Type 0
HistoriesNoteTheCalls =
    (p : RunProfile) (n q : ℕ) (xs : List WorldStep) (ans : List (Option Response)) (s : World)
    → RespondsInTurn p (new_world n) xs ans s
    → calls_noted (desk_at q s.desks).history ≡ take MOST_CALLS (calls_answered q xs ans)

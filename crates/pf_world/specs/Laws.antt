-- The laws of worlds.
use Rattle.std.specs.Prelude.{◌≡◌, ◌≢◌, ◌↔◌, ℕ, ◌==◌, if◌then◌else◌, List, [], ◌∷◌, map, Option, Some}
use Rattle.pf_errors.specs.declared.code.Code.TheVariants as code
use Rattle.pf_request.specs.Calls.{Call, status, fetch}
use Rattle.pf_desks.specs.Desk.{Reply, refused}
use Rattle.pf_desks.specs.History.{IsLegalDesk}
use Rattle.pf_desks.specs.Limits.{IsInLimits}
use Rattle.pf_desks.specs.Numbers.{ReportEachOnce}
use Rattle.pf_desks.specs.Desks.{desk_at}
use Rattle.pf_world.specs.World.{RunProfile, World, new_world}
use Rattle.pf_world.specs.Chores.{Response}
use Rattle.pf_world.specs.Steps.{WorldStep, client_calls, worker_does, all_responses}
use Rattle.pf_world.specs.Memory.{RespondsInTurn}
use Rattle.pf_world.specs.Alone.{own_part, own_responses, heard, heard_alone}

-- the calls of a project's clients, in their order
abbrev pub calls_of : ℕ → List WorldStep → List Call
calls_of q [] = []
calls_of q (client_calls r c ∷ xs) = if r == q then c ∷ calls_of q xs else calls_of q xs
calls_of q (worker_does w r t k ∷ xs) = calls_of q xs

-- a reply settles its call: how far a trial is never does, nor that it isn't done
abbrev pub Settles : Call → Reply → Type 0
Settles (status t) r = ⊥
Settles (fetch t) r = r ≢ refused code.NotDone
Settles c r = Unit {0}

-- the two replies to each call are the same, if both settle it
abbrev pub AgreeWhereSettled : List Call → List Reply → List Reply → Type 0
AgreeWhereSettled [] [] [] = Unit {0}
AgreeWhereSettled (c ∷ cs) (r ∷ rs) (k ∷ ks) = (Settles c r → Settles c k → r ≡ k) × AgreeWhereSettled cs rs ks
AgreeWhereSettled cs rs ks = ⊥

-- if no allocation fails, steps are answered in turn in one way alone
abbrev pub AnsweredInTurn : Type 0
AnsweredInTurn =
    (p : RunProfile) (n : ℕ) (xs : List WorldStep) (ans : List Response)
    → ((s : World) × RespondsInTurn p (new_world n) xs (map Some ans) s) ↔ (ans ≡ all_responses p n xs)

-- whatever steps there are, of any number of workers and projects and in any order, a project hears what it hears alone
abbrev pub IsolationAmongWorkers : Type 0
IsolationAmongWorkers =
    (p : RunProfile) (n q : ℕ) (xs : List WorldStep) → heard q xs (all_responses p n xs) ≡ heard_alone p n q xs

-- if only the steps are left that belong to a project, each of them is answered as it was
abbrev pub DeletionOfOthers : Type 0
DeletionOfOthers =
    (p : RunProfile) (n q : ℕ) (xs : List WorldStep)
    → all_responses p n (own_part q xs (all_responses p n xs)) ≡ own_responses q xs (all_responses p n xs)

-- a project whose clients make the same calls in the same order hears the same replies to settled calls, whatever
-- numbers of workers there are, whatever they do, and whatever other projects do
abbrev pub SettledReplies : Type 0
SettledReplies =
    (p : RunProfile) (n m q : ℕ) (xs ys : List WorldStep) → calls_of q xs ≡ calls_of q ys
    → AgreeWhereSettled (calls_of q xs) (heard q xs (all_responses p n xs)) (heard q ys (all_responses p m ys))

-- whatever steps there are, and wherever allocations fail, the desk of each project is what its history makes of an
-- empty one, and what is noted in it follows: a worker claims what is queued, and files or hands back what is running
abbrev pub LegalityAmongWorkers : Type 0
LegalityAmongWorkers =
    (p : RunProfile) (n q : ℕ) (xs : List WorldStep) (ans : List (Option Response)) (s : World)
    → RespondsInTurn p (new_world n) xs ans s → IsLegalDesk p.profile (desk_at q s.desks)

-- whatever steps there are, and wherever allocations fail, the desk of each project is within its limits
abbrev pub LimitsAmongWorkers : Type 0
LimitsAmongWorkers =
    (p : RunProfile) (n q : ℕ) (xs : List WorldStep) (ans : List (Option Response)) (s : World)
    → RespondsInTurn p (new_world n) xs ans s → IsInLimits (desk_at q s.desks)

-- whatever steps there are, no number of a module is given to a project twice, and no ticket
abbrev pub NumbersAmongWorkers : Type 0
NumbersAmongWorkers = (p : RunProfile) (n q : ℕ) (xs : List WorldStep)
    → ReportEachOnce (heard q xs (all_responses p n xs))

-- Worked lists of steps, each with what is answered to it, at four workers, and worked texts of what is answered.
use Rattle.std.specs.Prelude.{◌≡◌, ℕ, List, [], ◌∷◌, ◌++◌, map, Option, Some, None, IsSome, replicate, codes}
use Rattle.pf_errors.specs.declared.code.Code.TheVariants as code
use Rattle.pf_model.specs.Meaning as model
use Rattle.pf_model.specs.Meaning.{schedule}
use Rattle.pf_model.specs.Properties.{returns}
use Rattle.pf_model.specs.Shrinking.{Result, report}
use Rattle.pf_model.specs.Worked.Modules.{sum_and_product}
use Rattle.pf_model.specs.Worked.Runs.{run_of_first}
use Rattle.pf_request.specs.Calls.{Call, submit, order, fetch, drop_trial, usage}
use Rattle.pf_request.specs.Job.{Job, memory_report}
use Rattle.pf_request.specs.Request.{run}
use Rattle.pf_desks.specs.Desk.{Desk, Reply, readable, number, ticket, result, given_up, uses, refused}
use Rattle.pf_desks.specs.Desks.{replied, work_done, not_now}
use Rattle.pf_world.specs.World.{RunProfile, ClaimedRun, World, new_world}
use Rattle.pf_world.specs.Chores.{Response, answer, stray, new_run, busy_effect}
use Rattle.pf_request.specs.declared.step.Chore.TheVariants.{Claim, Slice, Park, TakeUp, Steal, File, HandBack}
use Rattle.pf_world.specs.Steps.{WorldStep, client_calls, worker_does, all_responses}
use Rattle.pf_world.specs.Memory.{RespondsInTurn}
use Rattle.pf_world.specs.Reported.{step_text}

-- a profile by which each source is one module, and each job has this many events and means what this says
abbrev pub simple : (events : ℕ) → (model.Job → Result) → RunProfile
simple n means = record {
  profile = record {
    reading = λ text. readable sum_and_product;
    property = λ atoms text. Some returns;
    meaning = means;
  };
  events = λ j. n;
}

-- each step is answered as is written beside it
abbrev pub AreAnswered : RunProfile → List (WorldStep × Response) → Type 0
AreAnswered p xs = all_responses p 4 (map (λ x. x.0) xs) ≡ map (λ x. x.1) xs

-- ---- words for them

-- the client hears this
abbrev pub hears : Reply → Response
hears r = answer (replied r)

-- the chore is done, or can't be done now
abbrev pub is_done : Response
is_done = answer work_done

abbrev pub not_yet : Response
not_yet = answer not_now

-- a source of 52 bytes is submitted; a run of module 1 is ordered, within 100 steps
abbrev pub a_submit : Call
a_submit = submit (replicate 52 10)

abbrev pub an_order : Call
an_order = order 1 (record { root = codes "main"; property = codes "returns"; kind = run (schedule []); limit = 100 })

-- what the client hears of the trial when it is done
abbrev pub its_result : (model.Job → Result) → Response
its_result means = hears (result sum_and_product.atoms (means (run_of_first sum_and_product (schedule []) 100 returns)))

-- ---- lists of steps

-- two projects have a module and a trial each
abbrev pub two_projects : List (WorldStep × Response)
two_projects =
    (client_calls 1 a_submit, hears (number 1))
    ∷ (client_calls 2 a_submit, hears (number 1))
    ∷ (client_calls 1 an_order, hears (ticket 1))
    ∷ (client_calls 2 an_order, hears (ticket 1))
    ∷ (client_calls 1 usage, hears (uses (record { modules = 1; bytes = 52; trials = 1; steps = 100; calls = 2 })))
    ∷ (client_calls 2 usage, hears (uses (record { modules = 1; bytes = 52; trials = 1; steps = 100; calls = 2 })))
    ∷ []

-- a trial is dropped while a worker has it; its file is stray, and the worker is free for the other project's
abbrev pub dropped_at_work : (model.Job → Result) → List (WorldStep × Response)
dropped_at_work means =
    two_projects
    ++ (worker_does 0 1 1 Claim, is_done)
    ∷ (worker_does 0 2 1 Claim, not_yet)
    ∷ (client_calls 1 (drop_trial 1), hears given_up)
    ∷ (worker_does 0 1 1 (Slice 100), is_done)
    ∷ (worker_does 0 1 1 File, stray)
    ∷ (client_calls 1 (fetch 1), hears (refused code.NoTrial))
    ∷ (worker_does 0 1 1 File, not_yet)
    ∷ (worker_does 0 2 1 Claim, is_done)
    ∷ (worker_does 0 2 1 (Slice 100), is_done)
    ∷ (client_calls 2 (fetch 1), hears (refused code.NotDone))
    ∷ (worker_does 0 2 1 File, is_done)
    ∷ (client_calls 2 (fetch 1), its_result means)
    ∷ []

-- a run that one worker parks is stolen by another, who files it
abbrev pub stolen : (model.Job → Result) → List (WorldStep × Response)
stolen means =
    two_projects
    ++ (worker_does 0 2 1 Claim, is_done)
    ∷ (worker_does 0 2 1 Park, is_done)
    ∷ (worker_does 1 2 1 (Steal 0), is_done)
    ∷ (worker_does 0 2 1 TakeUp, not_yet)
    ∷ (worker_does 1 2 1 (Slice 1), is_done)
    ∷ (worker_does 1 2 1 File, is_done)
    ∷ (client_calls 2 (fetch 1), its_result means)
    ∷ []

-- a run of five events is made in slices by two workers; it is filed only when it is over, and only by the one that
-- holds it
abbrev pub in_slices : (model.Job → Result) → List (WorldStep × Response)
in_slices means =
    (client_calls 7 a_submit, hears (number 1))
    ∷ (client_calls 7 an_order, hears (ticket 1))
    ∷ (worker_does 0 7 1 Claim, is_done)
    ∷ (worker_does 0 7 1 (Slice 2), is_done)
    ∷ (worker_does 0 7 1 File, not_yet)
    ∷ (worker_does 0 7 1 Park, is_done)
    ∷ (worker_does 3 7 1 (Steal 0), is_done)
    ∷ (worker_does 3 7 1 (Slice 2), is_done)
    ∷ (worker_does 3 7 1 (Slice 1), is_done)
    ∷ (worker_does 3 7 1 (Slice 1), not_yet)
    ∷ (worker_does 0 7 1 HandBack, not_yet)
    ∷ (worker_does 3 7 1 File, is_done)
    ∷ (client_calls 7 (fetch 1), its_result means)
    ∷ []

-- the oldest parked run is taken first; what can't be done is not done: a second claim, no turns, a worker that steals
-- from itself, workers that aren't there, a parking of what is over; what is handed back is queued again, unless it was
-- dropped
abbrev pub one_by_one : (model.Job → Result) → List (WorldStep × Response)
one_by_one means =
    two_projects
    ++ (worker_does 2 1 1 Claim, is_done)
    ∷ (worker_does 3 1 1 Claim, not_yet)
    ∷ (worker_does 4 2 1 Claim, not_yet)
    ∷ (worker_does 2 1 1 (Slice 0), not_yet)
    ∷ (worker_does 2 1 1 Park, is_done)
    ∷ (worker_does 2 2 1 Claim, is_done)
    ∷ (worker_does 2 2 1 Park, is_done)
    ∷ (worker_does 2 2 1 TakeUp, not_yet)
    ∷ (worker_does 2 1 1 (Steal 2), not_yet)
    ∷ (worker_does 0 1 1 (Steal 4), not_yet)
    ∷ (worker_does 2 1 1 TakeUp, is_done)
    ∷ (worker_does 0 1 1 (Steal 2), not_yet)
    ∷ (worker_does 0 2 1 (Steal 2), is_done)
    ∷ (worker_does 0 2 1 (Slice 1), is_done)
    ∷ (worker_does 0 2 1 Park, not_yet)
    ∷ (worker_does 0 2 1 HandBack, is_done)
    ∷ (worker_does 0 2 1 HandBack, not_yet)
    ∷ (worker_does 3 2 1 Claim, is_done)
    ∷ (worker_does 3 2 1 File, not_yet)
    ∷ (client_calls 2 (drop_trial 1), hears given_up)
    ∷ (worker_does 3 2 1 HandBack, stray)
    ∷ (worker_does 3 2 1 Claim, not_yet)
    ∷ []

-- an allocation fails in a claim, a parking and a slice; the first two leave all as it was, and the run that was sliced
-- is filed as one for which memory ran out
abbrev pub growths_refused : List (WorldStep × Option Response)
growths_refused =
    (client_calls 1 a_submit, Some (hears (number 1)))
    ∷ (client_calls 1 an_order, Some (hears (ticket 1)))
    ∷ (worker_does 0 1 1 Claim, None)
    ∷ (worker_does 1 1 1 Claim, Some is_done)
    ∷ (worker_does 1 1 1 Park, None)
    ∷ (worker_does 1 1 1 (Slice 1), None)
    ∷ (worker_does 1 1 1 Park, Some not_yet)
    ∷ (worker_does 1 1 1 File, Some is_done)
    ∷ (client_calls 1 (fetch 1), Some (hears (result sum_and_product.atoms (report memory_report))))
    ∷ []

-- a deque has room for a run if 63 are on it, and none if 64 are
abbrev pub HasItsRoom : RunProfile → Desk → ClaimedRun → Type 0
HasItsRoom p d r =
    IsSome (busy_effect p r.ticket Park d r (replicate 63 r))
    × (busy_effect p r.ticket Park d r (replicate 64 r) ≡ None)

-- whatever jobs mean, these lists are answered so, with one event to a job, or with five
abbrev pub WorkedSteps : Type 0
WorkedSteps =
    (means : model.Job → Result)
    → AreAnswered (simple 1 means) (dropped_at_work means)
    × AreAnswered (simple 1 means) (stolen means)
    × AreAnswered (simple 5 means) (in_slices means)
    × AreAnswered (simple 1 means) (one_by_one means)
    × ((s : World) × RespondsInTurn (simple 1 means) (new_world 4) (map (λ x. x.0) growths_refused)
    (map (λ x. x.1) growths_refused) s)
    × ((d : Desk) (j : Job) → HasItsRoom (simple 1 means) d (new_run 1 1 j))

-- ---- texts

-- this is written when this was the answer to a step
abbrev pub IsStepText : WorldStep → Option Response → List ℕ → Type 0
IsStepText x a text = step_text x a ≡ text

-- a worker is named by its own number, and not by the project's, the ticket's or that of the worker from whom it steals
abbrev pub WorkedTexts : Type 0
WorkedTexts =
    IsStepText (worker_does 3 7 1 (Slice 2)) (Some is_done) (codes "w3 done\n")
    × IsStepText (worker_does 5 7 1 (Steal 3)) (Some not_yet) (codes "w5 not now N2\n")
    × IsStepText (worker_does 0 7 1 File) (Some stray) (codes "w0 stray N1\n")
    × IsStepText (worker_does 1 7 2 Claim) None (codes "w1 no memory\n")
    × IsStepText (client_calls 7 a_submit) (Some (hears (number 1))) (codes "p7 module 1\n")
    × IsStepText (client_calls 7 usage) None (codes "p7 refused NoMemory\n")

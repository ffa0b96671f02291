-- The text of what is answered in a world.
use Rattle.std.specs.Prelude.{ℕ, zero, List, [], ◌∷◌, ◌++◌, Option, Some, None, codes}
use Rattle.std.specs.Fmt.{decimal}
use Rattle.pf_errors.specs.Codes.{code_text, no_memory_text}
use Rattle.pf_errors.specs.declared.code.Code.TheVariants as code
use Rattle.pf_model.specs.TermText.{line}
use Rattle.pf_desks.specs.Reported.{reply_text, to_project}
use Rattle.pf_desks.specs.Desks.{replied, work_done, not_now}
use Rattle.pf_world.specs.Chores.{Response, answer, stray}
use Rattle.pf_world.specs.Steps.{WorldStep, client_calls, worker_does}
use Rattle.pf_world.specs.Alone.{project_of}

-- a line to a worker
abbrev pub to_worker : ℕ → List ℕ → List ℕ
to_worker w text = line (codes "w" ++ decimal w ++ codes " " ++ text)

-- the worker that a step names; a client's names none
abbrev pub worker_of : WorldStep → ℕ
worker_of (client_calls q c) = zero
worker_of (worker_does w q t k) = w

-- the reply to a call; or whether a chore is done, stray, or can't be done now
abbrev pub response_text : WorldStep → Response → List ℕ
response_text x (answer (replied r)) = reply_text (project_of x) r
response_text x (answer work_done) = to_worker (worker_of x) (codes "done")
response_text x (answer not_now) = to_worker (worker_of x) (codes "not now " ++ code_text code.NotNow)
response_text x stray = to_worker (worker_of x) (codes "stray " ++ code_text code.Stray)

-- an allocation failed in a step
abbrev pub memory_text : WorldStep → List ℕ
memory_text (client_calls q c) = to_project q (codes "refused " ++ no_memory_text)
memory_text (worker_does w q t k) = to_worker w (codes "no memory")

-- the answer to a step
abbrev pub step_text : WorldStep → Option Response → List ℕ
step_text x (Some a) = response_text x a
step_text x None = memory_text x

-- the answers to some steps, one after the other
abbrev pub outcomes_text : List WorldStep → List (Option Response) → List ℕ
outcomes_text (x ∷ xs) (a ∷ ans) = step_text x a ++ outcomes_text xs ans
outcomes_text xs ans = []

-- How a world of the code answers steps.
use Rattle.std.specs.Prelude.{Bool, true, false, Option, Some, None, Result, Ok, Err}
use Rattle.pf_errors.specs.declared.memory.NoMemory.{NoMemory}
use Rattle.pf_desks.specs.Desks.{replied, work_done, not_now}
use Rattle.pf_book.specs.View.{view_of_reply}
use Rattle.pf_world.specs.World.{World}
use Rattle.pf_world.specs.Chores as chores
use Rattle.pf_world.specs.Chores.{answer, stray}
use Rattle.pf_world.specs.Steps.{WorldStep}
use Rattle.pf_world.specs.Memory.{RespondsTo}
use Rattle.pf_pool.specs.declared.response.Response.{Response}
use Rattle.pf_pool.specs.declared.response.Response.TheVariants as response
use Rattle.pf_pool.specs.Profile.{ForRight}

-- ---- what responses stand for

abbrev pub view_of_response : Response → chores.Response
view_of_response (response.Reply r) = answer (replied (view_of_reply r))
view_of_response response.Done = answer work_done
view_of_response response.Stray = stray
view_of_response response.NotNow = answer not_now

-- nothing is answered to a step in which an allocation failed
abbrev pub response_in : Result Response NoMemory → Option chores.Response
response_in (Ok r) = Some (view_of_response r)
response_in (Err e) = None

-- what is answered when a hand was emptied: the trial was running, or the file or the hand-back was stray
abbrev pub work_response : Bool → chores.Response
work_response true = answer work_done
work_response false = stray

-- ---- steps

-- SimulatesStep s x r s': in a world a step is answered so, and leads to a world, for each profile that is right
abbrev pub SimulatesStep : World → WorldStep → Result Response NoMemory → World → Type 0
SimulatesStep s x r s' = ForRight (λ p. RespondsTo p s x (response_in r) s')

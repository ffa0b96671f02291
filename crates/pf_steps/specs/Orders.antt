-- Orders by the profile of the language: what a `fetch` of a ticket is given is the result, in the language, of the job
-- that its order asked for.
use Rattle.std.specs.Prelude.{◌≡◌, ℕ, List, ◌∷◌, ◌++◌, Some, Ok}
use Rattle.pf_check.specs.Reads.{Reads, accepted}
use Rattle.pf_model.specs.Module.{Module}
use Rattle.pf_model.specs.Properties.{Property}
use Rattle.pf_model.specs.Shrinking.{Result, IsResult}
use Rattle.pf_property.specs.Texts.{IsPropertyOf}
use Rattle.pf_request.specs.Calls.{order, fetch}
use Rattle.pf_request.specs.Job.{Job, job_of}
use Rattle.pf_request.specs.Request.{Request}
use Rattle.pf_desks.specs.Desk.{Desk, ticket, result, Entry, called}
use Rattle.pf_desks.specs.History.{IsLegalDesk}
use Rattle.pf_farm_laws.specs.Orders.{IsSubmitted, edition_after, NoneForMemoryOf}
use Rattle.pf_steps.specs.Profile.{run_profile}

-- after these notes an order of a module asks for this job: the request's, with the property that its bytes are, of the
-- source that was submitted and was given the module's number, as it reads, in the edition that the desk has then
pub record AsksFor (es : List Entry) (n : ℕ) (q : Request) (j : Job) : Type 0 where
  pub source : List ℕ
  pub code : Module
  pub property : Property
  pub submitted : IsSubmitted es n source
  pub read : Reads source (accepted code.name code.atoms code.functions)
  pub bytes : IsPropertyOf code.atoms q.property (Some property)
  pub job : job_of (record { source = source; code = code }) (edition_after 1 es) (Some property) q ≡ Ok j

-- where an order was given a ticket and a later `fetch` of the ticket was given a result, and memory didn't run out for
-- that trial between the two, that is the result of the job that this very order asked for
abbrev pub ReportsAreOfTheLanguage : Type 0
ReportsAreOfTheLanguage =
    (d : Desk) (before between after : List Entry) (n : ℕ) (q : Request) (t : ℕ) (atoms : List (List ℕ)) (r : Result)
    → IsLegalDesk run_profile.profile d
    → d.history ≡ before ++ called (order n q) (ticket t) ∷ (between ++ called (fetch t) (result atoms r) ∷ after)
    → NoneForMemoryOf t between
    → (j : Job) × AsksFor before n q j × (atoms ≡ j.asked.code.atoms) × IsResult j.asked r

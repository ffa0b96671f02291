-- Orders: which job an order asked for, by what its history notes before it, and what a `fetch` of its ticket is
-- answered.
use Rattle.std.specs.Prelude.{◌≡◌, ◌≢◌, ℕ, List, [], ◌∷◌, ◌++◌, All, Ok}
use Rattle.pf_model.specs.Module.{Module}
use Rattle.pf_model.specs.Shrinking.{Result}
use Rattle.pf_request.specs.Calls.{Call, submit, order, fetch, edition}
use Rattle.pf_request.specs.Job.{Job, job_of}
use Rattle.pf_request.specs.Request.{Request}
use Rattle.pf_desks.specs.Desk.{Profile, Desk, Reply, number, ticket, result, has_edition, readable, Entry, called}
use Rattle.pf_desks.specs.Desk.{claimed, filed, handed_back}
use Rattle.pf_desks.specs.declared.mark.FileMark.TheVariants.{Memory}
use Rattle.pf_desks.specs.History.{IsLegalDesk}

-- this source was submitted, and was given this number
abbrev pub IsSubmitted : List Entry → (number : ℕ) → (source : List ℕ) → Type 0
IsSubmitted es n source = (before : List Entry) × (after : List Entry)
    × (es ≡ before ++ called (submit source) (number n) ∷ after)

-- the edition of a desk after a call that got this reply
abbrev pub edition_by : Call → Reply → ℕ → ℕ
edition_by (edition n) has_edition e = n
edition_by c r e = e

-- the edition of a desk after what is noted
abbrev pub edition_after : ℕ → List Entry → ℕ
edition_after e [] = e
edition_after e (called c r ∷ es) = edition_after (edition_by c r e) es
edition_after e (claimed t ∷ es) = edition_after e es
edition_after e (filed t m ∷ es) = edition_after e es
edition_after e (handed_back t ∷ es) = edition_after e es

-- after these notes an order of a module asks for this job: the request's, of the source that was submitted and was
-- given the module's number, as it is read, in the edition that the desk has then
pub record AsksFor (p : Profile) (es : List Entry) (n : ℕ) (q : Request) (j : Job) : Type 0 where
  pub source : List ℕ
  pub code : Module
  pub submitted : IsSubmitted es n source
  pub read : p.reading source ≡ readable code
  pub job : job_of (record { source = source; code = code }) (edition_after 1 es)
      (p.property code.atoms q.property) q ≡ Ok j

-- no file of a ticket bears the mark of memory
abbrev pub NoneForMemoryOf : ℕ → List Entry → Type 0
NoneForMemoryOf t es = All (λ e. e ≢ filed t Memory) es

-- in a legal history, where an order was given a ticket and a later `fetch` of the ticket was given a result, and
-- memory didn't run out for that trial between the two, that result is what the job means which that very order asked
-- for
abbrev pub ReportsAreOfTheirOrders : Type 0
ReportsAreOfTheirOrders =
    (p : Profile) (d : Desk) (before between after : List Entry) (n : ℕ) (q : Request) (t : ℕ)
    (atoms : List (List ℕ)) (r : Result)
    → IsLegalDesk p d → d.history ≡ before ++ called (order n q) (ticket t)
    ∷ (between ++ called (fetch t) (result atoms r) ∷ after)
    → NoneForMemoryOf t between
    → (j : Job) × AsksFor p before n q j × (atoms ≡ j.asked.code.atoms) × (r ≡ p.meaning j.asked)

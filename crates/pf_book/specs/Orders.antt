-- What orders ask for.
use Rattle.std.specs.Prelude.{◌≡◌, ℕ, List, Option, Result, Err}
use Rattle.pf_errors.specs.declared.code.Code.{Code}
use Rattle.pf_errors.specs.declared.fault.OrNoMemory.{OrNoMemory}
use Rattle.pf_errors.specs.declared.fault.OrNoMemory.TheVariants.{NoMemory, Fault}
use Rattle.pf_request.specs.Job.{Job}
use Rattle.pf_check.specs.Module.{ReadModule}
use Rattle.pf_request.specs.View.{view_of_request}
use Rattle.pf_request.specs.declared.call.Order.{Order}
use Rattle.pf_desks.specs.Desk.{job_ordered, held_at}
use Rattle.pf_book.specs.declared.refusal.CallRefusal.{CallRefusal}
use Rattle.pf_book.specs.Profile.{ForRight}
use Rattle.pf_book.specs.View.{code_of}

-- OrderAsksFor e modules o r: an order to a desk of an edition with these modules asks for this job, or is refused for
-- this
abbrev pub OrderAsksFor : (edition : ℕ) → List (Option ReadModule) → Order → Result Job Code → Type 0
OrderAsksFor e modules o r = ForRight (λ p. job_ordered p e (held_at modules o.module) (view_of_request o.request) ≡ r)

-- a refusal is one of these; out of memory says nothing of the order
abbrev pub IsRefusedJob : (Result Job Code → Type 0) → OrNoMemory CallRefusal → Type 0
IsRefusedJob P NoMemory = Unit {0}
IsRefusedJob P (Fault e) = P (Err (code_of e))

-- a refusal is one of these; out of memory says nothing
abbrev pub IsRefusal : (CallRefusal → Type 0) → OrNoMemory CallRefusal → Type 0
IsRefusal P NoMemory = Unit {0}
IsRefusal P (Fault e) = P e

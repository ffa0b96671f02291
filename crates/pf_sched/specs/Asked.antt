-- Which job a request results in, where the bytes of its property are read, or why it results in none.
use Rattle.std.specs.Prelude.{◌≡◌, ◌⊎◌, ◌≤◌, ℕ, zero, true, List, Option, Some, Result, Err}
use Rattle.pf_errors.specs.declared.code.Code.{Code}
use Rattle.pf_errors.specs.declared.code.Code.TheVariants as code
use Rattle.pf_errors.specs.declared.fault.OrNoMemory.{OrNoMemory}
use Rattle.pf_errors.specs.declared.fault.OrNoMemory.TheVariants.{NoMemory, Fault}
use Rattle.pf_model.specs.Meaning.{schedule}
use Rattle.pf_model.specs.Limits.{IsEdition, is_in_range}
use Rattle.pf_model.specs.Properties.{Property}
use Rattle.pf_property.specs.Texts.{IsPropertyOf, ReadsProperty}
use Rattle.pf_check.specs.Module.{ReadModule}
use Rattle.pf_request.specs.Request.{Request, count_of, may_weigh}
use Rattle.pf_request.specs.Job.{Job, job_of, root_in}
use Rattle.pf_shrink.specs.declared.hunt.TheConstants.{MOST_RUNS}
use Rattle.pf_check.specs.Reading.{IsReadAs}
use Rattle.pf_sched.specs.declared.refusal.JobRefusal.{JobRefusal}
use Rattle.pf_sched.specs.Views.{code_of}

-- Asks m e r x: a request of a module in an edition results in this job, or is refused for this
abbrev pub Asks : ReadModule → (edition : ℕ) → Request → Result Job Code → Type 0
Asks m e r x = (q : Option Property) × IsPropertyOf m.code.atoms r.property q × (job_of m e q r ≡ x)

-- a refusal is one of these; out of memory says nothing of what is asked for
abbrev pub IsRefusal : (Result Job Code → Type 0) → OrNoMemory JobRefusal → Type 0
IsRefusal P NoMemory = Unit {0}
IsRefusal P (Fault e) = P (Err (code_of e))

-- the module of a job
abbrev pub module_of_job : Job → ReadModule
module_of_job j = record { source = j.source; code = j.asked.code }

-- what is true of each job: its module is what its source is read as; its root is an exported function without
-- arguments; its limit, its schedule, its runs and its weights are within bounds; what is shrunk is a schedule; there
-- is its edition
pub record IsValid (j : Job) : Type 0 where
  pub read : IsReadAs j.source (module_of_job j)
  pub name : List ℕ
  pub root : root_in (module_of_job j) name ≡ Some j.asked.root
  pub limit : is_in_range j.asked.limit (count_of j.asked.choices) ≡ true
  pub runs : j.asked.runs ≤ MOST_RUNS
  pub shrinks : (j.asked.runs ≡ zero) ⊎ ((ns : List ℕ) × (j.asked.choices ≡ schedule ns))
  pub weighs : may_weigh j.asked.choices ≡ true
  pub edition : IsEdition j.asked.edition

-- no property is of these bytes
abbrev pub NoSuch : (atoms : List (List ℕ)) → List ℕ → OrNoMemory JobRefusal → Type 0
NoSuch atoms bytes NoMemory = Unit {0}
NoSuch atoms bytes (Fault e) = (code_of e ≡ code.NoProperty) × ((q : Property) → ReadsProperty atoms bytes q → ⊥)

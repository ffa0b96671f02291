-- Jobs: what a request results in for a module, or the first of what it is refused for.
use Rattle.std.specs.Prelude.{ℕ, zero, if◌then◌else◌, List, [], Option, Some, None, Result, Ok, Err}
use Rattle.pf_errors.specs.declared.code.Code.{Code}
use Rattle.pf_errors.specs.declared.code.Code.TheVariants as code
use Rattle.pf_syntax.specs.Root.{root_of}
use Rattle.pf_model.specs.Meaning as model
use Rattle.pf_model.specs.Meaning.{Choices, Report, seed, schedule, weighted_seed}
use Rattle.pf_model.specs.Properties as properties
use Rattle.pf_model.specs.Properties.{Property}
use Rattle.pf_check.specs.Module.{ReadModule}
use Rattle.pf_request.specs.Request.{Request, choices_in, runs_in, is_within, may_weigh}

-- what is asked for of a module, with the source that the module was read from
pub record Job : Type 0 where
  pub source : List ℕ
  pub asked : model.Job

-- the number of the exported function without arguments that has this name
abbrev pub root_in : ReadModule → List ℕ → Option ℕ
root_in m root = root_of root m.code.atoms m.code.functions

abbrev pub job_from : ReadModule → (edition root : ℕ) → Property → Request → Job
job_from m e i q r =
    record {
      source = m.source;
      asked = record {
        code = m.code;
        root = i;
        choices = choices_in r.kind;
        limit = r.limit;
        property = q;
        runs = runs_in r.kind;
        edition = e;
      };
    }

-- ---- the rule of a request: its root, its property, its range, its weights

abbrev pub within_bounds : Request → Job → Result Job Code
within_bounds r j = if is_within r then (if may_weigh (choices_in r.kind) then Ok j else Err code.WeightsOutOfRange)
    else Err code.OutOfRange

abbrev pub with_property : ReadModule → (edition root : ℕ) → Option Property → Request → Result Job Code
with_property m e i None r = Err code.NoProperty
with_property m e i (Some q) r = within_bounds r (job_from m e i q r)

abbrev pub with_root : ReadModule → (edition : ℕ) → (root : Option ℕ) → Option Property → Request → Result Job Code
with_root m e None q r = Err code.NoRoot
with_root m e (Some i) q r = with_property m e i q r

-- the job of a request of a module in an edition, where the bytes of its property are this one or none; or the first of
-- its refusals
abbrev pub job_of : ReadModule → (edition : ℕ) → Option Property → Request → Result Job Code
job_of m e q r = with_root m e (root_in m r.root) q r

-- ---- jobs of other choices, and of no memory

-- the choices of a seed, by the weights that these choices have
abbrev pub reseeded : Choices → ℕ → Choices
reseeded (seed n) s = seed s
reseeded (schedule ns) s = seed s
reseeded (weighted_seed n run deliver) s = weighted_seed s run deliver

-- the run by a seed in place of the own choices of what is asked for, by their weights
abbrev pub asked_by_seed : model.Job → ℕ → model.Job
asked_by_seed j s = record j { choices = reseeded j.choices s; runs = zero }

abbrev pub by_seed : Job → ℕ → Job
by_seed j s = record j { asked = asked_by_seed j.asked s }

-- the report of a job for which memory ran out: no event, no step and no verdict
abbrev pub memory_report : Report
memory_report = record { events = []; outcome = properties.memory; steps = 0; verdict = None }

-- The codes of refusals.
use Rattle.pf_errors.specs.declared.code.Code.{Code}
use Rattle.pf_errors.specs.declared.code.Code.TheVariants as code
use Rattle.pf_quota.specs.declared.refusals.LimitRefusal.{LimitRefusal}
use Rattle.pf_quota.specs.declared.refusals.LimitRefusal.TheVariants.{Modules, Bytes, Trials, Steps, Calls}

abbrev pub code_of : LimitRefusal → Code
code_of Modules = code.TooManyModules
code_of Bytes = code.TooManyBytes
code_of Trials = code.TooManyTrials
code_of Steps = code.TooManySteps
code_of Calls = code.TooManyCalls

-- What is explored.
use Rattle.std.specs.Prelude.{ℕ, Option}
use Rattle.pf_model.specs.Meaning.{Job}

-- a job, and the process that goes last in its runs, if one is named
pub record LastJob : Type 0 where
  pub job : Job
  pub last : Option ℕ

abbrev pub with_last : (last : Option ℕ) → Job → LastJob
with_last p j = record { job = j; last = p }

-- What the code's own hunts say of seeds.
use Rattle.std.specs.Prelude.{◌≡◌, ℕ, option_map}
use Rattle.pf_hunt.specs.Hunts.{FirstFailing, FirstLeaking, Tallies, looked_to}
use Rattle.pf_hunt.specs.Views.{failure_of, failures_of, leak_of, rows_of}
use Rattle.pf_hunt.specs.declared.failure.Searched.{Searched}
use Rattle.pf_hunt.specs.declared.seeded.Hunt.{Hunt}
use Rattle.pf_hunt.specs.declared.tallied.Tallied.{Tallied}

-- of the seeds from a to before b the least that fails is given, and of those that were looked at up to it the least
-- that leaks
pub record FindsFailure (h : Hunt) (a b : ℕ) (s : Searched) : Type 0 where
  pub failure : FirstFailing (failures_of h) h.strategy h.job.asked a b (option_map failure_of s.failure)
  pub leak : FirstLeaking h.strategy h.job.asked a (looked_to b (option_map failure_of s.failure))
      (option_map leak_of s.leak)
  pub end : s.end ≡ b

-- the rows of the seeds from a to before b are given, and the least of them that leaks
pub record TalliesAll (h : Hunt) (a b : ℕ) (t : Tallied) : Type 0 where
  pub rows : Tallies h.strategy h.job.asked a b (rows_of t.tally)
  pub leak : FirstLeaking h.strategy h.job.asked a b (option_map leak_of t.leak)
  pub end : t.end ≡ b

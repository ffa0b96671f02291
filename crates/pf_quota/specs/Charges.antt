-- What a trial counts.
use Rattle.std.specs.Prelude.{ℕ, zero, suc, ◌*◌}

-- the steps of a trial: its limit, and of one that is run several times its limit for each run
abbrev pub steps_of_trial : ℕ → ℕ → ℕ
steps_of_trial limit zero = limit
steps_of_trial limit (suc n) = limit * suc n

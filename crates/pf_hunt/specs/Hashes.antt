-- Hashes: numbers by which outcomes are distinguished before they are compared.
use Rattle.std.specs.Prelude.{ℕ, ◌+◌, ◌*◌, ◌%◌, ◌^◌, List, [], ◌∷◌}
use Rattle.std.specs.Int.{w64, cast_unsigned}
use Rattle.pf_terms.specs.Value.{Value, int, atom, ref, pid, tuple, list, Values, none, more}
use Rattle.pf_model.specs.Properties.{Outcome, finished, ended, deadlock, limit, memory}

-- a hash with one number more
abbrev pub mixed : (hash number : ℕ) → ℕ
mixed h n = ((h * 11400714819323198485) % 2 ^ 64 + n) % 2 ^ 64

-- a hash with more numbers
abbrev pub numbers_hash : ℕ → List ℕ → ℕ
numbers_hash h [] = h
numbers_hash h (n ∷ ns) = numbers_hash (mixed h n) ns

-- a hash with one value more, and with all elements of one
abbrev mutual
  pub value_hash : ℕ → Value → ℕ
  value_hash h (int n) = mixed h (cast_unsigned w64 n)
  value_hash h (atom a) = mixed h a
  value_hash h (ref r) = mixed h r
  value_hash h (pid p) = mixed h p
  value_hash h (tuple vs) = values_hash (mixed h 1) vs
  value_hash h (list vs) = values_hash (mixed h 2) vs

  pub values_hash : ℕ → Values → ℕ
  values_hash h none = h
  values_hash h (more v vs) = values_hash (value_hash h v) vs

abbrev pub outcome_hash : Outcome → ℕ
outcome_hash (finished v) = value_hash 1 v
outcome_hash (ended v) = value_hash 2 v
outcome_hash (deadlock ps) = numbers_hash 3 ps
outcome_hash limit = 4
outcome_hash memory = 5

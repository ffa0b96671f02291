-- The hashes of rows.
use Rattle.std.specs.Prelude.{ℕ, List, map}
use Rattle.pf_hunt.specs.Hashes.{outcome_hash}
use Rattle.pf_hunt.specs.declared.row.OutcomeRow.{OutcomeRow}

-- the hash of a row is that of its outcome
abbrev pub row_hash : OutcomeRow → ℕ
row_hash x = outcome_hash x.outcome

abbrev pub hashes_in : List OutcomeRow → List ℕ
hashes_in xs = map row_hash xs

use Rattle.std.proofs.Common.{◌≡◌, ◌≤◌, ◌⊎◌}
use Rattle.std.specs.Prelude.{option_map}
use Rattle.pf_hunt.specs.Hunts.{FirstLeaking, Tallies}
use Rattle.pf_hunt.specs.Views.{leak_of, rows_of}
use Rattle.pf_hunt.proofs.tallied.tally_in.Given as goal

-- the runs before are counted, and the least of them that leaks is known
abbrev pub invariant-loop-seed : goal.invariant-loop-seed
invariant-loop-seed l = record {
  rows : Tallies l.hunt.strategy l.hunt.job.asked l.from l.seed (rows_of l.tally);
  leak : FirstLeaking l.hunt.strategy l.hunt.job.asked l.from l.seed (option_map leak_of l.leak);
  at : (l.seed ≡ l.from) ⊎ (l.seed ≤ l.end);
}

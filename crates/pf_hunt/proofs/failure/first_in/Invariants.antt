use Rattle.std.proofs.Common.{◌≡◌, ◌≤◌, ◌⊎◌}
use Rattle.std.specs.Prelude.{option_map}
use Rattle.pf_hunt.specs.Hunts.{FirstLeaking, NoneIs, fails}
use Rattle.pf_hunt.specs.Views.{failures_of, leak_of}
use Rattle.pf_hunt.proofs.failure.first_in.Given as goal

-- no run before fails, and the least of them that leaks is known
abbrev pub invariant-loop-seed : goal.invariant-loop-seed
invariant-loop-seed l = record {
  none : NoneIs (fails (failures_of l.hunt)) l.hunt.strategy l.hunt.job.asked l.from l.seed;
  leak : FirstLeaking l.hunt.strategy l.hunt.job.asked l.from l.seed (option_map leak_of l.leak);
  at : (l.seed ≡ l.from) ⊎ (l.seed ≤ l.end);
}

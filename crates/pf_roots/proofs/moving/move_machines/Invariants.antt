use Rattle.std.proofs.Common.{◌≡◌, ◌≤◌, ◌++◌, List, drop, length, take}
use Rattle.pf_machine.specs.declared.machine.Machine.{Machine}
use Rattle.pf_roots.specs.Kept.{all_words_of}
use Rattle.pf_roots.specs.Puts.{ArePut}
use Rattle.pf_roots.proofs.moving.move_machines.Given as goal

-- the machines from here on are as they were, with the words that are left; where these are put, all are
abbrev pub invariant-loop-index : goal.invariant-loop-index
invariant-loop-index l = record {
  count : length l.machines ≡ length l.fn.machines;
  later : drop l.index l.machines ≡ drop l.index l.fn.machines;
  few : length (all_words_of (drop l.index l.fn.machines)) ≤ length l.rest;
  put : (js : List Machine) → ArePut (drop l.index l.fn.machines) l.rest js
      → ArePut l.fn.machines l.words (take l.index l.machines ++ js);
}

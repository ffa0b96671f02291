use Rattle.std.proofs.Common.{◌≡◌, ◌≤◌, length}
use Rattle.pf_json.specs.Names.{named_below, named_root}
use Rattle.pf_json.proofs.names.named.Given as goal

-- after no longer name anything is reported
abbrev pub invariant-loop-end : goal.invariant-loop-end
invariant-loop-end l = record {
  within : l.end ≤ length l.line;
  none : named_root l.line ≡ named_below l.line l.end;
}

abbrev pub decreases-loop-end : goal.decreases-loop-end
decreases-loop-end l = l.end

use Rattle.std.proofs.Common.{◌≡◌, ◌++◌}
use Rattle.pf_diagnostics.specs.Shown.{shown_up_to}
use Rattle.pf_diagnostics.proofs.shown.put_shown.Given as goal

-- the bytes so far have gone out
abbrev pub invariant-loop-at : goal.invariant-loop-at
invariant-loop-at l = l.out.items ≡ l.fn.out.items ++ shown_up_to l.bytes l.at

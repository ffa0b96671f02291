use Rattle.std.proofs.Common.{◌≡◌, ◌++◌, replicate}
use Rattle.pf_diagnostics.proofs.shown.put_blanks.Given as goal

-- n blanks have gone out
abbrev pub invariant-loop : goal.invariant-loop
invariant-loop l = l.out.items ≡ l.fn.out.items ++ replicate l.counter 32

use Rattle.std.proofs.Common.{◌≡◌, ◌++◌, take}
use Rattle.std.specs.Prelude.{codes, flat_map}
use Rattle.pf_model.specs.TermText.{pid_text}
use Rattle.pf_trace.proofs.report.put_pids.Given as goal

-- the pids so far have gone out
abbrev pub invariant-loop-pid : goal.invariant-loop-pid
invariant-loop-pid l = l.out.items ≡ l.fn.out.items ++ flat_map (λ p. codes " " ++ pid_text p) (take l.pid-index l.pids)

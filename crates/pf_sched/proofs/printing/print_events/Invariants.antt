use Rattle.std.proofs.Common.{◌≡◌, List, [], length}
use Rattle.pf_model.specs.Meaning.{Event}
use Rattle.pf_sched.specs.Choosing.{Choosing}
use Rattle.pf_sched.specs.Parts.{Executes}
use Rattle.pf_sched.specs.Printing.{IsPrinted}
use Rattle.pf_sched.proofs.printing.print_events.Given as goal

-- an event was made in each turn, all were received, and the lines of those that don't wait were written; no call
-- failed
abbrev pub invariant-loop : goal.invariant-loop
invariant-loop g l =
    let contents = g.W.Write.contents in
    record {
      printed :
          (u : Choosing) → Executes l.job u [] l.fn.execution
          → (es : List Event) × (length es ≡ l.counter) × IsPrinted l.job u es l.execution l.printer
          (contents l.fn.writer.inner) (contents l.writer.inner);
      kept : l.writer.failures.total ≡ l.fn.writer.failures.total;
    }

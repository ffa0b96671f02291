use Rattle.std.proofs.Common.{◌≡◌, ◌++◌, map}
use Rattle.std.specs.Vec.Iter.{into_iter_items}
use Rattle.pf_clients.specs.Farms.{client_text}
use Rattle.pf_clients.proofs.Printed.{PrintedSoFar}
use Rattle.pf_clients.proofs.reported.write_all.Given as goal

abbrev pub invariant-files : goal.invariant-files
invariant-files g l =
    let contents = g.W.Write.contents in
    record {
      so_far : PrintedSoFar (map client_text l.yielded) l.status (contents l.fn.writer.inner) (contents l.writer.inner);
      rest : l.fn.answers.items ≡ l.yielded ++ into_iter_items l.answered-iterator;
      same : l.writer.failures.total ≡ l.fn.writer.failures.total;
    }

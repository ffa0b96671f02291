use Rattle.std.proofs.Common.{rules, ◌++◌, take}
use Rattle.pf_streams.proofs.Writes.{appends_both, split_more}
use Rattle.pf_clients.proofs.replies.write_out.Goals as goal

pub rest-preserved : goal.rest-preserved
rest-preserved g c =
    let w = c.rest.invariant.wrote in
    let n = c.in-Ok.n in
    let rest = c.rest.rest.now in
    record {
      wrote = (
        w.0 ++ take n rest,
        rw c.split_at.ensures.back (split_more _ w.0 rest n w.1),
        appends_both _ _ _ w.0 (take n rest) w.2 c.in-Ok.ensures.bytes,
      );
    }

use Rattle.std.proofs.Common.{subst}
use Rattle.std.specs.Prelude.{length}
use Rattle.pf_process_status.specs.Known.{events_of}
use Rattle.pf_process_status.specs.Noted.{TakePoints}
use Rattle.pf_process_status.proofs.Noting.{made_noted}
use Rattle.pf_process_status.proofs.Survivors.{are_there}
use Rattle.pf_process_status.proofs.processes.standings.Goals as goal

pub returns-clause-are_there : goal.returns-clause-are_there
returns-clause-are_there c d h =
    are_there c.args.run.now d h c.in_ok-standings.standings.items c.put_ends.new.standings.items
    c.put_points.new.standings.items (c.in_ok-standings.ensures d h)
    c.put_ends.ensures c.put_points.ensures.placed

pub returns-clause-points : goal.returns-clause-points
returns-clause-points c =
    let es = events_of c.args.run.now in
    let notes = c.in_ok-failures.failures in
    let made = c.in_ok-failures.ensures in
    record {
      notes = notes;
      made = made;
      noted = made_noted es (length es) notes made;
      points = subst (λ fs. TakePoints fs c.put_points.new.standings.items) c.as_slice.ensures.value
          c.put_points.ensures.points;
    }

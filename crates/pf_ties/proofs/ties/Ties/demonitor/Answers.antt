use Rattle.pf_ties.specs.Ties.{AllTies}
use Rattle.pf_ties.proofs.Kept.{at_index, demonitored_is}
use Rattle.pf_ties.proofs.ties.Ties.demonitor.Goals as goal

pub returns-clause-was : goal.returns-clause-was
returns-clause-was c =
    let e = at_index c.args.from c.self.inside.processes.items c.index_mut-process.result.now
    (rw (← c.self.view_is) at c.requires) c.index_mut-process.ensures.value in
    rw (← c.self.view_is, e) c.unwatch.ensures.was

pub returns-clause-demonitored : goal.returns-clause-demonitored
returns-clause-demonitored c =
    let e = at_index c.args.from c.self.inside.processes.items c.index_mut-process.result.now
    (rw (← c.self.view_is) at c.requires) c.index_mut-process.ensures.value in
    let s : AllTies = record {
      processes = c.self.inside.processes.items;
      names = c.self.inside.names;
      next_reference =
          c.self.inside.next_reference;
    } in
    rw (c.unwatch.ensures.inactive, ← e, ← c.self.view_is) (demonitored_is s c.args.from c.args.reference)

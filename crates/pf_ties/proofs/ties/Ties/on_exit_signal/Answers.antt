use Rattle.std.proofs.Common.{sym}
use Rattle.pf_ties.specs.Ties.{AllTies}
use Rattle.pf_ties.proofs.Kept.{at_index, dropped, exit_same, exit_changed, fate_linked, fate_other}
use Rattle.pf_ties.proofs.ties.Ties.on_exit_signal.Goals as goal

pub returns-then-not-by_link-clause-fate : goal.returns-then-not-by_link-clause-fate
returns-then-not-by_link-clause-fate c =
    let e = at_index c.args.to c.self.inside.processes.items c.index_mut-process.result.now
    (rw (← c.self.view_is) at c.requires) c.index_mut-process.ensures.value in
    let s : AllTies = record {
      processes = c.self.inside.processes.items;
      names = c.self.inside.names;
      next_reference =
          c.self.inside.next_reference;
    } in
    rw (← c.self.view_is, c.exit_fate.ensures, ← e)
    (fate_other s c.args.from c.args.to c.args.by_link _ c.if-not-by_link.true)

pub returns-then-not-unlink-clause-fate : goal.returns-then-not-unlink-clause-fate
returns-then-not-unlink-clause-fate c =
    let e = at_index c.args.to c.self.inside.processes.items c.index_mut-process.result.now
    (rw (← c.self.view_is) at c.requires) c.index_mut-process.ensures.value in
    let s : AllTies = record {
      processes = c.self.inside.processes.items;
      names = c.self.inside.names;
      next_reference =
          c.self.inside.next_reference;
    } in
    let h = rw (← e, c.if-not-unlink.true) at c.unlink.ensures.was in
    rw (← c.self.view_is) (dropped s c.args.from c.args.to c.args.by_link _ c.if-not-by_link.false (sym h))

pub returns-then-not-unlink-clause-placed : goal.returns-then-not-unlink-clause-placed
returns-then-not-unlink-clause-placed c =
    let e = at_index c.args.to c.self.inside.processes.items c.index_mut-process.result.now
    (rw (← c.self.view_is) at c.requires) c.index_mut-process.ensures.value in
    let s : AllTies = record {
      processes = c.self.inside.processes.items;
      names = c.self.inside.names;
      next_reference =
          c.self.inside.next_reference;
    } in
    let h = rw (← e, c.if-not-unlink.true) at c.unlink.ensures.was in
    rw (c.unlink.ensures.unlinked, ← e, ← c.self.view_is)
    (exit_same s c.args.from c.args.to c.args.by_link c.if-not-by_link.false (sym h))

pub returns-clause-fate : goal.returns-clause-fate
returns-clause-fate c =
    let e = at_index c.args.to c.self.inside.processes.items c.index_mut-process.result.now
    (rw (← c.self.view_is) at c.requires) c.index_mut-process.ensures.value in
    let s : AllTies = record {
      processes = c.self.inside.processes.items;
      names = c.self.inside.names;
      next_reference =
          c.self.inside.next_reference;
    } in
    let h = rw (← e, c.if-not-unlink.false) at c.unlink.ensures.was in
    rw (← c.self.view_is, c.exit_fate-2.ensures, c.unlink.ensures.unlinked, ← e)
    (fate_linked s c.args.from c.args.to c.args.by_link _ c.if-not-by_link.false (sym h))

pub returns-clause-placed : goal.returns-clause-placed
returns-clause-placed c =
    let e = at_index c.args.to c.self.inside.processes.items c.index_mut-process.result.now
    (rw (← c.self.view_is) at c.requires) c.index_mut-process.ensures.value in
    let s : AllTies = record {
      processes = c.self.inside.processes.items;
      names = c.self.inside.names;
      next_reference =
          c.self.inside.next_reference;
    } in
    let h = rw (← e, c.if-not-unlink.false) at c.unlink.ensures.was in
    rw (c.unlink.ensures.unlinked, ← e, ← c.self.view_is)
    (exit_changed s c.args.from c.args.to c.args.by_link c.if-not-by_link.false (sym h))

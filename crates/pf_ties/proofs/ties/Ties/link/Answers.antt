use Rattle.std.proofs.Common.{sym, ◌∙◌, arith}
use Rattle.pf_ties.specs.Ties.{AllTies}
use Rattle.pf_ties.proofs.Kept.{at_index, not_new, all_same, same_ties, is_new, new_ties}
use Rattle.std.proofs.lemmas.Bool.Decides.{nat_tests}
use Rattle.pf_ties.proofs.ties.Ties.link.Goals as goal

pub returns-then-is_linked-clause-new : goal.returns-then-is_linked-clause-new
returns-then-is_linked-clause-new c =
    let e = at_index c.args.from c.self.inside.processes.items c.index_mut-process.result.now
    (rw (← c.self.view_is) at c.requires) c.index_mut-process.ensures.value in
    let s : AllTies = record {
      processes = c.self.inside.processes.items;
      names = c.self.inside.names;
      next_reference =
          c.self.inside.next_reference;
    } in
    let h = rw (← e, c.if-is_linked.true) at c.is_linked.ensures in
    rw (← c.self.view_is) (not_new s c.args.from c.args.to (sym h) (grind (arith, nat_tests)))

pub returns-then-is_linked-clause-linked : goal.returns-then-is_linked-clause-linked
returns-then-is_linked-clause-linked c =
    let e = at_index c.args.from c.self.inside.processes.items c.index_mut-process.result.now
    (rw (← c.self.view_is) at c.requires) c.index_mut-process.ensures.value in
    let s : AllTies = record {
      processes = c.self.inside.processes.items;
      names = c.self.inside.names;
      next_reference =
          c.self.inside.next_reference;
    } in
    let h = rw (← e, c.if-is_linked.true) at c.is_linked.ensures in
    rw (← e, ← c.self.view_is) (all_same s c.args.from ∙ same_ties s c.args.from c.args.to (sym h)
    (grind (arith, nat_tests)))

pub returns-clause-new : goal.returns-clause-new
returns-clause-new c =
    let e = at_index c.args.from c.self.inside.processes.items c.index_mut-process.result.now
    (rw (← c.self.view_is) at c.requires) c.index_mut-process.ensures.value in
    let s : AllTies = record {
      processes = c.self.inside.processes.items;
      names = c.self.inside.names;
      next_reference =
          c.self.inside.next_reference;
    } in
    let h = rw (← e, c.if-is_linked.false) at c.is_linked.ensures in
    rw (← c.self.view_is) (is_new s c.args.from c.args.to (sym h) (grind (arith, nat_tests)))

pub returns-clause-linked : goal.returns-clause-linked
returns-clause-linked c =
    let e = at_index c.args.from c.self.inside.processes.items c.index_mut-process.result.now
    (rw (← c.self.view_is) at c.requires) c.index_mut-process.ensures.value in
    let s : AllTies = record {
      processes = c.self.inside.processes.items;
      names = c.self.inside.names;
      next_reference =
          c.self.inside.next_reference;
    } in
    let h = rw (← e, c.if-is_linked.false) at c.is_linked.ensures in
    rw (c.in_ok-link.ensures.linked, ← e, ← c.self.view_is)
    (new_ties s c.args.from c.args.to (sym h) (grind (arith, nat_tests)))

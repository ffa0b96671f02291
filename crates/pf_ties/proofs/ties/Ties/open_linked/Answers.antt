use Rattle.std.proofs.Common.{List, ◌++◌, ◌∷◌, [], ap, ◌∙◌}
use Rattle.pf_ties.specs.Ties.{AllTies, ProcessTies, ties_begun}
use Rattle.pf_ties.proofs.Kept.{at_more, opened_is}
use Rattle.pf_ties.proofs.ties.Ties.open_linked.Goals as goal

pub returns-in-Ok-clause-opened : goal.returns-in-Ok-clause-opened
returns-in-Ok-clause-opened c =
    let items = c.self.inside.processes.items in
    let s : AllTies = record {
      processes = items;
      names = c.self.inside.names;
      next_reference =
          c.self.inside.next_reference;
    } in
    let l = rw (← c.self.view_is) at c.requires.parent in
    let n = rw (← c.self.view_is) at c.requires.pid in
    let made = ◌∙◌ {A = List ProcessTies} c.in_ok-push.ensures.items
    (ap (λ p. items ++ p ∷ []) c.in_ok-begun_linked.ensures) in
    let e = at_more c.args.parent items (ties_begun (c.args.parent ∷ []) ∷ []) c.index_mut-process.result.now l
    (rw made at c.index_mut-process.ensures.value) in
    rw (c.in-Ok.ensures.linked, made, ← e, ← c.self.view_is) (opened_is s c.args.parent c.args.pid n l)

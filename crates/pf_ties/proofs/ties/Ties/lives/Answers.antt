use Rattle.std.proofs.Common.{◌<◌, sym, ap, ◌∙◌, length}
use Rattle.pf_ties.proofs.Kept.{at_index, past_end}
use Rattle.pf_sorted.proofs.Indices.{lt_from, le_from}
use Rattle.pf_ties.proofs.ties.Ties.lives.Goals as goal

pub returns-in-Some : goal.returns-in-Some
returns-in-Some c =
    let k = rw c.deref.ensures.value at c.in-Some.ensures.lookup in
    let l : c.args.pid < length c.self.inside.processes.items =
    lt_from c.args.pid (length c.self.inside.processes.items) (sym k.0) in
    rw (← c.self.view_is) (c.lives.ensures ∙ ap (λ p. p.lives)
    (sym (at_index c.args.pid c.self.inside.processes.items c.in-Some.process.now l k.1)))

pub returns-in-None : goal.returns-in-None
returns-in-None c =
    let k = rw c.deref.ensures.value at c.in-None.ensures.lookup in
    rw (← c.self.view_is)
    (sym (past_end c.args.pid c.self.inside.processes.items
    (le_from c.args.pid (length c.self.inside.processes.items) (sym k.0))))

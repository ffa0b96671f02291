use Rattle.std.proofs.Common.{sym}
use Rattle.pf_ties.proofs.LookUps.{without_none}
use Rattle.pf_ties.proofs.Naming.{inverse_without, name_kept, name_lost}
use Rattle.pf_ties.proofs.names.RegisteredNames.remove_of.Goals as goal

pub invariant_of-self : goal.invariant_of-self
invariant_of-self c =
    let a = c.self.inside.by_name in let b = c.self.inside.by_process in
    let e = c.self.invariant.back c.in-Some.name c.from.result (sym c.in-Some.ensures.was) in
    rw (c.remove-in-Some.ensures.removed, c.remove.ensures.removed, c.from-in-Some.ensures)
    (inverse_without a b c.in-Some.name c.from.result c.self.invariant e)

pub invariant_of-self-in_default : goal.invariant_of-self-in_default
invariant_of-self-in_default c =
    rw (c.remove.ensures.removed, without_none c.from.result c.self.inside.by_process (sym c.in_default.ensures.was))
    c.self.invariant

pub returns-in-Some : goal.returns-in-Some
returns-in-Some c =
    let e = rw c.from.ensures at c.in-Some.ensures.was in
    rw (← c.self.view_is, c.remove-in-Some.ensures.removed, c.from-in-Some.ensures)
    (name_lost c.self.inside.by_name c.self.inside.by_process c.args.pid c.in-Some.name c.self.invariant (sym e))

pub returns-in_default : goal.returns-in_default
returns-in_default c =
    let e = rw c.from.ensures at c.in_default.ensures.was in
    rw (← c.self.view_is) (name_kept c.self.inside.by_name c.self.inside.by_process c.args.pid c.self.invariant (sym e))

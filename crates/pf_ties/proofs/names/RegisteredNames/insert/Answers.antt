use Rattle.pf_ties.proofs.LookUps.{without_put}
use Rattle.pf_ties.proofs.Naming.{inverse_put, unnamed_none}
use Rattle.pf_ties.proofs.names.RegisteredNames.insert.Goals as goal

pub invariant_of-self-in-Ok : goal.invariant_of-self-in-Ok
invariant_of-self-in-Ok c =
    let a = c.self.inside.by_name in let b = c.self.inside.by_process in let n = c.args.name.0 in let p = c.args.pid in
    let e = rw (← c.self.view_is) at c.requires.new in
    let f = rw (← c.self.view_is) at c.requires.unnamed in
    rw (c.in_ok-insert.ensures.inserted, c.from-key.ensures, c.in-Ok.ensures.inserted, c.from.ensures)
    (inverse_put a b n p c.self.invariant e (unnamed_none a b p c.self.invariant f))

pub invariant_of-self-in-Err : goal.invariant_of-self-in-Err
invariant_of-self-in-Err c =
    let e = rw (← c.self.view_is) at c.requires.new in
    rw (
      c.remove.ensures.removed,
      c.in_ok-insert.ensures.inserted,
      c.from-key.ensures,
      without_put c.args.name.0 c.args.pid c.self.inside.by_name e,
      c.in-Err.ensures.refused,
    )
    c.self.invariant

pub returns-in-Err-clause-refused : goal.returns-in-Err-clause-refused
returns-in-Err-clause-refused c =
    let e = rw (← c.self.view_is) at c.requires.new in
    rw (← c.self.view_is, c.remove.ensures.removed, c.in_ok-insert.ensures.inserted, c.from-key.ensures)
    (without_put c.args.name.0 c.args.pid c.self.inside.by_name e)

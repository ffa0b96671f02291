use Rattle.std.proofs.Common.{◌∙◌}
use Rattle.pf_ties.proofs.Naming.{named_same}
use Rattle.pf_ties.proofs.names.RegisteredNames.is_named.Goals as goal

pub returns : goal.returns
returns c =
    let e = rw c.from.ensures at c.has.ensures in
    rw (← c.self.view_is) (e ∙ named_same c.self.inside.by_name c.self.inside.by_process c.args.pid c.self.invariant)

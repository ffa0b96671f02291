use Rattle.std.proofs.Common.{◌∙◌, sym, ap}
use Rattle.pf_nodes.specs.NodeRefs.{same_node_ref}
use Rattle.pf_nodes.specs.Links.{with_next}
use Rattle.pf_nodes.proofs.Cuts.{set_value-change}
use Rattle.pf_nodes.proofs.raw.Nodes.lead_on.Goals as goal

pub returns-in-Some : goal.returns-in-Some
returns-in-Some g c =
    let items = c.args.self.now.items in
    set_value-change (same_node_ref c.in-Some.node_ref) (λ n. record n { next = c.args.to }) items c.get_mut.result.now
    c.get_mut.ensures.value
    ∙ ap (λ o. with_next o c.args.to items) (sym c.in-Some.is)

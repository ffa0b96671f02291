use Rattle.std.proofs.Common.{sym, subst}
use Rattle.std.specs.Prelude.{MatchOption, ⊤}
use Rattle.pf_nodes.specs.NodeRefs.{IsNodeRef}
use Rattle.pf_nodes.proofs.Chains.{still_placed}
use Rattle.pf_nodes.proofs.raw.Nodes.join.Goals as goal

pub lead_back-requires : goal.lead_back-requires
lead_back-requires g c =
    let after = c.args.after in let items = c.args.self.now.items in
    subst (λ l. MatchOption after ⊤ (IsNodeRef l)) (sym c.lead_on.ensures)
    (still_placed after c.args.before after items c.requires.after)

use Rattle.std.proofs.Common.{◌∙◌, sym, ap, subst, Some, ◌+◌}
use Rattle.pf_nodes.specs.Nodes.{IsPool}
use Rattle.pf_nodes.proofs.Pools.{pool_pushed}
use Rattle.pf_nodes.proofs.spare.Pool.put.Goals as goal

pub invariant_of-self : goal.invariant_of-self
invariant_of-self g c =
    let kept = c.deref_mut.ensures.value in let made = c.of.ensures in
    subst (λ l. IsPool l (Some c.add-node_ref.result) (c.self.inside.count + 1)) (sym c.add-node_ref.ensures.items)
    (pool_pushed c.self.inside.nodes.items c.self.inside.top c.self.inside.count c.add-node_ref.result.ptr
    c.of.result.value c.self.invariant c.add-node_ref.ensures.fresh
    (ap (λ n. n.value) made ∙ ap (λ n. n.value) kept ∙ c.requires) (ap (λ n. n.next) made) c.if-self-eq-CAPACITY.false)

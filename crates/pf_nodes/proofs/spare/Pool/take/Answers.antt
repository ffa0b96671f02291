use Rattle.std.proofs.Common.{◌∙◌, sym, ap, subst, arith, Some}
use Rattle.pf_nodes.specs.Nodes.{IsPool}
use Rattle.pf_nodes.proofs.Pools.{pool_found, pool_popped, pool_empty}
use Rattle.pf_nodes.proofs.spare.Pool.take.Goals as goal

pub remove-requires : goal.remove-requires
remove-requires g c =
    let s = c.self.inside in pool_found s.nodes.items c.in-Some.node_ref s.count
    (subst (λ t. IsPool s.nodes.items t s.count) c.in-Some.is c.self.invariant)

pub invariant_of-self : goal.invariant_of-self
invariant_of-self g c =
    let s = c.self.inside in let r = c.remove.ensures in let same = c.deref.ensures ∙ c.into_box-node.ensures in
    (pool_popped s.nodes.items c.in-Some.node_ref s.count
    (subst (λ t. IsPool s.nodes.items t s.count) c.in-Some.is c.self.invariant) c.deref.result.now
    c.remove.new.self.items
    (r.node ∙ ap Some (sym same)) r.items).2

pub returns : goal.returns
returns g c =
    let s = c.self.inside in let r = c.remove.ensures in let seen = c.self.view_is in
    let popped = pool_popped s.nodes.items c.in-Some.node_ref s.count
    (subst (λ t. IsPool s.nodes.items t s.count) c.in-Some.is c.self.invariant) c.remove.result.value
    c.remove.new.self.items r.node r.items in
    let some = popped.1 in
    (ap (λ n. n.value) c.into_box-node.ensures ∙ popped.0, omega (arith, seen, some))

pub returns-in_default : goal.returns-in_default
returns-in_default g c =
    let s = c.self.inside in let none = sym c.self.view_is ∙ pool_empty s.nodes.items s.top s.count c.self.invariant
    c.in_default.is in (none, none)

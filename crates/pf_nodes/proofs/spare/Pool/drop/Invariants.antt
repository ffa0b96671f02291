use Rattle.pf_nodes.proofs.spare.Pool.drop.Given as goal

abbrev pub decreases-loop-node : goal.decreases-loop-node
decreases-loop-node g l = l.self

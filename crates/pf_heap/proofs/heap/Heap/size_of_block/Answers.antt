use Rattle.std.proofs.Common.{rules, ◌≡◌, ◌+◌, ◌<◌, ◌∷◌, max, ap, arith}
use Rattle.std.proofs.lemmas.Grind.{common_steps}
use Rattle.std.proofs.lemmas.List.Elements.{All-rest}
use Rattle.pf_terms.specs.Value.{nodes_in, depth_in}
use Rattle.pf_terms.specs.declared.limits.TheConstants.{MOST_DEPTH, MOST_NODES}
use Rattle.pf_heap.specs.Heap.{word_values, IsWordOf}
use Rattle.pf_heap.proofs.heap.Heap.size_of_block.Goals as goal

pub loop-first-preserved : goal.loop-first-preserved
loop-first-preserved c =
    let h = c.args.self.now in
    let inv = c.loop-first.invariant in
    let first = c.in-Some.first.now in
    let others = c.in-Some.others.now in
    let split : c.loop-first.rest.now ≡ first ∷ others = first_of (search rules, grind (arith, common_steps)) in
    let fits : (c.loop-first.nodes + c.nodes-nodes.result < MOST_NODES) × (c.max-depth.result < MOST_DEPTH) =
    first_of (search rules, grind (arith, common_steps)) in
    let nodes = ap (λ ws. nodes_in (word_values h ws)) split in
    let depth = ap (λ ws. depth_in (word_values h ws)) split in
    let deeper : c.max-depth.result ≡ max c.loop-first.depth c.depth.result =
    first_of (search rules, grind (arith, common_steps)) in
    record {
      nodes_is = omega (arith, nodes, inv.nodes_is, c.nodes-nodes.ensures.value);
      depth_is = omega (arith, deeper, depth, inv.depth_is, c.depth.ensures.value);
      nodes_in_range = fits.0;
      depth_in_range = fits.1;
      words = All-rest (IsWordOf h) first others c.loop-first.rest.now split inv.words;
    }

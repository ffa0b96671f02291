use Rattle.std.proofs.Common.{◌≡◌, ◌≤◌, Ok, sym, ap, ◌∙◌, arith}
use Rattle.pf_terms.specs.Value.{int, nodes, tuple}
use Rattle.pf_terms.specs.Term.{value_of}
use Rattle.pf_terms.specs.declared.limits.TheConstants.{MOST_NODES}
use Rattle.pf_ops.specs.Operations.{tuple_length}
use Rattle.pf_ops.proofs.Counted.{size_is}
use Rattle.pf_ops.proofs.builtins.tuple_size.Goals as goal

pub returns-in-Tuple : goal.returns-in-Tuple
returns-in-Tuple c =
    let is : value_of c.args.value.now ≡ tuple c.deref.result.now = ap value_of c.in-Tuple.is
    ∙ ap tuple (sym c.deref.ensures) in
    let small : nodes (tuple c.deref.result.now) ≤ MOST_NODES = omega (arith, ap nodes is) in
    ap (λ z. Ok (int z)) (size_is c.as_slice.result.now c.deref.result.now c.as_slice.ensures small)
    ∙ ap tuple_length (sym is)

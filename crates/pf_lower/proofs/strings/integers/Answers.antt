use Rattle.std.proofs.Common.{◌∙◌, ap, arith}
use Rattle.pf_terms.specs.Term.{values_of}
use Rattle.pf_lower.proofs.Lists_put.{codes_more}
use Rattle.pf_lower.proofs.strings.integers.Goals as goal

pub loop-code-preserved : goal.loop-code-preserved
loop-code-preserved c =
    ap values_of c.in_ok-push.ensures.items
    ∙ codes_more c.loop-code.terms.items c.args.codes.now c.loop-code.code-index c.integer.result (omega arith)
    c.integer.ensures c.loop-code.invariant

use Rattle.std.proofs.Common.{map, arith}
use Rattle.pf_terms.specs.Term.{value_of}
use Rattle.pf_compile_patterns.proofs.Grown.{pushed}
use Rattle.pf_compile_patterns.proofs.maker.Maker.push.Goals as goal

pub returns : goal.returns
returns c =
    let s = c.args.self.now in
    pushed s.instructions.items _ (map value_of s.constants.items) c.args.instruction c.in_ok-pc.pc
    c.in_ok-push.ensures.items (omega arith)

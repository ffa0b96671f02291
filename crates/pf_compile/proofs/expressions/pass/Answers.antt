use Rattle.std.proofs.Common.{subst}
use Rattle.pf_compile_patterns.specs.Maker.{code_of}
use Rattle.pf_compile_patterns.specs.Growth.{Pushed}
use Rattle.pf_compile_patterns.proofs.Grown.{by_ok}
use Rattle.pf_compile.proofs.Clauses.{passes_over}
use Rattle.pf_compile.proofs.expressions.pass.Goals as goal

pub returns : goal.returns
returns c =
    by_ok _ _ _ c.push.ensures
    (λ pc h. passes_over (code_of c.args.maker.now) (code_of c.push.new.self) c.args.register pc c.requires
    (subst (λ i. Pushed (code_of c.args.maker.now) (code_of c.push.new.self) i pc) c.free.ensures h))

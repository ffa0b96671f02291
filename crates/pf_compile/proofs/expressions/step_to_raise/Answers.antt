use Rattle.pf_compile_patterns.specs.Maker.{code_of}
use Rattle.pf_compile_patterns.proofs.Grown.{by_ok}
use Rattle.pf_compile.proofs.Evaluated.{steps_to_raise}
use Rattle.pf_compile.proofs.expressions.step_to_raise.Goals as goal

pub returns : goal.returns
returns c =
    by_ok _ _ _ c.push.ensures
    (λ pc h. steps_to_raise (code_of c.args.maker.now) (code_of c.push.new.self) c.args.atom.0 pc c.requires h)

use Rattle.pf_code.specs.Registers.{reg}
use Rattle.pf_compile_patterns.specs.Maker.{code_of}
use Rattle.pf_compile_patterns.proofs.Grown.{by_ok}
use Rattle.pf_compile.proofs.Evaluated.{value_given}
use Rattle.pf_compile.proofs.expressions.give_register.Goals as goal

pub returns : goal.returns
returns c =
    by_ok _ _ _ c.load.ensures
    (λ pc h. value_given (code_of c.args.maker.now) (code_of c.land.new.maker) (code_of c.load.new.self) c.args.to.into
    c.in_ok-next.next pc c.args.to.after (λ r. reg r c.args.register) c.in_ok-next.ensures h)

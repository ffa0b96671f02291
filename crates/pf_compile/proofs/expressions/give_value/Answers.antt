use Rattle.pf_terms.specs.Term.{value_of}
use Rattle.pf_compile_patterns.specs.Maker.{code_of}
use Rattle.pf_compile_patterns.proofs.Grown.{by_ok}
use Rattle.pf_compile.proofs.Evaluated.{value_given}
use Rattle.pf_compile.proofs.expressions.give_value.Goals as goal

pub returns : goal.returns
returns c =
    by_ok _ _ _ c.load_value.ensures
    (λ pc h. value_given (code_of c.args.maker.now) (code_of c.land.new.maker) (code_of c.load_value.new.self)
    c.args.to.into c.in_ok-next.next pc c.args.to.after (λ r. value_of c.args.value) c.in_ok-next.ensures h)

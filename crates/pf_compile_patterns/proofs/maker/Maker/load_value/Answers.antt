use Rattle.pf_terms.specs.Term.{value_of}
use Rattle.pf_compile_patterns.specs.Maker.{code_of}
use Rattle.pf_compile_patterns.proofs.Grown.{by_ok}
use Rattle.pf_compile_patterns.proofs.Guarded.{loads_constant}
use Rattle.pf_compile_patterns.proofs.maker.Maker.load_value.Goals as goal

pub returns : goal.returns
returns c =
    by_ok _ _ _ c.put.ensures
    (λ pc h. loads_constant (code_of c.args.self.now) (code_of c.constant.new.self) (code_of c.put.new.self)
    (value_of c.args.value) c.in_ok-constant.constant c.args.free c.args.next pc c.requires c.in_ok-constant.ensures h)

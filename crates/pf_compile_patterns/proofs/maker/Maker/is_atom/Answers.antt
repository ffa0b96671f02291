use Rattle.pf_compile_patterns.specs.Maker.{code_of}
use Rattle.pf_compile_patterns.proofs.Grown.{by_ok}
use Rattle.pf_compile_patterns.proofs.Guarded.{asks_atom}
use Rattle.pf_compile_patterns.proofs.maker.Maker.is_atom.Goals as goal

pub returns : goal.returns
returns c =
    by_ok _ _ _ c.test.ensures
    (λ pc h. asks_atom (code_of c.args.self.now) (code_of c.constant.new.self) (code_of c.test.new.self) c.args.register
    c.args.id.0 c.in_ok-constant.constant c.args.exits pc c.requires c.in_ok-constant.ensures h)

use Rattle.pf_compile_patterns.specs.Maker.{code_of}
use Rattle.pf_compile_patterns.proofs.Grown.{by_ok}
use Rattle.pf_compile_patterns.proofs.Guarded.{tests}
use Rattle.pf_compile_patterns.proofs.maker.Maker.test.Goals as goal

pub returns : goal.returns
returns c =
    by_ok _ _ _ c.put.ensures
    (λ pc h. tests (code_of c.args.self.now) (code_of c.put.new.self) c.args.operation c.args.exits pc c.requires h)

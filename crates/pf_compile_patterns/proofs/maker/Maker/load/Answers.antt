use Rattle.pf_compile_patterns.specs.Maker.{code_of}
use Rattle.pf_compile_patterns.proofs.Grown.{by_ok}
use Rattle.pf_compile_patterns.proofs.Guarded.{loads_register}
use Rattle.pf_compile_patterns.proofs.maker.Maker.load.Goals as goal

pub returns : goal.returns
returns c =
    by_ok _ _ _ c.put.ensures
    (λ pc h. loads_register (code_of c.args.self.now) (code_of c.put.new.self) c.args.register c.args.free c.args.next
    pc c.requires h)

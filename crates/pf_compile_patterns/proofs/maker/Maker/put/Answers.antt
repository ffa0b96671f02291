use Rattle.pf_compile_patterns.specs.Maker.{code_of}
use Rattle.pf_compile_patterns.proofs.Grown.{put, by_ok}
use Rattle.pf_compile_patterns.proofs.maker.Maker.put.Goals as goal

pub returns : goal.returns
returns c =
    by_ok _ _ _ c.push.ensures
    (λ pc h. put (code_of c.args.self.now) (code_of c.reach.new.self) (code_of c.push.new.self) c.args.instruction
    c.args.next pc c.in_ok-reach.ensures h)

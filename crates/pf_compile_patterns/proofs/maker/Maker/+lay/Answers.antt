use Rattle.std.proofs.Common.{arith}
use Rattle.pf_compile_patterns.specs.Maker.{code_of}
use Rattle.pf_compile_patterns.proofs.Grown.{by_ok}
use Rattle.pf_compile_patterns.proofs.Laid.{lays_at}
use Rattle.pf_compile_patterns.proofs.maker.Maker.+lay.Goals as goal

pub returns-in_ok-next-in-len1-up : goal.returns-in_ok-next-in-len1-up
returns-in_ok-next-in-len1-up t c =
    by_ok _ _ _ c.put.ensures
    (λ pc h. lays_at (code_of c.args.self.now) (code_of c.lay.new.self) (code_of c.put.new.self) c.args.tests.now _
    c.args.next c.in_ok-next-in-len1-up.next c.args.otherwise pc (omega arith) c.requires.otherwise_there
    c.in_ok-next-in-len1-up.ensures h)

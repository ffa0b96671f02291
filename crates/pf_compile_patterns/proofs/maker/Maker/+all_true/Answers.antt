use Rattle.std.proofs.Common.{arith}
use Rattle.pf_compile_patterns.specs.Maker.{code_of}
use Rattle.pf_compile_patterns.proofs.Grown.{by_ok}
use Rattle.pf_compile_patterns.proofs.Slices.{asks_all_at}
use Rattle.pf_compile_patterns.proofs.maker.Maker.+all_true.Goals as goal

pub returns-in_ok-next-in-len1-up : goal.returns-in_ok-next-in-len1-up
returns-in_ok-next-in-len1-up t c =
    by_ok _ _ _ c.is_true.ensures
    (λ pc h. asks_all_at c.args.scope.now c.args.parts.now _ c.args.exits (code_of c.args.self.now)
    (code_of c.all_true.new.self) (code_of c.is_true.new.self) c.in_ok-next-in-len1-up.next pc (omega arith)
    c.requires.slots_below c.in_ok-next-in-len1-up.ensures h)

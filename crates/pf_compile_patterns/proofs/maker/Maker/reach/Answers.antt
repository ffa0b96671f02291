use Rattle.pf_compile_patterns.specs.Maker.{code_of}
use Rattle.pf_compile_patterns.proofs.Grown.{reached_by_jump}
use Rattle.pf_compile_patterns.proofs.maker.Maker.reach.Goals as goal

pub returns-in_ok-push : goal.returns-in_ok-push
returns-in_ok-push c =
    reached_by_jump (code_of c.args.self.now) (code_of c.push.new.self) c.args.next _ c.requires c.in_ok-push.ensures

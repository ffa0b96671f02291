use Rattle.pf_syntax.specs.Over.{part_over}
use Rattle.pf_compile_patterns.specs.Maker.{code_of}
use Rattle.pf_compile_patterns.specs.Scopes.{tables_in}
use Rattle.pf_compile_patterns.proofs.Grown.{by_ok}
use Rattle.pf_compile_patterns.proofs.Guarded.{asks_true}
use Rattle.pf_compile_patterns.proofs.maker.Maker.is_true.Goals as goal

pub returns : goal.returns
returns c =
    by_ok _ _ _ c.worth.ensures
    (λ pc h. asks_true c.args.scope.now (part_over (tables_in c.args.scope.now) c.args.part) c.args.exits
    (code_of c.args.self.now) (code_of c.is_atom.new.self) (code_of c.worth.new.self) c.in_ok-next.next pc
    c.in_ok-next.ensures h)

use Rattle.pf_compile_patterns.specs.Maker.{code_of}
use Rattle.pf_compile_patterns.proofs.Grown.{by_ok}
use Rattle.pf_compile_patterns.proofs.Guarded.{tells_truth_by}
use Rattle.pf_compile_patterns.proofs.maker.Maker.truth.Goals as goal

pub returns : goal.returns
returns c =
    by_ok _ _ _ c.is_atom-2.ensures
    (λ pc h. tells_truth_by c.args.decides c.args.other c.args.exits (code_of c.args.self.now)
    (code_of c.is_atom.new.self)
    (code_of c.is_atom-2.new.self) c.in_ok-is_false.is_false pc _ _ c.either.ensures c.either-2.ensures
    c.in_ok-is_false.ensures h)

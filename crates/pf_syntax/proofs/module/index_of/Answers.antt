use Rattle.std.proofs.Common.{rules, tests, ◌==◌, ◌&&◌}
use Rattle.std.proofs.lemmas.Iterator.{YieldsList-from_slice}
use Rattle.std.proofs.lemmas.Iterator.Search.{position_from_yields_List}
use Rattle.pf_syntax.proofs.module.index_of.Goals as goal

pub returns : goal.returns
returns c = position_from_yields_List (λ f. (f.name.0 == c.args.name.0) && (f.arity == c.args.arity)) _ _ _
    c.position.ensures.ran (YieldsList-from_slice c.args.functions.now cc) (λ x b q k. search (rules, tests))

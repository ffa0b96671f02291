use Rattle.pf_static_check.proofs.Passing.{binds}
use Rattle.std.proofs.Common.{refl}
use Rattle.pf_static_check.proofs.walk.ClauseWalk.expr_pattern_variable.Goals as goal

pub returns : goal.returns
returns c = binds _ c.safe.new.self _ c.args.ident.name.0 c.args.ident.offset c.safe.ensures c.in_ok-bind.ensures refl

-- Where a machine begins.
use Rattle.std.specs.Prelude.{◌≡◌, List, []}
use Rattle.pf_terms.specs.declared.term.Term.{Term}
use Rattle.pf_stepper.specs.declared.stack.Stack.{Stack}

-- stacks that have these operands alone
pub record BeginsWith (ws : List Term) (s : Stack) : Type 0 where
  pub slots : s.env.items ≡ []
  pub operands : s.operands.items ≡ ws
  pub frames : s.frames.items ≡ []
  pub base : s.base ≡ 0

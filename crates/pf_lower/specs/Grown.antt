-- What building adds to a module: its tables go on where they ended, and all else stays.
use Rattle.std.specs.Prelude.{◌≡◌}
use Rattle.pf_syntax.specs.Module.{Checked, pattern_at}
use Rattle.pf_syntax.specs.Pattern.{Pattern}
use Rattle.pf_syntax.specs.Tree.{Tree}
use Rattle.pf_syntax.specs.Over.{part_over}
use Rattle.pf_syntax.specs.Within.{PatternRepresents, OperandRepresents}
use Rattle.pf_syntax.proofs.Extends.{Extends}
use Rattle.pf_syntax.specs.declared.node.PatternId.{PatternId}
use Rattle.pf_syntax.specs.declared.node.Operand.{Operand}

pub record Grown (old new : Checked) : Type 0 where
  pub name : new.name ≡ old.name
  pub atoms : new.atoms ≡ old.atoms
  pub functions : new.functions ≡ old.functions
  pub tables : Extends old.tables new.tables

-- a pattern is in the tables now
pub record PatternPut (old new : Checked) (y : Pattern) (q : PatternId) : Type 0 where
  pub grown : Grown old new
  pub is_there : PatternRepresents new.tables q
  pub is : pattern_at new.tables q.0 ≡ y

-- a tree is in the tables now
pub record PartPut (old new : Checked) (y : Tree) (x : Operand) : Type 0 where
  pub grown : Grown old new
  pub is_there : OperandRepresents new.tables x
  pub is : part_over new.tables x ≡ y

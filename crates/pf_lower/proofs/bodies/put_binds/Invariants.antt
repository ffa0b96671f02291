use Rattle.std.proofs.Common.{◌≡◌, vec_len}
use Rattle.std.specs.List.{All}
use Rattle.pf_syntax.specs.Over.{part_over}
use Rattle.pf_syntax.specs.Within.{OperandRepresents}
use Rattle.pf_lower.specs.Bodies.{bound_elements, ElementRepresents}
use Rattle.pf_lower.specs.Grown.{Grown}
use Rattle.pf_lower.proofs.bodies.put_binds.Given as goal

abbrev pub decreases-loop-element : goal.decreases-loop-element
decreases-loop-element l = vec_len l.front

abbrev pub invariant-loop-element : goal.invariant-loop-element
invariant-loop-element l = record {
  grown : Grown l.initial.module l.module;
  all : All (ElementRepresents l.initial.module.tables) l.front.items;
  is_there : OperandRepresents l.module.tables l.body;
  is : bound_elements l.initial.module.tables l.front.items (part_over l.module.tables l.body)
      ≡ bound_elements l.initial.module.tables l.initial.front.items (part_over l.initial.module.tables l.initial.body);
}

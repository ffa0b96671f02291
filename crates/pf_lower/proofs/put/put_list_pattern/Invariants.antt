use Rattle.std.proofs.Common.{◌≡◌, vec_len}
use Rattle.std.specs.List.{All}
use Rattle.pf_syntax.specs.Module.{pattern_at}
use Rattle.pf_syntax.specs.Over.{patterns_at}
use Rattle.pf_syntax.specs.Naming.{conses_of}
use Rattle.pf_syntax.specs.Within.{PatternRepresents}
use Rattle.pf_lower.specs.Grown.{Grown}
use Rattle.pf_lower.proofs.put.put_list_pattern.Given as goal

abbrev pub decreases-loop-element : goal.decreases-loop-element
decreases-loop-element l = vec_len l.front

abbrev pub invariant-loop-element : goal.invariant-loop-element
invariant-loop-element l = record {
  grown : Grown l.initial.module l.module;
  all : All (PatternRepresents l.initial.module.tables) l.front.items;
  is_there : PatternRepresents l.module.tables l.list;
  is : conses_of (patterns_at l.initial.module.tables l.front.items) (pattern_at l.module.tables l.list.0)
      ≡ conses_of (patterns_at l.initial.module.tables l.initial.front.items)
      (pattern_at l.initial.module.tables l.initial.list.0);
}

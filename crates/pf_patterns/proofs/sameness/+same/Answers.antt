use Rattle.std.proofs.Common.{◌≡◌, ◌<◌, ◌≤◌, List, [], ◌∷◌, length, false, refl, arith}
use Rattle.pf_syntax.specs.Module.{Tables}
use Rattle.pf_syntax.specs.Over.{patterns_at}
use Rattle.pf_syntax.specs.declared.node.PatternId.{PatternId}
use Rattle.pf_patterns.specs.Sameness.{same_each}
use Rattle.pf_patterns.proofs.sameness.+same.Goals as goal

-- no patterns are not some patterns
none_is_not_some : (t u : Tables) (ps qs : List PatternId) → length ps < 1 → 1 ≤ length qs
    → false ≡ same_each (patterns_at t ps) (patterns_at u qs)
none_is_not_some t u [] [] h k = absurd (omega arith)
none_is_not_some t u [] (q ∷ qs) h k = refl
none_is_not_some t u (p ∷ ps) qs h k = absurd (omega arith)

pub same_parts-returns-in-len1-up-others : goal.same_parts-returns-in-len1-up-others
same_parts-returns-in-len1-up-others t c =
    none_is_not_some c.args.a.now.tables c.args.b.now.tables c.args.parts.now c.args.others.now
    (omega arith) (omega arith)

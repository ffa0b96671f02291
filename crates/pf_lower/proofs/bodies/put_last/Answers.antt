use Rattle.std.proofs.Common.{◌≡◌, ◌<◌, List, [], ◌∷◌, length, refl, subst, arith, rules, tests}
use Rattle.pf_syntax.specs.Naming.{ending}
use Rattle.pf_syntax.specs.Tree as tr
use Rattle.pf_syntax.specs.Tree.{Tree}
use Rattle.pf_syntax.specs.Module.{Tables}
use Rattle.pf_syntax.specs.Over.{patterns_at, part_over}
use Rattle.pf_syntax.specs.declared.node.PatternId.{PatternId}
use Rattle.pf_lower.specs.Grown.{PartPut}
use Rattle.pf_lower.proofs.Growing.{by_ok}
use Rattle.pf_lower.proofs.bodies.put_last.Goals as goal

-- with a pattern it is a match
ending_is : (t : Tables) (ps : List PatternId) (x : Tree) → 0 < length ps
    → tr.match (patterns_at t ps) x ≡ ending (patterns_at t ps) x
ending_is t [] x h = absurd (omega arith)
ending_is t (p ∷ ps) x h = refl

pub returns : goal.returns
returns c =
    let t = c.args.module.now.tables in
    let some : 0 < length c.args.element.patterns.items = search (rules, tests) in
    by_ok _ _ _ c.put_node.ensures
    (λ x h. subst (λ y. PartPut c.args.module.now c.put_node.new.module y x)
    (ending_is t c.args.element.patterns.items (part_over t c.args.element.value) some) h)

use Rattle.std.proofs.Common.{◌≡◌, drop, map}
use Rattle.pf_json.specs.Facts.{facts_by_first}
use Rattle.pf_json.specs.Views.{view_of_part}
use Rattle.pf_json.proofs.parts.facts_by_first.Given as goal

-- the line has none of the shapes so far
abbrev pub invariant-loop-shape : goal.invariant-loop-shape
invariant-loop-shape l =
    facts_by_first (map (λ s. map view_of_part s.now) l.shapes) l.line
    ≡ facts_by_first (map (λ s. map view_of_part s.now) (drop l.shape-index l.shapes)) l.line

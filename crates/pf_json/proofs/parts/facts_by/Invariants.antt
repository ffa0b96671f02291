use Rattle.std.proofs.Common.{◌≡◌, drop, map}
use Rattle.pf_json.specs.Facts.{facts_by}
use Rattle.pf_json.specs.Views.{view_of_part, views_of}
use Rattle.pf_json.proofs.After.{following}
use Rattle.pf_json.proofs.parts.facts_by.Given as goal

-- the line's facts are those so far, and those of what is left by the parts that are left
abbrev pub invariant-loop-part : goal.invariant-loop-part
invariant-loop-part l =
    facts_by (map view_of_part l.shape) l.line ≡ following (views_of l.facts.items)
    (facts_by (map view_of_part (drop l.part-index l.shape)) l.rest)

use Rattle.std.proofs.Common.{◌≡◌, ◌++◌, take}
use Rattle.std.specs.Prelude.{flat_map}
use Rattle.pf_svg.specs.Document.{part_text}
use Rattle.pf_svg.proofs.part.put_parts.Given as goal

-- the parts so far have gone out
abbrev pub invariant-loop-part : goal.invariant-loop-part
invariant-loop-part l = l.out.items ≡ l.fn.out.items ++ flat_map part_text (take l.part-index l.parts)

use Rattle.std.proofs.Common.{◌≡◌, ◌++◌, drop}
use Rattle.pf_json.specs.Lines.{held_after, objects_from}
use Rattle.pf_json.specs.Writers.{view_of_held}
use Rattle.pf_json.proofs.lines.turn.Given as goal

-- the objects are those so far, and those of what is left after what is held
abbrev pub invariant-loop-byte : goal.invariant-loop-byte
invariant-loop-byte l =
    record {
      objects : objects_from (view_of_held l.held) l.text
          ≡ l.out.items ++ objects_from (record { place = l.place; line = l.line.items }) (drop l.byte-index l.text);
      held : held_after (view_of_held l.held) l.text ≡ held_after (record { place = l.place; line = l.line.items })
          (drop l.byte-index l.text);
    }

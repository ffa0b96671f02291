use Rattle.std.proofs.Common.{◌≡◌, ◌++◌, length, map}
use Rattle.pf_tokens.specs.Rules.{IsOrdered}
use Rattle.pf_tokens.specs.TokenKinds.{placed_of}
use Rattle.pf_positions.specs.Written.{line_at, signs_of}
use Rattle.pf_positions.proofs.written.signs_of.Given as goal

-- the signs of the tokens after it are left, and the line is that of the last token
abbrev pub invariant-loop-first : goal.invariant-loop-first
invariant-loop-first l = record {
  found_are : l.found.items ++ signs_of l.source (map placed_of l.rest) ≡ signs_of l.source (map placed_of l.tokens);
  line_is : l.line ≡ line_at l.source l.offset;
  are_ordered : IsOrdered l.offset (map placed_of l.rest) (length l.source);
}

abbrev pub decreases-loop-first : goal.decreases-loop-first
decreases-loop-first l = length l.rest

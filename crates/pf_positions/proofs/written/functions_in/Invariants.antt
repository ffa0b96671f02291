use Rattle.std.proofs.Common.{◌≡◌, false, length, map}
use Rattle.pf_tokens.specs.TokenKinds.{placed_of}
use Rattle.pf_positions.specs.Written.{functions_in}
use Rattle.pf_positions.proofs.written.functions_in.Given as goal

-- what is left has the tokens of the functions
abbrev pub invariant-loop-first : goal.invariant-loop-first
invariant-loop-first l = functions_in l.within (map placed_of l.rest) ≡ functions_in false (map placed_of l.tokens)

abbrev pub decreases-loop-first : goal.decreases-loop-first
decreases-loop-first l = length l.rest

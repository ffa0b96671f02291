use Rattle.std.proofs.Common.{◌≡◌, length, map}
use Rattle.pf_tokens.specs.TokenKinds.{placed_of}
use Rattle.pf_cli_messages.specs.Lacked.{lacked}
use Rattle.pf_cli_messages.proofs.lacking.lacked.Given as goal

-- what is left lacks the same atom first
abbrev pub invariant-loop-first : goal.invariant-loop-first
invariant-loop-first l = lacked l.atoms (map placed_of l.rest) ≡ lacked l.fn.atoms (map placed_of l.fn.found)

abbrev pub decreases-loop-first : goal.decreases-loop-first
decreases-loop-first l = length l.rest

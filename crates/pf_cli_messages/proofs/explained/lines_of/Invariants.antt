use Rattle.std.proofs.Common.{ℕ, List, ◌++◌, drop}
use Rattle.pf_cli_messages.specs.Explained.{AreStatusLines}
use Rattle.pf_cli_messages.proofs.explained.lines_of.Given as goal

-- with the lines of the others after it the text has all lines
abbrev pub invariant-loop-standing : goal.invariant-loop-standing
invariant-loop-standing l =
    (rest : List ℕ) → AreStatusLines l.run l.places (drop l.standing-index l.standings) rest
    → AreStatusLines l.run l.places l.standings (l.text.items ++ rest)

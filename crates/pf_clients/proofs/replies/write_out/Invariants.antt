use Rattle.std.proofs.Common.{◌≡◌, ℕ, List, ◌++◌, length}
use Rattle.std.specs.Io.KnownBytes.{Appends}
use Rattle.pf_clients.proofs.replies.write_out.Given as goal

-- what was written so far, and what is left, are the text
abbrev pub invariant-rest : goal.invariant-rest
invariant-rest g l =
    let contents = g.W.Write.contents in
    record {
      wrote : (front : List ℕ) × (l.text ≡ front ++ l.rest) × Appends (contents l.fn.writer) (contents l.writer) front;
    }

abbrev pub decreases-rest : goal.decreases-rest
decreases-rest g l = length l.rest

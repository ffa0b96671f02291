use Rattle.std.proofs.Common.{◌≡◌, ◌≤◌, ◌<◌, ◌+◌, ◌-◌, ℕ, List, length, false}
use Rattle.std.specs.Prelude.{if◌then◌else◌}
use Rattle.pf_clients.specs.Replies.{Takes}
use Rattle.pf_clients.proofs.Lines.{Reached}
use Rattle.pf_wire.specs.declared.steps.TheConstants.{MOST_BYTES}
use Rattle.pf_clients.proofs.client.Client.answer_lines.Given as goal

-- what was read is answered up to what is kept of it
abbrev pub invariant-lines : goal.invariant-lines
invariant-lines g l =
    let remaining = g.S.File.Read.remaining in
    record {
      reached : (text : List ℕ) × Reached l.is_over l.fn.self.seat l.self.seat l.input.bytes.items l.number
          l.input.taken (remaining l.fn.file) (remaining l.reader.inner) text
          × Takes g.W.Write.contents l.fn.self.replies l.self.replies l.fn.self.reported.items l.self.reported.items
          text;
      within : l.number + length l.input.bytes.items ≤ l.input.taken + 1;
      most : l.input.taken ≤ MOST_BYTES;
      more : l.is_over ≡ false → l.input.taken < MOST_BYTES;
    }

abbrev pub decreases-lines : goal.decreases-lines
decreases-lines g l =
    (MOST_BYTES - l.input.taken) + (MOST_BYTES - l.input.taken) + length l.input.bytes.items
    + (if l.is_over then 0 else 1)

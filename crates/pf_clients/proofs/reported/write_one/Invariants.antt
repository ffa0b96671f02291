use Rattle.std.proofs.Common.{◌≡◌, [], take}
use Rattle.pf_wire.proofs.Leaving.{IsAdded}
use Rattle.pf_clients.specs.Texts.{reported_text}
use Rattle.pf_clients.proofs.reported.write_one.Given as goal

-- what was written, and after it what is gathered, is the text of the replies so far
abbrev pub invariant-replies : goal.invariant-replies
invariant-replies g l =
    let contents = g.W.Write.contents in
    record {
      so_far : IsAdded [] (reported_text (take l.reply-index l.reported)) l.gathered.text.items
          (contents l.fn.writer.inner)
          (contents l.writer.inner);
      same : l.writer.failures.total ≡ l.fn.writer.failures.total;
    }

use Rattle.std.proofs.Common.{map}
use Rattle.pf_model.specs.Reports.{view_of_event}
use Rattle.pf_chart.specs.Receipts.{AreMailboxes}
use Rattle.pf_chart.proofs.receipts.receipts_of.Given as goal

-- the mailboxes after the events so far
abbrev pub invariant-loop-row : goal.invariant-loop-row
invariant-loop-row l = AreMailboxes (map view_of_event l.events) l.columns l.row l.mailboxes

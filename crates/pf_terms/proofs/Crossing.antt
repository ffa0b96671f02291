-- Terms may go to another thread, and be shared by threads.
use denote.Param.Send.{IsSend, IsSync, recorded_send, recorded_sync, sendable}
use Rattle.std.proofs.Crossing as heap
use Rattle.pf_terms.proofs.term.Cell.TheLaws.TheKnot as knot
use Rattle.pf_terms.specs.contracts.term.Term as Term

pub term_field_send : IsSend (Term.the_field).row
term_field_send = search (heap.crosses, knot.crosses, sendable) depth 60

pub term_field_sync : IsSync (Term.the_field).row
term_field_sync = search (heap.crosses, knot.crosses, sendable) depth 60

pub term_send : IsSend Term.the_row
term_send = recorded_send (Term.the_field).row _ _ (Term.the_type).to_one term_field_send

pub term_sync : IsSync Term.the_row
term_sync = recorded_sync (Term.the_field).row _ _ (Term.the_type).to_one term_field_sync

pub ruleset crosses = (term_field_send, term_field_sync, term_send, term_sync)

use Rattle.pf_hunt.proofs.Finding.{HasItsHash, IsFirstFrom, end_of}
use Rattle.pf_hunt.proofs.tally.Tally.index_of.Given as goal

-- of the rows that were looked at the first that is like it was chosen, and the next one has its hash
abbrev pub invariant-loop-at : goal.invariant-loop-at
invariant-loop-at l = record {
  hash : HasItsHash l.self.rows.items l.row l.at;
  first : IsFirstFrom l.self.rows.items l.row (end_of l.at) l.first;
}

abbrev pub decreases-loop-at : goal.decreases-loop-at
decreases-loop-at l = end_of l.at

use Rattle.pulsefarm.proofs.all.Given as goal

-- each end's ledger is named by its own blank
abbrev pub ghosts-try_all-L-Ledger : goal.ghosts-try_all-L-Ledger
ghosts-try_all-L-Ledger g a = record { name = a.reads.name; parts = a.reads.parts }

abbrev pub ghosts-try_all-M-Ledger : goal.ghosts-try_all-M-Ledger
ghosts-try_all-M-Ledger g a = record { name = a.writes.name; parts = a.writes.parts }

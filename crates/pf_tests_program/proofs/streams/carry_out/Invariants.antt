use Rattle.pf_tests_program.proofs.streams.carry_out.Given as goal

-- each end's ledger is named by its own blank
abbrev pub ghosts-carry_out_by-L-Ledger : goal.ghosts-carry_out_by-L-Ledger
ghosts-carry_out_by-L-Ledger a = record { name = a.reads.name; parts = a.reads.parts }

abbrev pub ghosts-carry_out_by-M-Ledger : goal.ghosts-carry_out_by-M-Ledger
ghosts-carry_out_by-M-Ledger a = record { name = a.writes.name; parts = a.writes.parts }

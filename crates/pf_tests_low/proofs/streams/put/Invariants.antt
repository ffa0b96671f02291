use Rattle.pf_tests_low.proofs.streams.put.Given as goal

abbrev pub ghosts-put_by : goal.ghosts-put_by
ghosts-put_by a = record { name = a.blank.name; parts = a.blank.parts }

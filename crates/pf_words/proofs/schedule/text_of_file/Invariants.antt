use Rattle.pf_words.proofs.schedule.text_of_file.Given as goal

-- the ledger of the file is named by its blank
abbrev pub ghosts-text_in : goal.ghosts-text_in
ghosts-text_in g a = record { name = a.reads.name; parts = a.reads.parts }

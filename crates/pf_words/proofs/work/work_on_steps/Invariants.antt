use Rattle.pf_words.proofs.work.work_on_steps.Given as goal

-- the ledger of the file is named by its blank
abbrev pub ghosts-answer_file : goal.ghosts-answer_file
ghosts-answer_file g a = record { name = a.reads.name; parts = a.reads.parts }

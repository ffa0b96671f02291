use Rattle.pf_words.proofs.words.obey.Given as goal

-- the ledger of what is written is named by its blank
abbrev pub ghosts-work_in_json : goal.ghosts-work_in_json
ghosts-work_in_json g a = record { name = a.writes.name; parts = a.writes.parts }

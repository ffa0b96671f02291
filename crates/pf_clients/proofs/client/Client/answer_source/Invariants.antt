use Rattle.pf_clients.proofs.client.Client.answer_source.Given as goal

-- the ledger of the file is named by its blank
abbrev pub ghosts-answer_lines : goal.ghosts-answer_lines
ghosts-answer_lines g a = record { name = a.reads.name; parts = a.reads.parts }

use Rattle.pf_files.proofs.contents.bytes_of_file.Given as goal

-- the ledger of the file is named by its blank
abbrev pub ghosts-read_file : goal.ghosts-read_file
ghosts-read_file g a = record { name = a.reads.name; parts = a.reads.parts }

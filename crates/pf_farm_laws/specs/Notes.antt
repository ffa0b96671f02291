-- What a history notes: its calls, and that no file of it bears the mark of memory.
use Rattle.std.specs.Prelude.{◌≢◌, ℕ, List, [], ◌∷◌, All}
use Rattle.pf_request.specs.Calls.{Call}
use Rattle.pf_desks.specs.Desk.{Entry, called, claimed, filed, handed_back}
use Rattle.pf_desks.specs.declared.mark.FileMark.TheVariants.{Memory}

-- an entry isn't a file with the mark of memory
abbrev pub NotForMemory : Entry → Type 0
NotForMemory e = (t : ℕ) → e ≢ filed t Memory

-- no entry is one
abbrev pub NoneForMemory : List Entry → Type 0
NoneForMemory es = All NotForMemory es

-- the calls, in their order
abbrev pub calls_of : List Entry → List Call
calls_of [] = []
calls_of (called c r ∷ es) = c ∷ calls_of es
calls_of (claimed t ∷ es) = calls_of es
calls_of (filed t m ∷ es) = calls_of es
calls_of (handed_back t ∷ es) = calls_of es

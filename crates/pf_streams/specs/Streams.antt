-- What a reader or a writer does to the known bytes, and to its count of failed calls.
use Rattle.std.specs.Prelude.{◌≡◌, ℕ, ◌+◌, List, ◌++◌, Option, codes}
use Rattle.std.specs.Io.KnownBytes.{Appends}
use Rattle.pf_errors.specs.declared.fault.OrNoMemory.{OrNoMemory}
use Rattle.pf_errors.specs.declared.fault.OrNoMemory.TheVariants.{NoMemory, Fault}
use Rattle.pf_streams.specs.declared.stream.StreamFault.{StreamFault}
use Rattle.pf_streams.specs.declared.stream.StreamFault.TheVariants.{Read, Write}

-- the known bytes grow by a beginning of the text
abbrev pub AppendsFront : Option (List ℕ) → Option (List ℕ) → List ℕ → Type 0
AppendsFront old new text = (front : List ℕ) × (rest : List ℕ) × (text ≡ front ++ rest) × Appends old new front

-- a read failed, and it was counted
abbrev pub CountsRead : StreamFault → ℕ → ℕ → Type 0
CountsRead (Read e) old new = new ≡ old + 1
CountsRead (Write e) old new = ⊥

-- a write failed, and it was counted
abbrev pub CountsWrite : StreamFault → ℕ → ℕ → Type 0
CountsWrite (Read e) old new = ⊥
CountsWrite (Write e) old new = new ≡ old + 1

-- a read failed, and it was counted; or memory ran out, and no call failed
abbrev pub CountsReadOrNone : OrNoMemory StreamFault → ℕ → ℕ → Type 0
CountsReadOrNone NoMemory old new = new ≡ old
CountsReadOrNone (Fault f) old new = CountsRead f old new

-- memory ran out before anything was written; or a write failed and was counted, and a beginning of the text was
abbrev pub LeavesFront : OrNoMemory StreamFault → (text : List ℕ) → (written_old written_new : Option (List ℕ))
    → (failed_old failed_new : ℕ) → Type 0
LeavesFront NoMemory text w0 w1 n0 n1 = (w1 ≡ w0) × (n1 ≡ n0)
LeavesFront (Fault fault) text w0 w1 n0 n1 = AppendsFront w0 w1 text × CountsWrite fault n0 n1

-- which stream failed, as it is printed
abbrev pub stream_text : StreamFault → List ℕ
stream_text (Read e) = codes "the input can't be read"
stream_text (Write e) = codes "the output can't be written"

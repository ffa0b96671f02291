-- What is read and written, where it is defined which text answers which bytes.
use Rattle.std.specs.Prelude.{◌≡◌, ◌≤◌, ◌+◌, ℕ, List, length, take, Option, IfSome, Result, Ok, Err}
use Rattle.std.specs.Io.KnownBytes.{Appends, Consumes}
use Rattle.pf_errors.specs.declared.fault.OrNoMemory.{OrNoMemory}
use Rattle.pf_errors.specs.declared.fault.OrNoMemory.TheVariants.{NoMemory, Fault}
use Rattle.pf_streams.specs.Streams.{AppendsFront, CountsWrite}
use Rattle.pf_streams.specs.declared.stream.StreamFault.{StreamFault}
use Rattle.pf_streams.specs.declared.stream.StreamFault.TheVariants.{Read, Write}
use Rattle.pf_model.specs.TermText.{line}
use Rattle.pf_command.specs.declared.answer.Output.{Output}
use Rattle.pf_command.specs.declared.serving.TheConstants.{MOST_BYTES}

-- a reader and a writer: what is still to be read and what was written, if it is known, and how many calls of each
-- failed
pub record Streams : Type 0 where
  pub unread : Option (List ℕ)
  pub written : Option (List ℕ)
  pub failed_reads : ℕ
  pub failed_writes : ℕ

abbrev pub streams : (unread written : Option (List ℕ)) → (failed_reads failed_writes : ℕ) → Streams
streams unread written failed_reads failed_writes =
    record { unread = unread; written = written; failed_reads = failed_reads; failed_writes = failed_writes }

-- which texts and statuses answer which bytes
abbrev pub Answering : Type 1
Answering = (bytes text : List ℕ) → ℕ → Type 0

-- these are the first MOST_BYTES bytes of what was to be read, if it is known
abbrev pub AreRead : Streams → List ℕ → Type 0
AreRead s bytes = IfSome s.unread (λ input. bytes ≡ take MOST_BYTES input)

-- what was read is answered with the text that was written and the status
abbrev pub IsAnsweredSo : Answering → (old new : Streams) → ℕ → Type 0
IsAnsweredSo P old new status = (bytes : List ℕ) × (text : List ℕ) × AreRead old bytes × P bytes text status
    × Appends old.written new.written text

-- a beginning of the text of an answer was written
abbrev pub AnsweredInPart : Answering → (old new : Streams) → Type 0
AnsweredInPart P old new =
    (bytes : List ℕ) × (text : List ℕ) × (status : ℕ) × AreRead old bytes × P bytes text status
    × AppendsFront old.written new.written text

-- at most MOST_BYTES bytes were read
abbrev pub TakesBytes : (old new : Streams) → Type 0
TakesBytes old new = (bytes : List ℕ) × (length bytes ≤ MOST_BYTES) × Consumes old.unread new.unread bytes

-- no call failed
abbrev pub NoneFailed : (old new : Streams) → Type 0
NoneFailed old new = (new.failed_reads ≡ old.failed_reads) × (new.failed_writes ≡ old.failed_writes)

-- what a fault leaves: which stream failed once more, and what was written
abbrev pub Leaves : OrNoMemory StreamFault → Answering → (old new : Streams) → Type 0
Leaves NoMemory P old new = NoneFailed old new × (new.written ≡ old.written)
Leaves (Fault (Read e)) P old new = (new.failed_reads ≡ old.failed_reads + 1) × (new.failed_writes ≡ old.failed_writes)
    × (new.written ≡ old.written)
Leaves (Fault (Write e)) P old new = (new.failed_reads ≡ old.failed_reads) × (new.failed_writes ≡ old.failed_writes + 1)
    × AnsweredInPart P old new

-- a source is answered; or a stream failed or memory ran out, and a beginning of the answer was written
abbrev pub Serves : Answering → (old new : Streams) → Result ℕ (OrNoMemory StreamFault) → Type 0
Serves P old new (Ok status) = NoneFailed old new × IsAnsweredSo P old new status
Serves P old new (Err e) = Leaves e P old new

-- ---- within a command

-- what is written of a text that may be printed, with its status: all of it; or a beginning, where a write failed and
-- was counted
abbrev pub PrintsAnswer : (may : List ℕ → ℕ → Type 0) → (written_old written_new : Option (List ℕ))
    → (failed_old failed_new : ℕ) → Result ℕ StreamFault → Type 0
PrintsAnswer P w0 w1 n0 n1 (Ok status) = (text : List ℕ) × P text status × Appends w0 w1 text × (n1 ≡ n0)
PrintsAnswer P w0 w1 n0 n1 (Err f) = (text : List ℕ) × (status : ℕ) × P text status × AppendsFront w0 w1 text
    × CountsWrite f n0 n1

-- the same; or memory ran out before anything was written
abbrev pub Sends : (may : List ℕ → ℕ → Type 0) → (written_old written_new : Option (List ℕ))
    → (failed_old failed_new : ℕ) → Result ℕ (OrNoMemory StreamFault) → Type 0
Sends P w0 w1 n0 n1 (Ok status) = PrintsAnswer P w0 w1 n0 n1 (Ok status)
Sends P w0 w1 n0 n1 (Err NoMemory) = (w1 ≡ w0) × (n1 ≡ n0)
Sends P w0 w1 n0 n1 (Err (Fault f)) = PrintsAnswer P w0 w1 n0 n1 (Err f)

-- this holds of the text that was written, and of the status
abbrev pub WentOut : (P : List ℕ → ℕ → Type 0) → (written_old written_new : Option (List ℕ)) → ℕ → Type 0
WentOut P w0 w1 status = (text : List ℕ) × P text status × Appends w0 w1 text

-- this is the text of an answer, and its status
abbrev pub IsOutput : Output → List ℕ → ℕ → Type 0
IsOutput a text status = (text ≡ a.text.items) × (status ≡ a.status)

-- and these are words on a line of their own, with the status of what is refused
abbrev pub IsRefusedText : (words : List ℕ) → List ℕ → ℕ → Type 0
IsRefusedText words text status = (text ≡ line words) × (status ≡ 2)

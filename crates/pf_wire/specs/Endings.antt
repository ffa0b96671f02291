-- The line that is no command, and how it is reported.
use Rattle.std.specs.Prelude.{◌≡◌, ◌⊎◌, ℕ, zero, suc, ◌+◌, Bool, true, false, nat_le, List, [], ◌++◌, length, take}
use Rattle.std.specs.Prelude.{Option, Some, None, option_and_then}
use Rattle.std.specs.Io.KnownBytes.{Consumes, IsAtEnd}
use Rattle.pf_protocol.specs.Commands.{command_at, first_line}
use Rattle.pf_protocol.specs.Complete.{is_due}
use Rattle.pf_wire.specs.Steps.{AreRead}
use Rattle.pf_wire.specs.Turns.{MayFollow}
use Rattle.pf_wire.specs.declared.ending.RefusedLine.{RefusedLine}
use Rattle.pf_wire.specs.declared.ending.InputEnd.{InputEnd}
use Rattle.pf_wire.specs.declared.steps.TheConstants.{MOST_BYTES}

-- what is kept of a line: its first 65,536 bytes, and whether these are all of it; or nothing of it, if memory is short
abbrev pub IsKept : (text : List ℕ) → (is_whole : Bool) → (line : List ℕ) → Type 0
IsKept text whole line = ((text ≡ take 65536 line) × (whole ≡ nat_le (length line) 65536))
    ⊎ ((text ≡ []) × (whole ≡ false))

-- this line is reported to be no command, under this number
abbrev pub ReportsLine : Option RefusedLine → (number : ℕ) → (line : List ℕ) → Type 0
ReportsLine None k line = ⊥
ReportsLine (Some r) k line = (r.number ≡ k) × IsKept r.text.items r.is_whole line

-- what follows the first n commands of some bytes
abbrev pub rest_after : (n : ℕ) → List ℕ → Option (List ℕ)
rest_after zero bytes = Some bytes
rest_after (suc n) bytes = option_and_then (λ p. rest_after n p.1) (command_at bytes)

-- what was read begins with n commands, and the line that follows them is none: it is reported, as number n + 1
abbrev pub RefusesLine : Option (List ℕ) → InputEnd → Type 0
RefusesLine r0 e = (bytes : List ℕ) × (rest : List ℕ) × (n : ℕ) × AreRead r0 bytes × (rest_after n bytes ≡ Some rest)
    × (command_at rest ≡ None)
    × ReportsLine e.refused (n + 1) (first_line rest).text

-- by the status, a line that is no command is reported, or none is
abbrev pub EndsAs : Option (List ℕ) → (status : ℕ) → (old new : InputEnd) → Type 0
EndsAs r0 status e e' = (status ≡ 2 → RefusesLine r0 e') × (status ≡ 0 → e'.refused ≡ e.refused)

-- ---- when more bytes may follow

-- whatever follows, some commands of the bytes lead to the rest; they are numbered from j up to k
abbrev pub LeadsTo : Bool → (bytes rest : List ℕ) → (j k : ℕ) → Type 0
LeadsTo over bytes rest j k = (n : ℕ) × (k ≡ j + n) × ((more : List ℕ) → MayFollow over more
    → rest_after n (bytes ++ more) ≡ Some (rest ++ more))

-- they lead to a line that is none, which is reported
abbrev pub LeadsToNone : Bool → (bytes : List ℕ) → (j : ℕ) → InputEnd → Type 0
LeadsToNone over bytes j e = (rest : List ℕ) × (k : ℕ) × LeadsTo over bytes rest j k × (is_due over rest ≡ true)
    × (command_at rest ≡ None)
    × ReportsLine e.refused k (first_line rest).text

-- n bytes were read, whose commands lead to those that are kept
abbrev pub ReadsUpTo : Bool → (kept : List ℕ) → (k taken : ℕ) → (read_old read_new : Option (List ℕ)) → Type 0
ReadsUpTo over kept k taken r0 r1 = (read : List ℕ) × Consumes r0 r1 read × (length read ≡ taken)
    × (over ≡ true → IsAtEnd r1 ⊎ (taken ≡ MOST_BYTES)) × LeadsTo over read kept 1 k

-- What is said of words that ask for no work, and with which status a command ends.
use Rattle.std.specs.Prelude.{◌≡◌, ◌⊎◌, ◌+◌, ℕ, Bool, true, false, List, Option, Result, Ok, Err}
use Rattle.std.specs.Io.KnownBytes.{Appends}
use Rattle.pf_errors.specs.declared.fault.OrNoMemory.{OrNoMemory}
use Rattle.pf_streams.specs.declared.stream.StreamFault.{StreamFault}

-- the status of what fails: 2, or 141 where nobody reads the output any more
abbrev pub IsFailure : ℕ → Type 0
IsFailure status = (status ≡ 2) ⊎ (status ≡ 141)

-- the status that a command has by its end: its own, or that of what failed
abbrev pub HasStatus : Result ℕ (OrNoMemory StreamFault) → ℕ → Type 0
HasStatus (Ok status) given = given ≡ status
HasStatus (Err e) given = IsFailure given

-- PrintsText is_fault status given old new failed_old failed_new: the text of a fault goes to the standard error, and
-- any other text is written, with its status; or the output can't be written
abbrev pub PrintsText : (is_fault : Bool) → (status given : ℕ) → (old new : Option (List ℕ))
    → (failed_old failed_new : ℕ) → Type 0
PrintsText true status given old new m n = (given ≡ status) × (new ≡ old) × (n ≡ m)
PrintsText false status given old new m n = ((text : List ℕ) × (given ≡ status) × Appends old new text × (n ≡ m))
    ⊎ (IsFailure given × (n ≡ m + 1))

-- What the program does for words, between the standard input and the standard output.
use Rattle.std.specs.Prelude.{◌≡◌, ◌⊎◌, ℕ, List, Option, None, Result, Ok, Err}
use Rattle.pf_errors.specs.declared.memory.NoMemory.{NoMemory}
use Rattle.pf_cli.specs.Args.{reading_of, view_of_farm_args}
use Rattle.pf_cli.specs.declared.args.FarmArgs.{FarmArgs}
use Rattle.pf_command.specs.Streams.{Streams}
use Rattle.pf_words.specs.Words.{IsDoneAs, IsFarmOf, NothingOut}
use Rattle.pulsefarm.specs.Farms.{FarmIsDone}
use Rattle.pulsefarm.specs.Words.{words_of}

-- F is what files are to the system, which says which of them a path may open or make and at which paths it may not,
-- what each still holds and what was written to it
module _ {F : Type 0} (opens makes : (path : List ℕ) → F → Type 0) (refuses bars : (path : List ℕ) → Type 0)
    (remaining contents : F → Option (List ℕ)) where
  -- what words ask for is done, a farm too; or memory ran out, and nothing was written
  abbrev pub Does : (words : List (List ℕ)) → (old new : Streams) → Result ℕ NoMemory → Type 0
  Does words old new (Ok given) =
      IsDoneAs words (reading_of None words) old new given
      ⊎ ((args : FarmArgs) × IsFarmOf words args
      × FarmIsDone opens makes refuses bars remaining contents (view_of_farm_args args) old.written new.written
      old.failed_writes new.failed_writes given)
  Does words old new (Err e) = NothingOut old new

  -- the same for words that the system may give; memory may have run out before they were known
  abbrev pub DoesGiven : (gives : List (List ℕ) → Type 0) → (old new : Streams) → Result ℕ NoMemory → Type 0
  DoesGiven gives old new (Ok status) =
      (given : List (List ℕ)) × gives given × Does (words_of given) old new (Ok status)
  DoesGiven gives old new (Err e) = NothingOut old new

  -- a status of the program: that of what such words ask for, or 2 where memory ran out
  abbrev pub IsStatus : (gives : List (List ℕ) → Type 0) → ℕ → Type 0
  IsStatus gives given = ((old : Streams) × (new : Streams) × DoesGiven gives old new (Ok given)) ⊎ (given ≡ 2)

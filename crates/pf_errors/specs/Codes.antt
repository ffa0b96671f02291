-- The texts of refusals.
use Rattle.std.specs.Prelude.{◌≡◌, ℕ, List, [], ◌∷◌, ◌++◌, Option, Some, codes, get_or, refl}
use Rattle.std.specs.Fmt.{decimal}
use Rattle.pf_errors.specs.declared.code.Code.{Code}
use Rattle.pf_errors.specs.declared.code.Code.TheVariants as table
use Rattle.pf_errors.specs.declared.fault.OrNoMemory.{OrNoMemory}
use Rattle.pf_errors.specs.declared.fault.OrNoMemory.TheVariants as stops

-- of each code the letter, and the number after it
abbrev pub parts_of : Code → List ℕ × ℕ
parts_of table.UnexpectedByte = (codes "E", 1)
parts_of table.Unfinished = (codes "E", 2)
parts_of table.IntegerTooLarge = (codes "E", 3)
parts_of table.NoHead = (codes "E", 4)
parts_of table.NotGrammar = (codes "E", 5)
parts_of table.Unbound = (codes "E", 6)
parts_of table.Unsafe = (codes "E", 7)
parts_of table.Undefined = (codes "E", 8)
parts_of table.DefinedTwice = (codes "E", 9)
parts_of table.ExportOfNothing = (codes "E", 10)
parts_of table.SourceTooLong = (codes "E", 11)
parts_of table.HeadsDiffer = (codes "E", 12)
parts_of table.NoModule = (codes "B", 1)
parts_of table.NoRoot = (codes "B", 2)
parts_of table.NoTrial = (codes "B", 3)
parts_of table.ModuleInUse = (codes "B", 4)
parts_of table.NotDone = (codes "B", 5)
parts_of table.OutOfRange = (codes "B", 6)
parts_of table.WeightsOutOfRange = (codes "B", 7)
parts_of table.NoEdition = (codes "B", 8)
parts_of table.EditionTooLow = (codes "B", 9)
parts_of table.NoProperty = (codes "P", 1)
parts_of table.NoCommand = (codes "C", 1)
parts_of table.Stray = (codes "N", 1)
parts_of table.NotNow = (codes "N", 2)
parts_of table.TooManyModules = (codes "Q", 1)
parts_of table.TooManyBytes = (codes "Q", 2)
parts_of table.TooManyTrials = (codes "Q", 3)
parts_of table.TooManySteps = (codes "Q", 4)
parts_of table.TooManyCalls = (codes "Q", 5)
parts_of table.NothingFails = (codes "S", 1)
parts_of table.TooLarge = (codes "T", 1)

abbrev pub family_of : Code → List ℕ
family_of code = (parts_of code).0

abbrev pub number_of : Code → ℕ
number_of code = (parts_of code).1

-- the table, in its order
abbrev pub all_codes : List Code
all_codes =
    table.UnexpectedByte ∷ table.Unfinished ∷ table.IntegerTooLarge ∷ table.NoHead ∷ table.NotGrammar
    ∷ table.Unbound ∷ table.Unsafe ∷ table.Undefined ∷ table.DefinedTwice ∷ table.ExportOfNothing
    ∷ table.SourceTooLong ∷ table.HeadsDiffer ∷ table.NoModule ∷ table.NoRoot ∷ table.NoTrial
    ∷ table.ModuleInUse ∷ table.NotDone ∷ table.OutOfRange ∷ table.WeightsOutOfRange
    ∷ table.NoEdition ∷ table.EditionTooLow ∷ table.NoProperty ∷ table.NoCommand
    ∷ table.Stray ∷ table.NotNow ∷ table.TooManyModules ∷ table.TooManyBytes ∷ table.TooManyTrials
    ∷ table.TooManySteps ∷ table.TooManyCalls ∷ table.NothingFails ∷ table.TooLarge ∷ []

-- how many codes of the table come before this one
abbrev pub rank_of : Code → ℕ
rank_of table.UnexpectedByte = 0
rank_of table.Unfinished = 1
rank_of table.IntegerTooLarge = 2
rank_of table.NoHead = 3
rank_of table.NotGrammar = 4
rank_of table.Unbound = 5
rank_of table.Unsafe = 6
rank_of table.Undefined = 7
rank_of table.DefinedTwice = 8
rank_of table.ExportOfNothing = 9
rank_of table.SourceTooLong = 10
rank_of table.HeadsDiffer = 11
rank_of table.NoModule = 12
rank_of table.NoRoot = 13
rank_of table.NoTrial = 14
rank_of table.ModuleInUse = 15
rank_of table.NotDone = 16
rank_of table.OutOfRange = 17
rank_of table.WeightsOutOfRange = 18
rank_of table.NoEdition = 19
rank_of table.EditionTooLow = 20
rank_of table.NoProperty = 21
rank_of table.NoCommand = 22
rank_of table.Stray = 23
rank_of table.NotNow = 24
rank_of table.TooManyModules = 25
rank_of table.TooManyBytes = 26
rank_of table.TooManyTrials = 27
rank_of table.TooManySteps = 28
rank_of table.TooManyCalls = 29
rank_of table.NothingFails = 30
rank_of table.TooLarge = 31

-- the code of a rank; past the table it is the last one
abbrev pub code_at : ℕ → Code
code_at n = get_or all_codes n table.TooLarge

pub code_at-rank_of : (c : Code) → code_at (rank_of c) ≡ c
code_at-rank_of table.UnexpectedByte = refl
code_at-rank_of table.Unfinished = refl
code_at-rank_of table.IntegerTooLarge = refl
code_at-rank_of table.NoHead = refl
code_at-rank_of table.NotGrammar = refl
code_at-rank_of table.Unbound = refl
code_at-rank_of table.Unsafe = refl
code_at-rank_of table.Undefined = refl
code_at-rank_of table.DefinedTwice = refl
code_at-rank_of table.ExportOfNothing = refl
code_at-rank_of table.SourceTooLong = refl
code_at-rank_of table.HeadsDiffer = refl
code_at-rank_of table.NoModule = refl
code_at-rank_of table.NoRoot = refl
code_at-rank_of table.NoTrial = refl
code_at-rank_of table.ModuleInUse = refl
code_at-rank_of table.NotDone = refl
code_at-rank_of table.OutOfRange = refl
code_at-rank_of table.WeightsOutOfRange = refl
code_at-rank_of table.NoEdition = refl
code_at-rank_of table.EditionTooLow = refl
code_at-rank_of table.NoProperty = refl
code_at-rank_of table.NoCommand = refl
code_at-rank_of table.Stray = refl
code_at-rank_of table.NotNow = refl
code_at-rank_of table.TooManyModules = refl
code_at-rank_of table.TooManyBytes = refl
code_at-rank_of table.TooManyTrials = refl
code_at-rank_of table.TooManySteps = refl
code_at-rank_of table.TooManyCalls = refl
code_at-rank_of table.NothingFails = refl
code_at-rank_of table.TooLarge = refl

-- a code as it is printed, like E6
abbrev pub code_text : Code → List ℕ
code_text code = family_of code ++ decimal (number_of code)

-- a refusal with its offset, like E6 at 41
abbrev pub refusal_text : Code → ℕ → List ℕ
refusal_text code offset = code_text code ++ codes " at " ++ decimal offset

abbrev pub no_memory_text : List ℕ
no_memory_text = codes "NoMemory"

-- the word, or the fault as it is printed
abbrev pub text_or_no_memory : {E : Type 0} → (E → Option (List ℕ)) → OrNoMemory E → Option (List ℕ)
text_or_no_memory text stops.NoMemory = Some no_memory_text
text_or_no_memory text (stops.Fault fault) = text fault

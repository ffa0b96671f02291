-- What each refusal of a source means, and how to fix it: one sentence for each code.
use Rattle.std.specs.Prelude.{◌≡◌, ℕ, List, None, codes}
use Rattle.pf_errors.specs.declared.code.Code.{Code}
use Rattle.pf_errors.specs.declared.code.Code.TheVariants as table
use Rattle.pf_diagnostics.specs.declared.advice.Advice.{Advice}

-- what is said of the codes that no source is refused with
abbrev pub of_no_source : List ℕ
of_no_source = codes "This code answers calls and commands: no source is refused with it."

abbrev pub sentence_of : Code → List ℕ
sentence_of table.UnexpectedByte =
    codes
    "This byte begins no token or may not stand here, like `#`, `:`, an unknown escape or a byte past 126: take it out."
sentence_of table.Unfinished =
    codes
    "A quoted text, or a `$` and its character, begins here and isn't finished at the end of the source: close it."
sentence_of table.IntegerTooLarge =
    codes "This integer is above 9223372036854775807, the largest that there is: write a smaller one."
sentence_of table.NoHead =
    codes "The first form must be `-module(Name).`, where the name is an atom: begin the source with it."
sentence_of table.NotGrammar =
    codes
    "No rule of the grammar goes on like this: fix what is missing, too much or too deep here, or isn't in this language."
sentence_of table.Unbound =
    codes
    "This variable has no value here, or is `_`, which never has one: bind it in a pattern before, or as an argument."
sentence_of table.Unsafe =
    codes
    "Bind the value of the whole `case`, as in `X = case .. end`: a variable that only some clauses bind, or that every clause binds, is unsafe after `end` here."
sentence_of table.Undefined =
    codes "No function of this name with as many arguments is defined or built in here: define it, or fix the call."
sentence_of table.DefinedTwice =
    codes
    "An earlier function, or a built-in one, has this name with as many arguments: rename this one, or take it out."
sentence_of table.ExportOfNothing =
    codes
    "The module defines no function of this name with as many arguments: define it, or take it out of the exports."
sentence_of table.SourceTooLong =
    codes "A source has at most 65,536 bytes, and this one has more: shorten it."
sentence_of table.HeadsDiffer =
    codes
    "The clauses of a function have one name and one number of arguments: fix this head, or end the clause before by a dot."
sentence_of table.NoModule = of_no_source
sentence_of table.NoRoot = of_no_source
sentence_of table.NoTrial = of_no_source
sentence_of table.ModuleInUse = of_no_source
sentence_of table.NotDone = of_no_source
sentence_of table.OutOfRange = of_no_source
sentence_of table.WeightsOutOfRange = of_no_source
sentence_of table.NoEdition = of_no_source
sentence_of table.EditionTooLow = of_no_source
sentence_of table.NoProperty = of_no_source
sentence_of table.NoCommand = of_no_source
sentence_of table.Stray = of_no_source
sentence_of table.NotNow = of_no_source
sentence_of table.TooManyModules = of_no_source
sentence_of table.TooManyBytes = of_no_source
sentence_of table.TooManyTrials = of_no_source
sentence_of table.TooManySteps = of_no_source
sentence_of table.TooManyCalls = of_no_source
sentence_of table.NothingFails = of_no_source
sentence_of table.TooLarge = of_no_source

-- only the sentence of the code is said, at the offset
abbrev pub IsPlainAdvice : Code → (offset : ℕ) → Advice → Type 0
IsPlainAdvice code offset a = (a.position ≡ offset) × (a.sentence.now ≡ sentence_of code) × (a.rewrite ≡ None)

-- What words are answered with between the standard input and the standard output.
use Rattle.std.specs.Prelude.{◌≡◌, ◌⊎◌, ◌≤◌, ℕ, Bool, true, false, ◌||◌, is_some, codes, length, List, Option, None}
use Rattle.std.specs.Prelude.{Some, IfSome, Result, Ok, Err}
use Rattle.std.specs.Io.KnownBytes.{Consumes}
use Rattle.std.specs.Str.{bytes_eq}
use Rattle.pf_errors.specs.declared.memory.NoMemory.{NoMemory}
use Rattle.pf_errors.specs.declared.fault.OrNoMemory.{OrNoMemory}
use Rattle.pf_streams.specs.declared.stream.StreamFault.{StreamFault}
use Rattle.pf_text.specs.Numbers.{schedule_of}
use Rattle.clap.specs.Words.{Text}
use Rattle.pf_cli.specs.Args.{ReadWords, Wanted, CommandWork, check, chart, explore, farm, hunt, reading_of, reads, run}
use Rattle.pf_cli.specs.Args.{shrink}
use Rattle.pf_cli.specs.Args.{named_file, steps, reports, view_of_command, view_of_farm_args, works}
use Rattle.pf_cli.specs.declared.args.FarmArgs.{FarmArgs}
use Rattle.pf_cli.specs.declared.args.Format.{Format}
use Rattle.pf_cli.specs.declared.args.Format.TheVariants.{Json}
use Rattle.pf_cli.specs.declared.args.Format.TheVariants as format
use Rattle.pf_command.specs.Answers.{AnswersRun}
use Rattle.pf_command.specs.Checks.{Checks}
use Rattle.pf_command.specs.AskedRuns.{DrawnAnswers, RunAnswers}
use Rattle.pf_command.specs.Hunts.{HuntAnswers}
use Rattle.pf_command.specs.Streams.{Answering, NoneFailed, Serves, Streams}
use Rattle.pf_command.specs.declared.serving.TheConstants as command
use Rattle.pf_wire.specs.Steps.{SimulatesSteps, StepsLeaves}
use Rattle.pf_wire.specs.declared.steps.TheConstants as wire
use Rattle.pf_steps.specs.Profile.{run_profile}
use Rattle.pf_cli_messages.specs.Texts.{HasStatus, IsFailure, PrintsText}
use Rattle.pf_files.specs.Suites.{goes_over_several}
use Rattle.pf_words.specs.Explorations.{ExplorationAnswers}
use Rattle.pf_words.specs.Schedules.{schedule_in}
use Rattle.pf_words.specs.declared.request.WordsRequest.{WordsRequest}
use Rattle.pf_words.specs.declared.request.WordsRequest.TheVariants as request
use Rattle.pf_words.specs.declared.words.Obeyed.{Obeyed}
use Rattle.pf_words.specs.declared.words.Obeyed.TheVariants.{Status, Farm}

-- ---- between a reader and a writer

-- what ended the work of a command: its status, or a fault of a stream or of memory
abbrev pub End : Type 0
End = Result ℕ (OrNoMemory StreamFault)

-- which texts and statuses answer which bytes of a source of which this is asked for; of no source `steps` or a farm is
abbrev pub AnswersOf : CommandWork → Answering
AnswersOf (run a) = RunAnswers a
AnswersOf (hunt h) = HuntAnswers h
AnswersOf (explore a) = ExplorationAnswers a
AnswersOf (chart a) = DrawnAnswers a
AnswersOf (shrink a) = AnswersRun a
AnswersOf (check explain) = Checks explain
AnswersOf steps = λ bytes text status. ⊥
AnswersOf (farm a) = λ bytes text status. ⊥

-- what reads one source, and what is a farm
abbrev pub has_source : CommandWork → Bool
has_source steps = false
has_source (farm a) = false
has_source w = true

abbrev pub is_farm : CommandWork → Bool
is_farm (farm a) = true
is_farm w = false

-- the same of commands; where the system gives no random numbers nothing is done
abbrev pub StepsEnd : (old new : Streams) → End → Type 0
StepsEnd old new (Ok status) = NoneFailed old new × SimulatesSteps run_profile old.unread old.written new.written status
StepsEnd old new (Err e) =
    StepsLeaves run_profile e old.unread new.unread old.written new.written old.failed_reads new.failed_reads
    old.failed_writes new.failed_writes
    ⊎ (new ≡ old)

-- what is asked for is answered, from a reader to a writer; a farm is none of this
abbrev pub AnswerEnds : CommandWork → (old new : Streams) → End → Type 0
AnswerEnds steps = StepsEnd
AnswerEnds (farm a) = λ old new end. ⊥
AnswerEnds w = Serves (AnswersOf w)

-- at most this many bytes are read: of commands, or one more than a source may have
abbrev pub most_bytes : CommandWork → ℕ
most_bytes steps = wire.MOST_BYTES
most_bytes w = command.MOST_BYTES

-- at most so many bytes were read
abbrev pub TakesAtMost : ℕ → (old new : Streams) → Type 0
TakesAtMost n old new = (bytes : List ℕ) × (length bytes ≤ n) × Consumes old.unread new.unread bytes

-- it is answered, and no more is read than may be
abbrev pub WorkEnds : CommandWork → (old new : Streams) → End → Type 0
WorkEnds w old new end = AnswerEnds w old new end × TakesAtMost (most_bytes w) old new

-- ---- from the standard input, or from a file

-- what is asked for is answered from the standard input, and the program has this status
abbrev pub FromInput : CommandWork → (old new : Streams) → ℕ → Type 0
FromInput w old new given = (end : End) × WorkEnds w old new end × HasStatus end given

-- the output, and as much of a reader
abbrev pub reading_from : (unread : Option (List ℕ)) → (failed_reads : ℕ) → Streams → Streams
reading_from unread failed s = record s { unread = unread; failed_reads = failed }

-- it is answered from a file, which has some bytes, no more is read of it than may be, and nothing of the standard
-- input. A file that can't be opened is none that is answered: nothing is written then
abbrev pub FromFile : CommandWork → (old new : Streams) → ℕ → Type 0
FromFile w old new given =
    (new.unread ≡ old.unread) × (new.failed_reads ≡ old.failed_reads)
    × (before : Option (List ℕ)) × (after : Option (List ℕ)) × (m : ℕ) × (n : ℕ)
    × FromInput w (reading_from before m old) (reading_from after n new) given

-- a hunt of a name, which may be a folder's, or of several sources or roots, isn't that of one source
abbrev pub may_be_several : CommandWork → (file : Option Text) → Bool
may_be_several (hunt h) file = is_some file || goes_over_several h
may_be_several w file = false

abbrev pub FromNamed : CommandWork → (file : Option Text) → (old new : Streams) → ℕ → Type 0
FromNamed w None = FromInput w
FromNamed w (Some file) = FromFile w

abbrev pub unless_several : Bool → Type 0 → Type 0
unless_several true P = Unit {0}
unless_several false P = P

abbrev pub FromOne : CommandWork → (file : Option Text) → (old new : Streams) → ℕ → Type 0
FromOne w file old new given = unless_several (may_be_several w file) (FromNamed w file old new given)

-- ---- in the form that is asked for

-- an output of which nothing is known
abbrev pub writing_to : (written : Option (List ℕ)) → (failed_writes : ℕ) → Streams → Streams
writing_to written failed s = record s { written = written; failed_writes = failed }

-- text is written as it is; of the objects that are written in place of its lines nothing is said
abbrev pub InForm : Format → ((old new : Streams) → ℕ → Type 0) → (old new : Streams) → ℕ → Type 0
InForm format.Text P old new given = P old new given
InForm Json P old new given =
    (before : Option (List ℕ)) × (after : Option (List ℕ)) × (m : ℕ) × (n : ℕ) × P (writing_to before m old)
    (writing_to after n new) given

-- ---- words

-- nothing was written
abbrev pub NothingOut : (old new : Streams) → Type 0
NothingOut old new = (new.written ≡ old.written) × (new.failed_writes ≡ old.failed_writes)

-- nothing is read, and a text is printed
abbrev pub TextReported : (status : ℕ) → (is_fault : Bool) → (old new : Streams) → ℕ → Type 0
TextReported status is_fault old new given =
    (new.unread ≡ old.unread) × (new.failed_reads ≡ old.failed_reads)
    × PrintsText is_fault status given old.written new.written old.failed_writes new.failed_writes

-- what words ask for is done, and the program has this status; but a file for a schedule isn't read here
abbrev pub IsDone : ReadWords → (old new : Streams) → ℕ → Type 0
IsDone (works w file) = InForm w.format (FromOne w.work file)
IsDone (reports status is_fault) = TextReported status is_fault
IsDone (reads file) = λ old new given. ⊥

-- nothing is written, and the status is that of what fails
abbrev pub IsRefused : (old new : Streams) → ℕ → Type 0
IsRefused old new given = NothingOut old new × IsFailure given

-- or the source and its schedule are both to be the standard input, and that is refused
abbrev pub IsDoneOrRefused : ReadWords → (old new : Streams) → ℕ → Type 0
IsDoneOrRefused r old new given = IsDone r old new given ⊎ IsRefused old new given

-- these are the contents of a file, at most 67,108,864 bytes; those of the standard input are all that it still holds,
-- and nothing else is read of it
abbrev pub AreContents : (file contents : Text) → (old new : Streams) → Type 0
AreContents file contents old new =
    (length contents ≤ 67108864) × NothingOut old new × (bytes_eq file (codes "-") ≡ false → new ≡ old)
    × (bytes_eq file (codes "-") ≡ true → IfSome old.unread (λ input. contents ≡ input))

-- what the words ask for is done by the schedule in these contents; or they have none, and nothing is written
abbrev pub IsDoneIn : (words : List Text) → (contents : Text) → (old new : Streams) → ℕ → Type 0
IsDoneIn words contents old new given =
    ((is_some (schedule_of (schedule_in contents)) ≡ true)
    × IsDoneOrRefused (reading_of (Some (schedule_in contents)) words) old new given)
    ⊎ IsRefused old new given

-- a file is read, and it is done by the schedule in it; or the file can't be read or is too long, and nothing is
-- written
abbrev pub IsDoneBy : (words : List Text) → (file : Text) → (old new : Streams) → ℕ → Type 0
IsDoneBy words file old new given =
    ((contents : Text) × (read : Streams) × AreContents file contents old read × IsDoneIn words contents read new given)
    ⊎ IsRefused old new given

abbrev pub IsDoneAs : (words : List Text) → ReadWords → (old new : Streams) → ℕ → Type 0
IsDoneAs words (reads file) = IsDoneBy words file
IsDoneAs words (works w file) = IsDone (works w file)
IsDoneAs words (reports status is_fault) = IsDone (reports status is_fault)

-- words ask for this farm, if need be by a text for a schedule
abbrev pub IsFarmOf : (words : List Text) → FarmArgs → Type 0
IsFarmOf words args = (text : Option Text) × (w : Wanted) × (reading_of text words ≡ works w None)
    × (w.work ≡ farm (view_of_farm_args args))

-- what words ask for is done; or they ask for a farm, or memory ran out, and nothing was written
abbrev pub Obeys : (words : List Text) → (old new : Streams) → Result Obeyed NoMemory → Type 0
Obeys words old new (Ok (Status given)) = IsDoneAs words (reading_of None words) old new given
Obeys words old new (Ok (Farm args)) = IsFarmOf words args × NothingOut old new
Obeys words old new (Err e) = NothingOut old new

-- ---- the code's own words

-- what words ask for that are read is done; or it is a farm, of which nothing is done
abbrev pub AskedIsDone : Wanted → (file : Option Text) → (old new : Streams) → Obeyed → Type 0
AskedIsDone w file old new (Status given) = InForm w.format (FromOne w.work file) old new given
AskedIsDone w file old new (Farm args) = (w.work ≡ farm (view_of_farm_args args)) × (file ≡ None) × (new ≡ old)

-- or the source is to be what the schedule's file is, and that is refused
abbrev pub AskedIsDoneOrRefused : Wanted → (file : Option Text) → (old new : Streams) → Obeyed → Type 0
AskedIsDoneOrRefused w file old new (Status given) = AskedIsDone w file old new (Status given) ⊎ IsRefused old new given
AskedIsDoneOrRefused w file old new (Farm args) = AskedIsDone w file old new (Farm args)

-- what is done for a request
abbrev pub RequestIsDone : WordsRequest → (old new : Streams) → Obeyed → Type 0
RequestIsDone (request.Asked c) old new o = AskedIsDone (view_of_command c) (named_file c.args) old new o
RequestIsDone (request.Text text status is_fault) old new (Status given) = TextReported status is_fault old new given
RequestIsDone (request.Text text status is_fault) old new (Farm args) = ⊥
RequestIsDone (request.Refused status) old new o = (new ≡ old) × (o ≡ Status status)

-- what may be done is whatever is done for this request from here on, where so much was read for it; or memory ran out
abbrev pub AsksFor : (may : (new : Streams) → Result Obeyed NoMemory → Type 0) → (read : Streams)
    → Result WordsRequest NoMemory → Type 0
AsksFor P read (Ok x) = (new : Streams) (o : Obeyed) → RequestIsDone x read new o → P new (Ok o)
AsksFor P read (Err e) = P read (Err e)

-- what words ask for by this text for their schedule is done
abbrev pub ObeysBy : (words : List Text) → (text : Text) → (old new : Streams) → Result Obeyed NoMemory → Type 0
ObeysBy words text old new (Ok (Status given)) = IsDoneOrRefused (reading_of (Some text) words) old new given
ObeysBy words text old new (Ok (Farm args)) = IsFarmOf words args × NothingOut old new
ObeysBy words text old new (Err e) = NothingOut old new

-- by the schedule in these contents
abbrev pub ObeysIn : (words : List Text) → (contents : Text) → (old new : Streams) → Result Obeyed NoMemory → Type 0
ObeysIn words contents old new (Ok (Status given)) = IsDoneIn words contents old new given
ObeysIn words contents old new (Ok (Farm args)) = IsFarmOf words args × NothingOut old new
ObeysIn words contents old new (Err e) = NothingOut old new

-- and by that in this file
abbrev pub ObeysByFile : (words : List Text) → (file : Text) → (old new : Streams) → Result Obeyed NoMemory → Type 0
ObeysByFile words file old new (Ok (Status given)) = IsDoneBy words file old new given
ObeysByFile words file old new (Ok (Farm args)) = IsFarmOf words args × NothingOut old new
ObeysByFile words file old new (Err e) = NothingOut old new

-- What `steps` writes for the bytes that it reads.
use Rattle.std.specs.Prelude.{◌≡◌, ℕ, ◌+◌, Bool, if◌then◌else◌, List, [], ◌++◌, length, map, take, Option, Some, None}
use Rattle.std.specs.Prelude.{false, IfSome, codes}
use Rattle.std.specs.Fmt.{decimal}
use Rattle.std.specs.Io.KnownBytes.{Appends, Consumes}
use Rattle.pf_errors.specs.Codes.{code_text}
use Rattle.pf_errors.specs.declared.code.Code.TheVariants as code
use Rattle.pf_errors.specs.declared.fault.OrNoMemory.{OrNoMemory}
use Rattle.pf_errors.specs.declared.fault.OrNoMemory.TheVariants.{NoMemory, Fault}
use Rattle.pf_streams.specs.declared.stream.StreamFault.{StreamFault}
use Rattle.pf_streams.specs.declared.stream.StreamFault.TheVariants.{Read, Write}
use Rattle.pf_streams.specs.Streams.{AppendsFront}
use Rattle.pf_model.specs.TermText.{line}
use Rattle.pf_world.specs.World.{RunProfile, World, new_world}
use Rattle.pf_world.specs.Chores.{Response}
use Rattle.pf_world.specs.Steps.{WorldStep}
use Rattle.pf_world.specs.Memory.{RespondsTo, RespondsInTurn}
use Rattle.pf_world.specs.Alone.{heard, heard_alone}
use Rattle.pf_world.specs.Reported.{step_text, outcomes_text}
use Rattle.pf_pool.specs.Profile.{ForRight}
use Rattle.pf_protocol.specs.Commands.{Commands, command_at}
use Rattle.pf_protocol.specs.Complete.{CompleteCommands}
use Rattle.pf_wire.specs.declared.steps.TheConstants.{MOST_BYTES, WORKERS}

-- the line that would be command number k, counted from 1, is no command
abbrev pub last_text : Bool → ℕ → List ℕ
last_text good k = if good then [] else line (codes "command " ++ decimal k ++ codes " refused "
    ++ code_text code.NoCommand)

abbrev pub steps_status : Bool → ℕ
steps_status good = if good then 0 else 2

-- the text that the first command, number k, is answered with in a world, where these bytes follow it and that
-- world; nothing follows if it is no command
abbrev pub AnswersOne : List ℕ → ℕ → World → List ℕ → Option (List ℕ) → World → Type 0
AnswersOne bytes k w text (Some rest) w' =
    (s : WorldStep) × (a : Option Response) × (command_at bytes ≡ Some (s, rest)) × (text ≡ step_text s a)
    × ForRight (λ p. RespondsTo p w s a w')
AnswersOne bytes k w text None w' = (command_at bytes ≡ None) × (text ≡ last_text false k)

-- the text and the status that some bytes are answered with: the answers to the steps of their commands, and if a line
-- is no command that it is none. Up to the first step in which an allocation failed, each project is answered as if it
-- were alone
pub record StepsText (p : RunProfile) (bytes text : List ℕ) (status : ℕ) : Type 0 where
  pub steps : List WorldStep
  pub good : Bool
  pub commands : Commands bytes steps good
  pub outcomes : List (Option Response)
  pub last : World
  pub in_turn : RespondsInTurn p (new_world WORKERS) steps outcomes last
  pub writes : text ≡ outcomes_text steps outcomes ++ last_text good (length steps + 1)
  pub ends : status ≡ steps_status good
  pub isolated : (answers : List Response) (others : List (Option Response)) → outcomes ≡ map Some answers ++ others
      → (q : ℕ) → heard q (take (length answers) steps) answers ≡ heard_alone p WORKERS q (take (length answers) steps)

-- ---- what `steps` leaves

-- a beginning of the text of the answer to some bytes was written
abbrev pub AnswersInPart : RunProfile → List ℕ → (written_old written_new : Option (List ℕ)) → Type 0
AnswersInPart p bytes w0 w1 = (text : List ℕ) × (status : ℕ) × StepsText p bytes text status × AppendsFront w0 w1 text

-- the bytes that are read are the first 67,108,864, if it is known what there is
abbrev pub AreRead : Option (List ℕ) → List ℕ → Type 0
AreRead r0 bytes = IfSome r0 (λ input. bytes ≡ take MOST_BYTES input)

-- what was read is answered with the text that was written and the status
abbrev pub SimulatesSteps : RunProfile → (read_old written_old written_new : Option (List ℕ)) → ℕ → Type 0
SimulatesSteps p r0 w0 w1 status = (bytes : List ℕ) × (text : List ℕ) × AreRead r0 bytes × StepsText p bytes text status
    × Appends w0 w1 text

-- a beginning of the answer to what was to be read was written
abbrev pub StepsAnsweredInPart : RunProfile → (read_old written_old written_new : Option (List ℕ)) → Type 0
StepsAnsweredInPart p r0 w0 w1 = (bytes : List ℕ) × AreRead r0 bytes × AnswersInPart p bytes w0 w1

-- the complete commands in what was read are answered, each with its whole text
abbrev pub WholeAnswered : RunProfile → (read_old read_new written_old written_new : Option (List ℕ)) → Type 0
WholeAnswered p r0 r1 w0 w1 = (bytes : List ℕ) × (steps : List WorldStep) × (outcomes : List (Option Response))
    × (last : World)
    × Consumes r0 r1 bytes × CompleteCommands bytes steps × RespondsInTurn p (new_world WORKERS) steps outcomes last
    × Appends w0 w1 (outcomes_text steps outcomes)

-- what a fault leaves: which stream failed once more, and what was written
abbrev pub StepsLeaves : RunProfile → OrNoMemory StreamFault
    → (read_old read_new written_old written_new : Option (List ℕ))
    → (reads_old reads_new writes_old writes_new : ℕ) → Type 0
StepsLeaves p NoMemory r0 r1 w0 w1 m0 m1 n0 n1 = (m1 ≡ m0) × (n1 ≡ n0) × StepsAnsweredInPart p r0 w0 w1
StepsLeaves p (Fault (Read e)) r0 r1 w0 w1 m0 m1 n0 n1 = (m1 ≡ m0 + 1) × (n1 ≡ n0) × StepsAnsweredInPart p r0 w0 w1
    × WholeAnswered p r0 r1 w0 w1
StepsLeaves p (Fault (Write e)) r0 r1 w0 w1 m0 m1 n0 n1 = (m1 ≡ m0) × (n1 ≡ n0 + 1) × StepsAnsweredInPart p r0 w0 w1

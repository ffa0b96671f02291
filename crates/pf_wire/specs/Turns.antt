-- How far the commands of some bytes were answered, when more bytes may follow them.
use Rattle.std.specs.Prelude.{◌≡◌, ℕ, ◌+◌, ◌<◌, ◌≤◌, ◌⊎◌, Bool, true, false, List, [], ◌++◌, length, Option}
use Rattle.std.specs.Io.KnownBytes.{Appends, Consumes, IsAtEnd, Keeps}
use Rattle.pf_errors.specs.declared.fault.OrNoMemory.{OrNoMemory}
use Rattle.pf_errors.specs.declared.fault.OrNoMemory.TheVariants.{NoMemory, Fault}
use Rattle.pf_streams.specs.declared.stream.StreamFault.{StreamFault}
use Rattle.pf_streams.specs.declared.stream.StreamFault.TheVariants.{Read, Write}
use Rattle.pf_streams.specs.Streams.{AppendsFront}
use Rattle.pf_world.specs.World.{RunProfile, World}
use Rattle.pf_world.specs.Chores.{Response}
use Rattle.pf_world.specs.Steps.{WorldStep}
use Rattle.pf_world.specs.Memory.{RespondsInTurn}
use Rattle.pf_world.specs.Reported.{outcomes_text}
use Rattle.pf_protocol.specs.Commands.{Commands}
use Rattle.pf_protocol.specs.Complete.{CompleteCommands}
use Rattle.pf_wire.specs.Steps.{last_text}
use Rattle.pf_wire.specs.declared.steps.TheConstants.{MOST_BYTES}

-- what may follow: anything, but nothing if the input is over
abbrev pub MayFollow : Bool → List ℕ → Type 0
MayFollow over more = over ≡ true → more ≡ []

-- Turns p over bytes v j text rest w k: whatever follows, the bytes are some commands and then the rest, which are
-- complete commands unless the input is over; their steps lead from the world v to w, the text is their answers, and
-- they are numbered from j up to k
pub record Turns (p : RunProfile) (over : Bool) (bytes : List ℕ) (v : World) (j : ℕ) (text rest : List ℕ) (w : World)
    (k : ℕ) : Type 0 where
  pub steps : List WorldStep
  pub outcomes : List (Option Response)
  pub commands : (more : List ℕ) → MayFollow over more → (ss : List WorldStep) (good : Bool)
      → Commands (rest ++ more) ss good → Commands (bytes ++ more) (steps ++ ss) good
  pub wholes : over ≡ false → (more : List ℕ) (ss : List WorldStep)
      → CompleteCommands (rest ++ more) ss → CompleteCommands (bytes ++ more) (steps ++ ss)
  pub in_turn : (ss : List WorldStep) (xs : List (Option Response)) (last : World)
      → RespondsInTurn p w ss xs last → RespondsInTurn p v (steps ++ ss) (outcomes ++ xs) last
  pub paired : length steps ≡ length outcomes
  pub writes : text ≡ outcomes_text steps outcomes
  pub counts : k ≡ j + length steps

-- whatever follows, the first line is no command
abbrev pub IsNoCommand : Bool → List ℕ → Type 0
IsNoCommand over rest = (more : List ℕ) → MayFollow over more → Commands (rest ++ more) [] false

-- the text answers some commands, the last of which may be none
pub data AnswersCommands (p : RunProfile) (over : Bool) (bytes : List ℕ) (v : World) (j : ℕ)
    (text : List ℕ) : Type 0 where
  so_far : (rest : List ℕ) (w : World) (k : ℕ) → Turns p over bytes v j text rest w k
      → AnswersCommands p over bytes v j text
  no_more : (front rest : List ℕ) (w : World) (k : ℕ) → Turns p over bytes v j front rest w k → IsNoCommand over rest
      → text ≡ front ++ last_text false k → AnswersCommands p over bytes v j text

-- what was written is the text of commands up to a rest, which is not due
abbrev pub ReportsUpTo : RunProfile → Bool → (bytes : List ℕ) → World → ℕ → (rest : List ℕ) → World → ℕ
    → (written_old written_new : Option (List ℕ)) → Type 0
ReportsUpTo p over bytes v j rest w k w0 w1 = (text : List ℕ) × Turns p over bytes v j text rest w k
    × Appends w0 w1 text

-- what was written is the text of commands and of a line that is none
abbrev pub ReportsAll : RunProfile → Bool → (bytes : List ℕ) → World → ℕ
    → (written_old written_new : Option (List ℕ)) → Type 0
ReportsAll p over bytes v j w0 w1 = (front rest : List ℕ) × (w : World) × (k : ℕ)
    × Turns p over bytes v j front rest w k
    × IsNoCommand over rest × Appends w0 w1 (front ++ last_text false k)

-- a beginning of such a text was written
abbrev pub ReportsInPart : RunProfile → Bool → (bytes : List ℕ) → World → ℕ
    → (written_old written_new : Option (List ℕ)) → Type 0
ReportsInPart p over bytes v j w0 w1 = (text : List ℕ) × AnswersCommands p over bytes v j text × AppendsFront w0 w1 text

-- what a fault leaves: whether a write failed, and what was written
abbrev pub TurnsLeave : RunProfile → OrNoMemory StreamFault → Bool → (bytes : List ℕ) → World → ℕ
    → (written_old written_new : Option (List ℕ)) → (writes_old writes_new : ℕ) → Type 0
TurnsLeave p NoMemory over bytes v j w0 w1 n0 n1 = (n1 ≡ n0) × ReportsInPart p over bytes v j w0 w1
TurnsLeave p (Fault (Read e)) over bytes v j w0 w1 n0 n1 = ⊥
TurnsLeave p (Fault (Write e)) over bytes v j w0 w1 n0 n1 = (n1 ≡ n0 + 1) × ReportsInPart p over bytes v j w0 w1

-- ---- pieces of an input

-- a piece was taken; n bytes of the input are taken then, and whether the input is over
abbrev pub TakesPiece : (read_old read_new : Option (List ℕ)) → (bytes_old bytes_new : List ℕ)
    → (taken_old taken_new : ℕ) → Bool → Type 0
TakesPiece r0 r1 b0 b1 t0 t1 over = (piece : List ℕ) × Consumes r0 r1 piece × (b1 ≡ b0 ++ piece)
    × (t1 ≡ t0 + length piece)
    × (over ≡ true → IsAtEnd r1 ⊎ (t1 ≡ MOST_BYTES)) × (over ≡ false → (t0 < t1) × (t1 < MOST_BYTES))
    × (t1 ≤ MOST_BYTES)

-- what a failed read leaves
abbrev pub PieceLeaves : OrNoMemory StreamFault → (read_old read_new : Option (List ℕ))
    → (reads_old reads_new : ℕ) → Type 0
PieceLeaves NoMemory r0 r1 m0 m1 = m1 ≡ m0
PieceLeaves (Fault (Read e)) r0 r1 m0 m1 = (m1 ≡ m0 + 1) × Keeps r0 r1
PieceLeaves (Fault (Write e)) r0 r1 m0 m1 = ⊥

-- What the lines of a client's file ask for, and what the client is answered.
use Rattle.std.specs.Prelude.{◌≡◌, ◌⊎◌, ⊤, ℕ, ◌+◌, false, List, [], ◌∷◌, ◌++◌, length, Option, Some, None}
use Rattle.std.specs.Prelude.{Result, Ok, Err, codes}
use Rattle.pf_errors.specs.Codes.{no_memory_text}
use Rattle.pf_errors.specs.declared.code.Code.TheVariants as code
use Rattle.pf_errors.specs.declared.memory.NoMemory.{NoMemory}
use Rattle.pf_request.specs.Calls.{Call}
use Rattle.pf_request.specs.View.{view_of_call}
use Rattle.pf_desks.specs.Desk.{Reply, refused}
use Rattle.pf_desks.specs.Reported.{reply_text, to_project}
use Rattle.pf_desks.specs.Desks.{replied}
use Rattle.pf_world.specs.Chores as chores
use Rattle.pf_world.specs.Chores.{answer}
use Rattle.pf_book.specs.declared.reply.Reply as reply_code
use Rattle.pf_book.specs.View.{view_of_reply}
use Rattle.pf_farm_state.specs.Clients.{ClientReplies, ClientView, empty_client, full_seat, with_look, with_receipt}
use Rattle.pf_farm_state.specs.declared.look.TrialLook.{TrialLook}
use Rattle.pf_farm.specs.Floors.{IsTrialOver}
use Rattle.pf_protocol.specs.Clients.{ClientLine, calls, awaits, client_line_at}
use Rattle.pf_protocol.specs.Commands.{first_line}
use Rattle.pf_wire.specs.Endings.{ReportsLine}
use Rattle.pf_wire.specs.Steps.{AreRead, last_text}
use Rattle.pf_clients.specs.declared.end.FileEnd.{FileEnd}
use Rattle.pf_clients.specs.declared.end.FileEnd.TheVariants.{Answered, NoCommand, Unread, Unwritten}
use Rattle.pf_clients.specs.declared.end.FileEnd.TheVariants.{NoMemory as OutOfMemory}

-- ---- one line

-- what came of a line: a call was logged, and this is its receipt; a call was one too many for the log; memory ran out
-- in a call; a client waited, and saw this last
pub data Line : Type 0 where
  logged : ClientReplies → Line
  one_too_many : Call → Line
  without_memory : Call → Line
  waited : TrialLook → Line

-- what it asked for
abbrev pub asked_in : Line → ClientLine
asked_in (logged r) = calls (view_of_call r.call.value)
asked_in (one_too_many c) = calls c
asked_in (without_memory c) = calls c
asked_in (waited l) = awaits l.ticket

-- the reply that came of a call, if memory didn't run out
abbrev pub answer_in : Result reply_code.Reply NoMemory → Option chores.Response
answer_in (Ok r) = Some (answer (replied (view_of_reply r)))
answer_in (Err e) = None

-- the text of what came of a project's call
abbrev pub call_text : ℕ → Result reply_code.Reply NoMemory → List ℕ
call_text q (Ok r) = reply_text q (view_of_reply r)
call_text q (Err e) = to_project q (codes "refused " ++ no_memory_text)

-- what the client of a project is answered: the reply that the receipt bears; nothing, where it waited
abbrev pub line_text : ℕ → Line → List ℕ
line_text q (logged r) = reply_text q (view_of_reply r.reply.value)
line_text q (one_too_many c) = reply_text q (refused code.TooManyCalls)
line_text q (without_memory c) = to_project q (codes "refused " ++ no_memory_text)
line_text q (waited l) = []

-- what it leaves of the client's seat: its receipt is the newest, or its look. No call of a seat that is full is
-- logged, and memory doesn't run out in one. A client that waited saw the trial done or not held, or that the farm
-- stops
abbrev pub Leaves : Line → (was is : ClientView) → Type 0
Leaves (logged r) s s' = (s.is_full ≡ false) × (s' ≡ with_receipt s r)
Leaves (one_too_many c) s s' = s' ≡ full_seat s
Leaves (without_memory c) s s' = (s.is_full ≡ false) × (s' ≡ s)
Leaves (waited l) s s' = (l.project ≡ s.project) × (l.stops ≡ false → IsTrialOver l.stage) × (s' ≡ with_look s l)

-- AnswersLine m s s' text: a line that asks for this was done, and this is its answer
abbrev pub AnswersLine : ClientLine → (was is : ClientView) → (text : List ℕ) → Type 0
AnswersLine m s s' t = (l : Line) × (asked_in l ≡ m) × Leaves l s s' × (t ≡ line_text s.project l)

-- the same where memory ran out before there was an answer
abbrev pub CutsLine : ClientLine → (was is : ClientView) → Type 0
CutsLine m s s' = (l : Line) × (asked_in l ≡ m) × Leaves l s s'

-- ---- the line in front

-- the line at the front of some bytes of a client's file was done, these bytes follow it, and this is its answer
abbrev pub AnswersFront : List ℕ → (rest : List ℕ) → (was is : ClientView) → (text : List ℕ) → Type 0
AnswersFront bytes rest s s' t =
    (m : ClientLine) × (client_line_at s.project bytes ≡ Some (m, rest)) × AnswersLine m s s' t

-- it is no command, which is answered by its number
abbrev pub RefusesFront : List ℕ → (number : ℕ) → (was is : ClientView) → (text : List ℕ) → Type 0
RefusesFront bytes k s s' t = (client_line_at s.project bytes ≡ None) × (s' ≡ s) × (t ≡ last_text false k)

-- memory ran out before it was read, or before there was an answer
abbrev pub IsCut : List ℕ → (was is : ClientView) → Type 0
IsCut bytes s s' = (s' ≡ s) ⊎ ((l : Line) × (rest : List ℕ) × (client_line_at s.project bytes ≡ Some (asked_in l, rest))
    × Leaves l s s')

-- ---- a file

-- what a client is answered for some lines
abbrev pub lines_text : ℕ → List Line → List ℕ
lines_text q [] = []
lines_text q (l ∷ ls) = line_text q l ++ lines_text q ls

-- AnswersLines q bytes s ls rest s': the bytes of a project's file are these lines, in order, and then the rest; they
-- lead from the one state of its seat to the other
abbrev pub AnswersLines : ℕ → List ℕ → ClientView → List Line → List ℕ → ClientView → Type 0
AnswersLines q bytes s [] rest s' = (bytes ≡ rest) × (s ≡ s')
AnswersLines q bytes s (l ∷ ls) rest s' =
    (after : List ℕ) × (k : ClientView) × (client_line_at q bytes ≡ Some (asked_in l, after)) × Leaves l s k
    × AnswersLines q after k ls rest s'

-- the answer to the line of this number, with which the rest begins, can't be written: this beginning of it was
abbrev pub LosesFront : (number : ℕ) → (rest : List ℕ) → (was is : ClientView) → (reported : List ℕ) → Type 0
LosesFront k rest s s' t = (text : List ℕ) × (lost : List ℕ) × (text ≡ t ++ lost)
    × (((after : List ℕ) × AnswersFront rest after s s' text) ⊎ RefusesFront rest k s s' text)

-- how a file ends at the line of this number, where this rest is left, and what is answered of the end: nothing is
-- left; or what is left begins with no command, and that is answered and known; or no more of the file can be read; or
-- an answer can't be written; or memory ran out
abbrev pub EndsAt : FileEnd → (number : ℕ) → (rest : List ℕ) → (was is : ClientView) → (reported : List ℕ) → Type 0
EndsAt Answered k rest s s' t = (rest ≡ []) × (s' ≡ s) × (t ≡ [])
EndsAt (NoCommand r) k rest s s' t = RefusesFront rest k s s' t × ¬ (rest ≡ [])
    × ReportsLine (Some r) k (first_line rest).text
EndsAt (Unread e) k rest s s' t = (s' ≡ s) × (t ≡ [])
EndsAt (Unwritten e) k rest s s' t = LosesFront k rest s s' t × ¬ (rest ≡ [])
EndsAt OutOfMemory k rest s s' t = IsCut rest s s' × (t ≡ [])

-- AnswersBytes bytes s s' text ended: the lines of a client's file were answered in order up to an end, and this is
-- what the client was answered
pub record AnswersBytes (bytes : List ℕ) (was is : ClientView) (text : List ℕ) (ended : FileEnd) : Type 0 where
  pub lines : List Line
  pub rest : List ℕ
  pub last : ClientView
  pub reported : List ℕ
  pub answered : AnswersLines was.project bytes was lines rest last
  pub ends : EndsAt ended (length lines + 1) rest last is reported
  pub text_is : text ≡ lines_text was.project lines ++ reported

-- the client of a project's file was answered this text: of the first 67,108,864 bytes of the file, if it is known what
-- there is. Its seat began empty
abbrev pub AnswersFile : (project : ℕ) → Option (List ℕ) → (seat : ClientView) → (text : List ℕ) → FileEnd → Type 0
AnswersFile q input s text ended = (bytes : List ℕ) × AreRead input bytes × AnswersBytes bytes (empty_client q)
    s text ended

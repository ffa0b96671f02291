-- What a farm of clients and workers answers, and what it prints.
use Rattle.std.specs.Prelude.{◌≡◌, ◌⊎◌, ⊤, ℕ, suc, ◌+◌, List, [], ◌∷◌, ◌++◌, Option, Some, None}
use Rattle.std.specs.Io.KnownBytes.{Appends}
use Rattle.std.specs.Global.{Vec}
use Rattle.pf_wire.specs.declared.reported.WrittenAnswer as wire
use Rattle.pf_errors.specs.declared.fault.OrNoMemory.{OrNoMemory}
use Rattle.pf_errors.specs.declared.fault.OrNoMemory.TheVariants.{Fault, NoMemory}
use Rattle.pf_streams.specs.declared.stream.StreamFault.{StreamFault}
use Rattle.pf_streams.specs.declared.stream.StreamFault.TheVariants.{Read, Write}
use Rattle.pf_streams.specs.Streams.{AppendsFront}
use Rattle.pf_desks.specs.History.{IsLegalDesk}
use Rattle.pf_desks.specs.Desks.{desk_at}
use Rattle.pf_farm_accounts.specs.Rows.{HaveEnded}
use Rattle.pf_book.specs.Profile.{ForRight}
use Rattle.pf_farm_laws.specs.Reported.{AgreesWithHistories}
use Rattle.pf_farm_state.specs.Clients.{all_receipts, closed_as, empty_client, AreFull, AreLegal, AreTheCalls}
use Rattle.pf_farm_state.specs.Clients.{SawTruly}
use Rattle.pf_farm_state.specs.declared.client.ClosedSeat.{ClosedSeat}
use Rattle.pf_farm_state.specs.declared.closing.Closing.{Closing}
use Rattle.pf_clients.specs.declared.end.FileEnd.{FileEnd}
use Rattle.pf_clients.specs.declared.end.FileEnd.TheVariants.{Answered, NoCommand, Unread, Unwritten}
use Rattle.pf_clients.specs.declared.end.FileEnd.TheVariants.{NoMemory as OutOfMemory}
use Rattle.pf_clients.specs.declared.reported.ClientAnswers.{ClientAnswers}
use Rattle.pf_clients.specs.declared.streams.ClientStreams.{ClientStreams}
use Rattle.pf_clients.specs.Lines.{AnswersFile}
use Rattle.pf_clients.specs.Served.{unopened}
use Rattle.pf_clients.specs.Texts.{reported_text}

-- ---- what is written

-- what was kept of what a client was answered, and how its file ended
pub record ClientText : Type 0 where
  pub text : List ℕ
  pub ended : FileEnd

abbrev pub answers_of : Vec wire.WrittenAnswer → FileEnd → ClientAnswers
answers_of reported e = record { reported = reported; ended = e }

abbrev pub client_text : ClientAnswers → ClientText
client_text a = record { text = reported_text a.reported.items; ended = a.ended }

-- why no file is printed after one that ended so, if none is
abbrev pub stop_at : FileEnd → Option (OrNoMemory StreamFault)
stop_at Answered = None
stop_at (NoCommand r) = None
stop_at (Unread e) = Some (Fault (Read e))
stop_at (Unwritten e) = None
stop_at OutOfMemory = Some NoMemory

abbrev pub or_else : Option (OrNoMemory StreamFault) → Option (OrNoMemory StreamFault) → Option (OrNoMemory StreamFault)
or_else None o = o
or_else (Some e) o = Some e

abbrev pub first_stop : List ClientText → Option (OrNoMemory StreamFault)
first_stop [] = None
first_stop (c ∷ cs) = or_else (stop_at c.ended) (first_stop cs)

abbrev pub unless : Option (OrNoMemory StreamFault) → List ℕ → List ℕ
unless None text = text
unless (Some e) text = []

-- what is printed: what was kept of the clients, file by file, up to one after which none is printed
abbrev pub printed : List ClientText → List ℕ
printed [] = []
printed (c ∷ cs) = c.text ++ unless (stop_at c.ended) (printed cs)

-- the status: 2 if a line was no command or an answer can't be written, and else 0
abbrev pub status_at : FileEnd → (others : ℕ) → ℕ
status_at (NoCommand r) n = 2
status_at (Unwritten e) n = 2
status_at Answered n = n
status_at (Unread e) n = n
status_at OutOfMemory n = n

abbrev pub status_of : List ClientText → ℕ
status_of [] = 0
status_of (c ∷ cs) = status_at c.ended (status_of cs)

-- all was printed, and this is the status
abbrev pub Prints : List ClientText → (status : ℕ) → (written_old written_new : Option (List ℕ)) → Type 0
Prints cs status w0 w1 = (first_stop cs ≡ None) × (status ≡ status_of cs) × Appends w0 w1 (printed cs)

-- a write failed and was counted, and a beginning of what is printed was; or a file can't be read or memory ran
-- out, and all that is printed did
abbrev pub PrintsInPart : List ClientText → OrNoMemory StreamFault → (written_old written_new : Option (List ℕ))
    → (failed_old failed_new : ℕ) → Type 0
PrintsInPart cs (Fault (Write e)) w0 w1 n0 n1 = (n1 ≡ n0 + 1) × AppendsFront w0 w1 (printed cs)
PrintsInPart cs (Fault (Read e)) w0 w1 n0 n1 = (n1 ≡ n0) × (first_stop cs ≡ Some (Fault (Read e)))
    × Appends w0 w1 (printed cs)
PrintsInPart cs NoMemory w0 w1 n0 n1 = (n1 ≡ n0) × (first_stop cs ≡ Some NoMemory) × Appends w0 w1 (printed cs)

-- ---- a farm

-- what a client was answered was taken by its writer, and nothing kept; or it has none, and this was kept
abbrev pub IsTaken : {V : Type 0} → (contents : V → Option (List ℕ)) → (was is : Option V) → (kept text : List ℕ)
    → Type 0
IsTaken contents None None kept text = kept ≡ text
IsTaken contents (Some v) (Some w) kept text = (kept ≡ []) × Appends (contents v) (contents w) text
IsTaken contents None (Some w) kept text = ⊥
IsTaken contents (Some v) None kept text = ⊥

-- nothing was written, since no thread can be started
abbrev pub NeverBegins : OrNoMemory StreamFault → (written_old written_new : Option (List ℕ))
    → (failed_old failed_new : ℕ) → Type 0
NeverBegins (Fault (Write e)) w0 w1 n0 n1 = ⊥
NeverBegins (Fault (Read e)) w0 w1 n0 n1 = (w1 ≡ w0) × (n1 ≡ n0)
NeverBegins NoMemory w0 w1 n0 n1 = (w1 ≡ w0) × (n1 ≡ n0)

-- X is what clients are given, which may give streams to the client of project k, or lack one; of a file it may be
-- known what remains, and of a writer what it holds
module _ {X F V : Type 0} (gives : ℕ → X → ClientStreams F V → Type 0) (lacks : ℕ → X → StreamFault → Type 0)
    (remaining : F → Option (List ℕ)) (contents : V → Option (List ℕ)) where
  -- the client of project k was answered, this is left of its writer and of its seat, and this was kept
  abbrev pub IsAnswered : (k : ℕ) → X → (left : Option V) → ClosedSeat → ClientText → Type 0
  IsAnswered k x w s c =
      (streams : ClientStreams F V) × (text : List ℕ) × gives k x streams
      × AnswersFile k (remaining streams.file) (closed_as s) text c.ended
      × IsTaken contents streams.replies w c.text text

  -- one of its streams can't be opened, and nothing was done
  abbrev pub IsUnopened : (k : ℕ) → X → (left : Option V) → ClosedSeat → ClientText → Type 0
  IsUnopened k x w s c =
      (e : StreamFault) × lacks k x e × (c.ended ≡ unopened e) × (closed_as s ≡ empty_client k) × (w ≡ None)
      × (c.text ≡ [])

  -- these are what is left of the clients that were given this, and of their writers, and what was kept; the first is
  -- of project k, and each is of the next project
  abbrev pub AreAnswered : (k : ℕ) → List X → (left : List (Option V)) → List ClosedSeat → List ClientText → Type 0
  AreAnswered k [] [] [] [] = ⊤
  AreAnswered k (x ∷ xs) (w ∷ ws) (s ∷ ss) (c ∷ cs) =
      (IsAnswered k x w s c ⊎ IsUnopened k x w s c) × AreAnswered (suc k) xs ws ss cs
  AreAnswered k _ _ _ _ = ⊥

  -- a farm of a client for each of these, the k-th being that of project k, in which this was kept of the clients, and
  -- this is left of their writers; and what is left when it is closed: the receipts of the clients are those of all
  -- calls that the histories note, each once, and these histories are legal; what each client saw that waited was so at
  -- that point of its own project's
  pub record FarmOf (xs : List X) (left : List (Option V)) (clients : List ClientText) : Type 0 where
    pub closing : Closing
    pub answered : AreAnswered 1 xs left closing.seats.items clients
    pub receipts : ForRight (λ p. AreTheCalls (all_receipts closing.seats.items) closing.book)
    pub legal : ForRight (λ p. AreLegal p closing.seats.items closing.book)
    pub full : ForRight (λ p. AreFull closing.seats.items closing.book)
    pub looks : ForRight (λ p. SawTruly p closing.seats.items closing.book closing.stopped)
    pub ended : HaveEnded closing.rows.items
    pub reported : ForRight (λ p. AgreesWithHistories closing.rows.items closing.book)

  -- what such a farm kept of its clients was printed
  abbrev pub FarmPrints : List X → (left : List (Option V)) → (status : ℕ)
      → (written_old written_new : Option (List ℕ)) → Type 0
  FarmPrints xs left status w0 w1 =
      (clients : List ClientText) × FarmOf xs left clients × Prints clients status w0 w1

  -- the farm never began; or what it kept of its clients was printed in part
  abbrev pub FarmLeaves : List X → (left : List (Option V)) → OrNoMemory StreamFault
      → (written_old written_new : Option (List ℕ)) → (failed_old failed_new : ℕ) → Type 0
  FarmLeaves xs left e w0 w1 n0 n1 =
      NeverBegins e w0 w1 n0 n1
      ⊎ ((clients : List ClientText) × FarmOf xs left clients × PrintsInPart clients e w0 w1 n0 n1)

-- What clients were answered, and the histories of the desks.
use Rattle.std.specs.Prelude.{◌≡◌, ◌⊎◌, ℕ, Bool, true, false, List, [], ◌∷◌, ◌++◌, map, All, Result, Ok, Err}
use Rattle.pf_errors.specs.declared.code.Code.TheVariants as code
use Rattle.pf_errors.specs.declared.memory.NoMemory.{NoMemory}
use Rattle.pf_request.specs.declared.call.Call as call_code
use Rattle.pf_request.specs.View.{view_of_call}
use Rattle.pf_quota.specs.declared.refusals.TheConstants.{MOST_CALLS}
use Rattle.pf_desks.specs.Calls.{calls_in}
use Rattle.pf_desks.specs.Desk.{Profile, Entry, called, claimed, filed, handed_back, refused}
use Rattle.pf_desks.specs.History.{IsLegalDesk}
use Rattle.pf_desks.specs.Desks.{Desks, desk_at}
use Rattle.pf_book.specs.declared.reply.Reply as reply_code
use Rattle.pf_book.specs.View.{view_of_reply}
use Rattle.pf_farm_accounts.specs.declared.receipt.Receipt.{Receipt}
use Rattle.pf_farm_accounts.specs.Receipts.{receipt_of, of_project, AreNumbered, EachOnce}
use Rattle.pf_farm_state.specs.Looks.{AreTrueLooks}
use Rattle.pf_farm_state.specs.declared.client.ClosedSeat.{ClosedSeat}
use Rattle.pf_farm_state.specs.declared.look.TrialLook.{TrialLook}

-- a receipt of a client's call, and of its reply
abbrev pub ClientReplies : Type 0
ClientReplies = Receipt call_code.Call reply_code.Reply

-- a client's seat: its project, its receipts, what it saw that waited, and whether the log of its project is full
pub record ClientView : Type 0 where
  pub project : ℕ
  pub receipts : List ClientReplies
  pub looks : List TrialLook
  pub is_full : Bool

abbrev pub empty_client : (project : ℕ) → ClientView
empty_client q = record { project = q; receipts = []; looks = []; is_full = false }

-- what the history notes of a call that has this receipt
abbrev pub noted_by : ClientReplies → Entry
noted_by r = called (view_of_call r.call.value) (view_of_reply r.reply.value)

-- the calls that a history notes, in order
abbrev pub calls_noted : List Entry → List Entry
calls_noted [] = []
calls_noted (called c r ∷ es) = called c r ∷ calls_noted es
calls_noted (claimed t ∷ es) = calls_noted es
calls_noted (filed t m ∷ es) = calls_noted es
calls_noted (handed_back t ∷ es) = calls_noted es

-- the receipts are, project by project, those of the calls that its history notes, in order, and are counted from 1
abbrev pub IsLogged : List ClientReplies → Desks → Type 0
IsLogged log w = AreNumbered log × ((q : ℕ) → map noted_by (of_project q log) ≡ calls_noted (desk_at q w).history)

-- these are the receipts of the calls that the histories note, each once
abbrev pub AreTheCalls : List ClientReplies → Desks → Type 0
AreTheCalls rs w = (log : List ClientReplies) × EachOnce rs log × IsLogged log w

-- ---- one call

-- the seat with one receipt more
abbrev pub with_receipt : ClientView → ClientReplies → ClientView
with_receipt s r = record s { receipts = s.receipts ++ r ∷ [] }

-- the seat with one look more
abbrev pub with_look : ClientView → TrialLook → ClientView
with_look s l = record s { looks = s.looks ++ l ∷ [] }

-- the seat, of a project whose log is full
abbrev pub full_seat : ClientView → ClientView
full_seat s = record s { is_full = true }

-- a call is refused, since there are too many for the log; memory doesn't run out in it
abbrev pub IsOneTooMany : Result reply_code.Reply NoMemory → Type 0
IsOneTooMany (Ok r) = view_of_reply r ≡ refused code.TooManyCalls
IsOneTooMany (Err e) = ⊥

-- the seat has one receipt more, of this call and its reply; or the log of its project is full, and the call is refused
-- for that and isn't logged
abbrev pub GetsReceipt : (call : call_code.Call) → (reply : reply_code.Reply) → (was is : ClientView) → Type 0
GetsReceipt c r s s' = ((n : ℕ) × (s' ≡ with_receipt s (receipt_of s.project n c r)))
    ⊎ ((s' ≡ full_seat s) × IsOneTooMany (Ok r))

-- a seat that is full stays as it is, and each call of it is refused
abbrev pub StaysFull : (was is : ClientView) → Result reply_code.Reply NoMemory → Type 0
StaysFull s s' r = s.is_full ≡ true → (s' ≡ s) × IsOneTooMany r

-- ---- seats that are closed

-- all receipts of these seats
abbrev pub all_receipts : List ClosedSeat → List ClientReplies
all_receipts [] = []
all_receipts (s ∷ ss) = s.reported.receipts.items ++ all_receipts ss

-- what is left of each of these seats
abbrev pub closed_as : ClosedSeat → ClientView
closed_as s = record {
  project = s.reported.project;
  receipts = s.reported.receipts.items;
  looks = s.looks;
  is_full = s.is_full;
}

-- the history of each seat's project is legal: replayed on an empty desk it gives the desk, and its own replies
abbrev pub AreLegal : Profile → List ClosedSeat → Desks → Type 0
AreLegal p ss w = All (λ s. IsLegalDesk p (desk_at s.reported.project w)) ss

-- the project of each seat that is full has as many calls as a log holds
abbrev pub AreFull : List ClosedSeat → Desks → Type 0
AreFull ss w = All (λ s. s.is_full ≡ true → calls_in (desk_at s.reported.project w).history ≡ MOST_CALLS) ss

-- what each of these clients saw was so, and the farm was stopped if one saw that
abbrev pub SawTruly : Profile → List ClosedSeat → Desks → (stopped : Bool) → Type 0
SawTruly p ss w stopped = All (λ s. AreTrueLooks p w stopped s.looks) ss

-- Receipts beside the histories: each reply was given at one point of the legal history of its own project.
use Rattle.std.specs.Prelude.{◌≡◌, ℕ, ◌+◌, List, ◌∷◌, ◌++◌, map, All, Some, slice_get}
use Rattle.pf_request.specs.Calls.{Call}
use Rattle.pf_desks.specs.Calls.{HasRoom, calls_in, reply_to}
use Rattle.pf_desks.specs.Desk.{Profile, Desk, no_desk, Reply, Entry, called}
use Rattle.pf_desks.specs.History.{IsLegal, IsLegalDesk, calls_noted}
use Rattle.pf_desks.specs.Desks.{Desks, desk_at}
use Rattle.pf_farm_accounts.specs.declared.receipt.Receipt.{Receipt}
use Rattle.pf_farm_accounts.specs.Receipts.{of_project, AreNumbered, EachOnce}

-- the point of a history at which call number n was made and got this reply: what is noted before it leads from an
-- empty desk to one whose log has room, and the reply is that desk's own
pub record IsPoint (p : Profile) (es : List Entry) (n : ℕ) (c : Call) (r : Reply) (before : List Entry) : Type 0 where
  pub after : List Entry
  pub desk : Desk
  pub noted : es ≡ before ++ called c r ∷ after
  pub number : calls_in before + 1 ≡ n
  pub led : IsLegal p no_desk before desk
  pub room : HasRoom desk
  pub reply : r ≡ reply_to p desk c

-- there is one such point, and no other call of the history has that number
pub record WasGiven (p : Profile) (es : List Entry) (n : ℕ) (c : Call) (r : Reply) : Type 0 where
  pub before : List Entry
  pub point : IsPoint p es n c r before
  pub only : (c' : Call) (r' : Reply) (other : List Entry) → IsPoint p es n c' r' other
      → (other ≡ before) × (called c' r' ≡ called c r)

-- receipts, by how their calls and replies are seen
module _ {C A : Type 0} (call : C → Call) (reply : A → Reply) where
  -- what the history notes of a call that has this receipt
  abbrev pub noted_by : Receipt C A → Entry
  noted_by r = called (call r.call.value) (reply r.reply.value)

  -- the receipts are, project by project, those of the calls that its history notes, in order, and are counted from 1
  abbrev pub IsLogged : List (Receipt C A) → Desks → Type 0
  IsLogged log w = AreNumbered log × ((q : ℕ) → map noted_by (of_project q log) ≡ calls_noted (desk_at q w).history)

  -- these are the receipts of the calls that the histories note, each once
  abbrev pub AreTheCalls : List (Receipt C A) → Desks → Type 0
  AreTheCalls rs w = (log : List (Receipt C A)) × EachOnce rs log × IsLogged log w

  -- the reply of a receipt was given at one point of the history of its project
  abbrev pub HasItsPoint : Profile → Desks → Receipt C A → Type 0
  HasItsPoint p w r = WasGiven p (desk_at r.project w).history r.number (call r.call.value) (reply r.reply.value)

  -- where each history is legal and these are the receipts of the calls that they note, the reply of each was given at
  -- one point of the history of its own project, in which no other project occurs
  abbrev pub RepliesHaveTheirPoints : Type 0
  RepliesHaveTheirPoints =
      (p : Profile) (rs : List (Receipt C A)) (w : Desks) → ((q : ℕ) → IsLegalDesk p (desk_at q w)) → AreTheCalls rs w
      → All (HasItsPoint p w) rs

  -- no two of these receipts are of one call
  abbrev pub AreOfOwnCalls : List (Receipt C A) → Type 0
  AreOfOwnCalls rs =
      (i k : ℕ) (r s : Receipt C A) → slice_get rs i ≡ Some r → slice_get rs k ≡ Some s → r.project ≡ s.project
      → r.number ≡ s.number → i ≡ k

  -- nor are two receipts of the calls that the histories note
  abbrev pub ReceiptsAreOfOwnCalls : Type 0
  ReceiptsAreOfOwnCalls = (rs : List (Receipt C A)) (w : Desks) → AreTheCalls rs w → AreOfOwnCalls rs

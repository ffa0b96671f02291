-- Seats that are closed.
use Rattle.std.proofs.Common.{◌≡◌, ℕ, true, List, [], ◌∷◌, ◌++◌, sym, ap, ◌∙◌, append-nil, append_assoc, arith}
use Rattle.std.proofs.lemmas.List.Elements.{All-push}
use Rattle.pf_quota.specs.declared.refusals.TheConstants.{MOST_CALLS}
use Rattle.pf_desks.specs.Calls.{calls_in}
use Rattle.pf_desks.specs.History.{IsLegalDesk}
use Rattle.pf_desks.specs.Desks.{Desks, desk_at}
use Rattle.pf_farm_accounts.specs.Places.{StartsWith}
use Rattle.pf_book.specs.Profile.{ForRight}
use Rattle.pf_farm_state.specs.declared.client.ClosedSeat.{ClosedSeat}
use Rattle.pf_farm_state.specs.Clients.{ClientReplies, IsLogged, all_receipts, AreFull}
use Rattle.pf_farm_state.proofs.Full.{HasMost, still_most}
use Rattle.pf_farm_state.proofs.Logged.{as_many_logged}
use Rattle.pf_farm_state.proofs.Noted.{most_calls}

pub all_more : (ss : List ClosedSeat) (s : ClosedSeat)
    → all_receipts (ss ++ s ∷ []) ≡ all_receipts ss ++ s.reported.receipts.items
all_more [] s = append-nil s.reported.receipts.items
all_more (x ∷ ss) s = ap (λ l. x.reported.receipts.items ++ l) (all_more ss s)
    ∙ sym (append_assoc x.reported.receipts.items (all_receipts ss) s.reported.receipts.items)

-- the log of this seat's project has as many calls as a log holds
abbrev pub IsFull : ClosedSeat → Desks → Type 0
IsFull s w = s.is_full ≡ true → calls_in (desk_at s.reported.project w).history ≡ MOST_CALLS

pub full_more : (ss : List ClosedSeat) (s : ClosedSeat) (w : Desks) → AreFull ss w → IsFull s w
    → AreFull (ss ++ s ∷ []) w
full_more ss s w all one = All-push (λ (x : ClosedSeat). IsFull x w) ss s all one

-- what a seat has seen of a log that is full is all that the history notes
pub is_most : (log seen : List ClientReplies) (w : Desks) (q : ℕ) → ForRight (λ p. IsLogged log w)
    → ForRight (λ p. IsLegalDesk p (desk_at q w)) → StartsWith log seen → HasMost q seen
    → ForRight (λ p. calls_in (desk_at q w).history ≡ MOST_CALLS)
is_most log seen w q logged legal starts most p right =
    omega (
      arith,
      still_most q log seen starts most,
      as_many_logged log w (logged p right) q,
      most_calls p (desk_at q w) (legal p right),
    )

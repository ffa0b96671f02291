-- Tickets keep their jobs where a desk changes.
use Rattle.std.proofs.Common.{◌≡◌, ℕ, sym, subst}
use Rattle.pf_model.specs.Shrinking.{Result}
use Rattle.pf_desks.specs.Desk.{Desk, done}
use Rattle.pf_desks.specs.Jobs.{KeepsTickets, KeepsAllTickets}
use Rattle.pf_desks.specs.Desks.{Desks, desk_at, put_desk}
use Rattle.pf_desks.proofs.Jobs.{tickets_dropped, tickets_in_state, tickets_placed, tickets_pushed}
use Rattle.pf_book.specs.Answers.{with_result}
use Rattle.pf_book.specs.Plans.{with_change}
use Rattle.pf_book.specs.declared.plan.DeskChange.{DeskChange}
use Rattle.pf_book.specs.declared.plan.DeskChange.TheVariants as change

pub change_tickets : (d : Desk) (a : DeskChange) → KeepsTickets d (with_change d a)
change_tickets d change.Nothing = λ t j k. k
change_tickets d (change.Module m) = λ t j k. k
change_tickets d (change.Trial n j) = tickets_pushed d n j.value
change_tickets d (change.DropTrial t) = tickets_dropped d t
change_tickets d (change.Withdraw n) = λ t j k. k
change_tickets d (change.Edition e) = λ t j k. k

pub file_tickets : (d : Desk) (t : ℕ) (r : Result) → KeepsTickets d (with_result d t r)
file_tickets d t r = tickets_in_state d t (λ j. done r)

pub same_tickets : (d d' : Desk) → d' ≡ d → KeepsTickets d d'
same_tickets d d' same = subst (KeepsTickets d) (sym same) (λ t j k. k)

-- desks of which none changed, and those with another one for a project
pub same_all_tickets : (w w' : Desks) → w' ≡ w → KeepsAllTickets w w'
same_all_tickets w w' same = subst (KeepsAllTickets w) (sym same) (λ q t j k. k)

pub put_tickets : (q : ℕ) (w w' : Desks) (d d' : Desk) → desk_at q w ≡ d → w' ≡ put_desk q d' w → KeepsTickets d d'
    → KeepsAllTickets w w'
put_tickets q w w' d d' here put keeps =
    subst (KeepsAllTickets w) (sym put) (λ r.
    tickets_placed r q d' w (subst (λ (k : Desk). KeepsTickets k d') (sym here) keeps))

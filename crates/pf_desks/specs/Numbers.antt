-- The numbers that a project is given.
use Rattle.std.specs.Prelude.{◌≡◌, ℕ, ◌+◌, List, [], ◌∷◌, filter_map, Option, Some, None}
use Rattle.pf_desks.specs.Desk.{Profile, Desk, Reply, number, ticket}
use Rattle.pf_desks.specs.History.{IsLegalDesk, replies_noted}
use Rattle.pf_desks.specs.Desks.{DeskStep, all_answers, replies_to}

-- the module's number that a reply gives
abbrev pub replied_number : Reply → Option ℕ
replied_number (number n) = Some n
replied_number _ = None

-- the ticket that a reply gives
abbrev pub ticket_in : Reply → Option ℕ
ticket_in (ticket t) = Some t
ticket_in _ = None

-- CountUp n ns: the first of these is n, and each other is one above the one before
abbrev pub CountUp : ℕ → List ℕ → Type 0
CountUp n [] = Unit {0}
CountUp n (m ∷ ms) = (m ≡ n) × CountUp (n + 1) ms

-- the modules' numbers that these replies give are 1, 2, 3 and so on, and so are their tickets
abbrev pub ReportEachOnce : List Reply → Type 0
ReportEachOnce rs = CountUp 1 (filter_map replied_number rs) × CountUp 1 (filter_map ticket_in rs)

-- no legal history notes a number or a ticket twice, whatever was given up
abbrev pub LegalHistoriesReportEachOnce : Type 0
LegalHistoriesReportEachOnce = (p : Profile) (d : Desk) → IsLegalDesk p d → ReportEachOnce (replies_noted d.history)

-- whatever steps there are, from no open desk, the modules' numbers that a project is given are
-- 1, 2, 3 and so on, and so are its tickets: none is given twice, whatever was given up
abbrev pub NoNumberTwice : Type 0
NoNumberTwice = (p : Profile) (q : ℕ) (ss : List DeskStep) → ReportEachOnce (replies_to q ss (all_answers p ss))

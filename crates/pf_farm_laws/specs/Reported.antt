-- The ledger of claims says what the histories of all desks say.
use Rattle.std.specs.Prelude.{◌≡◌, ◌⊎◌, ℕ, ◌<◌, ◌≤◌, true, List, All}
use Rattle.pf_request.specs.Job.{Job}
use Rattle.pf_desks.specs.Desk.{Desk, held_at}
use Rattle.pf_desks.specs.Jobs.{IsTicketOf}
use Rattle.pf_desks.specs.Work.{is_running}
use Rattle.pf_desks.specs.Desks.{Desks, desk_at}
use Rattle.pf_farm_accounts.specs.declared.row.ClaimRow.{ClaimRow}
use Rattle.pf_farm_laws.specs.Tally.{tally}
use Rattle.pf_farm_laws.specs.ClaimNotes.{claims_noted, is_file, is_hand_back}
use Rattle.pf_farm_laws.specs.Claims.{claims_opened, claims_that, is_open, is_filed, is_handed_back, is_stray}
use Rattle.pf_farm_laws.specs.Gone.{IsGone}

-- the trial of a ticket is running, or it is dropped
abbrev pub IsOut : Desk → ℕ → Type 0
IsOut d t = (is_running (held_at d.trials t) ≡ true) ⊎ IsGone d t

-- what the ledger says of a project is what the history of its desk says: the same claims in the same order, and of
-- each ticket as many filed and as many handed back. A trial has one open claim at most, and only while it is running
-- or if it is dropped; one with a stray claim is dropped
pub record IsReportedAt (q : ℕ) (rows : List (ClaimRow Job)) (d : Desk) : Type 0 where
  pub claims : claims_noted d.history ≡ claims_opened q rows
  pub filed : (t : ℕ) → tally (is_file t) d.history ≡ claims_that is_filed q t rows
  pub handed_back : (t : ℕ) → tally (is_hand_back t) d.history ≡ claims_that is_handed_back q t rows
  pub open_once : (t : ℕ) → claims_that is_open q t rows ≤ 1
  pub open_out : (t : ℕ) → 0 < claims_that is_open q t rows → IsOut d t
  pub stray_gone : (t : ℕ) → 0 < claims_that is_stray q t rows → IsGone d t

-- it is so of each project
abbrev pub AgreesWithHistories : List (ClaimRow Job) → Desks → Type 0
AgreesWithHistories rows w = (q : ℕ) → IsReportedAt q rows (desk_at q w)

-- each claim is of the job of its ticket
abbrev pub AreOfTheirJobs : List (ClaimRow Job) → Desks → Type 0
AreOfTheirJobs rows w = All (λ r. IsTicketOf (desk_at r.claim.project w) r.claim.ticket r.claim.job.value) rows

-- The book of all desks and the ledger of all claims, which are under one lock.
use Rattle.std.specs.Prelude.{◌≡◌, ℕ, zero, suc, Bool, true, false, if◌then◌else◌, List, [], length, refl}
use Rattle.std.specs.Coded.{Coded, code_by, coded×, coded_ℕ, coded_bool, coded_list, coded_option}
use Rattle.pf_request.specs.Encoding.{coded_job}
use Rattle.pf_request.specs.Job.{Job}
use Rattle.pf_desks.specs.Desk.{held_at}
use Rattle.pf_desks.specs.Work.{is_queued}
use Rattle.pf_desks.specs.Desks.{Desks, desk_at}
use Rattle.pf_desks.specs.Encoding.{coded_desks}
use Rattle.pf_farm_accounts.specs.declared.row.ClaimRow.{ClaimRow}
use Rattle.pf_farm_accounts.specs.declared.row.ClaimEnd.{ClaimEnd}
use Rattle.pf_farm_accounts.specs.declared.row.ClaimEnd.TheVariants.{Filed, HandedBack, Stray}
use Rattle.pf_farm_accounts.specs.Rows.{claim_of, row_of}
use Rattle.pf_book.specs.Profile.{ForRight}
use Rattle.pf_farm_laws.specs.Reported.{AgreesWithHistories, AreOfTheirJobs}
use Rattle.pf_farm_laws.specs.Stages.{stage_at}
use Rattle.pf_farm_state.specs.Clients.{ClientReplies, IsLogged}
use Rattle.pf_farm_state.specs.Looks.{look_of}
use Rattle.pf_farm_state.specs.declared.look.TrialLook.{TrialLook}

-- the rows of the ledger, the desks by project, and whether the farm was stopped
pub record Hall : Type 0 where
  pub rows : List (ClaimRow Job)
  pub desks : Desks
  pub stopped : Bool

abbrev pub no_hall : Hall
no_hall = record { rows = []; desks = []; stopped = false }

-- with nothing else changed the farm was stopped
abbrev pub stopped_hall : Hall → Hall
stopped_hall h = record h { stopped = true }

-- what a client of a project sees now that waits for the trial of a ticket
abbrev pub look_at : Hall → (project ticket : ℕ) → TrialLook
look_at h q t = look_of q t (length (desk_at q h.desks).history) (stage_at (desk_at q h.desks) t) h.stopped

-- what the ledger and the receipts say is what the histories of the desks say, and each claim is of the job of its
-- ticket
abbrev pub IsSound : List (ClaimRow Job) → List ClientReplies → Desks → Type 0
IsSound rows log w = ForRight (λ p. AgreesWithHistories rows w × IsLogged log w) × AreOfTheirJobs rows w

-- no trial of any desk is queued
abbrev pub NoneIsQueued : Desks → Type 0
NoneIsQueued w = (q t : ℕ) → is_queued (held_at (desk_at q w).trials t) ≡ false

-- how a claim ends: so, if that could be done, or else as stray
abbrev pub end_or_stray : Bool → ClaimEnd → ClaimEnd
end_or_stray b e = if b then e else Stray

-- ---- how the logic stores halls

abbrev pub rank_of_end : ClaimEnd → ℕ
rank_of_end Filed = 0
rank_of_end HandedBack = 1
rank_of_end Stray = 2

abbrev pub end_at : ℕ → ClaimEnd
end_at zero = Filed
end_at (suc zero) = HandedBack
end_at (suc (suc n)) = Stray

pub end_at-rank_of : (e : ClaimEnd) → end_at (rank_of_end e) ≡ e
end_at-rank_of Filed = refl
end_at-rank_of HandedBack = refl
end_at-rank_of Stray = refl

abbrev pub coded_end : Coded ClaimEnd
coded_end = code_by _ coded_ℕ rank_of_end end_at end_at-rank_of

abbrev pub coded_row : Coded (ClaimRow Job)
coded_row =
    code_by _ (coded× coded_ℕ (coded× coded_ℕ (coded× coded_job (coded_option coded_end))))
    (λ r. (r.claim.project, (r.claim.ticket, (r.claim.job.value, r.end))))
    (λ x. row_of (claim_of x.0 x.1.0 x.1.1.0) x.1.1.1) (λ _. refl)

abbrev pub coded_hall : Coded Hall
coded_hall = code_by _ (coded× (coded_list coded_row) (coded× coded_desks coded_bool))
    (λ h. (h.rows, (h.desks, h.stopped))) (λ x. record { rows = x.0; desks = x.1.0; stopped = x.1.1 }) (λ _. refl)

-- What the ledger says of a project.
use Rattle.std.specs.Prelude.{ℕ, ◌==◌, ◌&&◌, Bool, true, false, List, [], ◌∷◌, Option, Some, None}
use Rattle.pf_request.specs.Job.{Job}
use Rattle.pf_farm_accounts.specs.declared.row.Claim.{Claim}
use Rattle.pf_farm_accounts.specs.declared.row.ClaimRow.{ClaimRow}
use Rattle.pf_farm_accounts.specs.declared.row.ClaimEnd.{ClaimEnd}
use Rattle.pf_farm_accounts.specs.declared.row.ClaimEnd.TheVariants.{Filed, HandedBack, Stray}
use Rattle.pf_farm_laws.specs.Tally.{tally, put_if}

-- the tickets whose trials were claimed in a project, in order
abbrev pub claims_opened : ℕ → List (ClaimRow Job) → List ℕ
claims_opened q [] = []
claims_opened q (r ∷ rs) = put_if (r.claim.project == q) r.claim.ticket (claims_opened q rs)

-- it is a claim of the trial of a project's ticket
abbrev pub is_of : (project ticket : ℕ) → Claim Job → Bool
is_of q t c = (c.project == q) && (c.ticket == t)

abbrev pub is_open : Option ClaimEnd → Bool
is_open None = true
is_open (Some e) = false

abbrev pub is_filed : Option ClaimEnd → Bool
is_filed None = false
is_filed (Some Filed) = true
is_filed (Some HandedBack) = false
is_filed (Some Stray) = false

abbrev pub is_handed_back : Option ClaimEnd → Bool
is_handed_back None = false
is_handed_back (Some Filed) = false
is_handed_back (Some HandedBack) = true
is_handed_back (Some Stray) = false

abbrev pub is_stray : Option ClaimEnd → Bool
is_stray None = false
is_stray (Some Filed) = false
is_stray (Some HandedBack) = false
is_stray (Some Stray) = true

-- how many claims of the trial of a project's ticket have such an end
abbrev pub claims_that : (Option ClaimEnd → Bool) → (project ticket : ℕ) → List (ClaimRow Job) → ℕ
claims_that f q t rows = tally (λ r. is_of q t r.claim && f r.end) rows

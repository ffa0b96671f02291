-- Claims in order, each with its end.
use Rattle.std.specs.Prelude.{◌≡◌, ◌≢◌, ℕ, zero, suc, ◌+◌, ◌==◌, if◌then◌else◌, List, [], ◌∷◌, map, Option, Some, None}
use Rattle.std.specs.Prelude.{All}
use Rattle.std.specs.declared.snapshot.Snapshot.{Snapshot}
use Rattle.pf_farm_accounts.specs.Places.{weigh}
use Rattle.pf_farm_accounts.specs.declared.row.ClaimRow.{ClaimRow}
use Rattle.pf_farm_accounts.specs.declared.row.Claim.{Claim}
use Rattle.pf_farm_accounts.specs.declared.row.ClaimEnd.{ClaimEnd}

-- 1 where a claim has ended
abbrev pub one_ended : Option ClaimEnd → ℕ
one_ended None = 0
one_ended (Some e) = 1

-- 1 at a place
abbrev pub one_at : ℕ → ℕ → ℕ
one_at k j = if j == k then 1 else 0

module _ {J : Type 0} where
  abbrev pub remembered : J → Snapshot J
  remembered job = record { marker = record {}; value = job }

  -- the claim of the trial of a project's ticket, which is of this job
  abbrev pub claim_of : (project ticket : ℕ) → J → Claim J
  claim_of project ticket job = record { project = project; ticket = ticket; job = remembered job }

  abbrev pub row_of : Claim J → Option ClaimEnd → ClaimRow J
  row_of c e = record { claim = c; end = e }

  -- each claim has ended
  abbrev pub HaveEnded : List (ClaimRow J) → Type 0
  HaveEnded rows = All (λ r. r.end ≢ None) rows

  -- ---- what the ledger keeps

  -- how many claims have ended
  abbrev pub count_ended : List (ClaimRow J) → ℕ
  count_ended [] = 0
  count_ended (r ∷ rs) = one_ended r.end + count_ended rs

  -- 1 where the claim of this number has ended
  abbrev pub ended_at : List (ClaimRow J) → ℕ → ℕ
  ended_at [] k = 0
  ended_at (r ∷ rs) zero = one_ended r.end
  ended_at (r ∷ rs) (suc k) = ended_at rs k

  -- the register's entries are the claims, and the places that came back are those of the claims that have ended, each
  -- once
  abbrev pub IsRegistered : List (ClaimRow J) → List (Claim J) → List ℕ → Type 0
  IsRegistered rows entries places = (entries ≡ map (λ r. r.claim) rows) × ((k : ℕ)
      → weigh (one_at k) places ≡ ended_at rows k)

-- Logs that are full.
use Rattle.std.proofs.Common.{ℕ, ◌≤◌, List, ◌++◌, length, refl, arith}
use Rattle.pf_quota.specs.declared.refusals.TheConstants.{MOST_CALLS}
use Rattle.pf_farm_accounts.specs.Places.{StartsWith}
use Rattle.pf_farm_accounts.specs.Receipts.{of_project}
use Rattle.pf_farm_accounts.proofs.Numbers.{no_fewer}
use Rattle.pf_farm_state.specs.Clients.{ClientReplies}

-- as many calls of a project were logged as a log holds
abbrev pub HasMost : ℕ → List ClientReplies → Type 0
HasMost q log = MOST_CALLS ≤ length (of_project q log)

-- it still has as many when more were logged
pub still_most : (q : ℕ) (log seen : List ClientReplies) → StartsWith log seen → HasMost q seen → HasMost q log
still_most q log seen starts most = omega (arith, most, no_fewer q log seen starts)

pub most_and_more : (q : ℕ) (log seen more : List ClientReplies) → StartsWith log seen → HasMost q seen
    → HasMost q (log ++ more)
most_and_more q log seen more starts most = still_most q (log ++ more) log (more, refl)
    (still_most q log seen starts most)

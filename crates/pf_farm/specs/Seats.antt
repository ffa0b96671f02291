-- What contracts see of workers' seats.
use Rattle.std.specs.Prelude.{⊤, ℕ, ◌+◌, ◌-◌, ◌^◌, ◌≡◌, ◌⊎◌, Bool, true, false, List, [], ◌∷◌, ◌++◌, length, min}
use Rattle.std.specs.Prelude.{if◌then◌else◌, Option, Some, None, option_map, slice_get, slice_set}
use Rattle.pf_farm_accounts.specs.declared.row.ClaimEnd.{ClaimEnd}
use Rattle.pf_farm_accounts.specs.declared.row.Claim.{Claim}
use Rattle.pf_farm_accounts.specs.declared.row.ClaimRow.{ClaimRow}
use Rattle.pf_farm_accounts.specs.Rows.{row_of}
use Rattle.pf_request.specs.Job.{Job}
use Rattle.pf_farm_state.specs.Hall.{end_or_stray}
use Rattle.pf_farm_accounts.specs.DequeParts.{IsDealt}
use Rattle.pf_farm_accounts.specs.DequeViews.{DequePlace, OwnerView, ThiefView, stolen_by}
use Rattle.pf_farm.specs.declared.tally.WorkTally.{WorkTally}

-- the end of its own deque and that of the deque of which it steals, if there is one, both by the numbers of claims;
-- whether it holds a run; how many it filed, and what else its worker did
pub record WorkSeatView : Type 0 where
  pub own : OwnerView ℕ
  pub next : Option (ThiefView ℕ)
  pub busy : Bool
  pub filed : ℕ
  pub tally : WorkTally

abbrev pub seat_of : OwnerView ℕ → Option (ThiefView ℕ) → (busy : Bool) → (filed : ℕ) → WorkTally → WorkSeatView
seat_of own next busy filed tally = record { own = own; next = next; busy = busy; filed = filed; tally = tally }

-- a counter stays at its greatest value
abbrev pub saturated : ℕ → ℕ
saturated n = min n (2 ^ 64 - 1)

abbrev pub no_tally : WorkTally
no_tally = record { claims = 0; steals = 0; parks = 0; hand_backs = 0 }

-- the idle seat over these two ends
abbrev pub seat_at : OwnerView ℕ → Option (ThiefView ℕ) → WorkSeatView
seat_at own next = seat_of own next false 0 no_tally

abbrev pub one_if : Bool → ℕ
one_if b = if b then 1 else 0

-- as many claims arrived at the seat as left it, but for the one that it holds
abbrev pub IsBalanced : (opened ended : ℕ) → WorkSeatView → Type 0
IsBalanced opened ended s = opened + length s.own.popped + length (stolen_by s.next) ≡ ended + length s.own.pushed
    + one_if s.busy

-- its steals and parks are counted
abbrev pub CountsSteals : WorkSeatView → Type 0
CountsSteals s = (s.tally.steals ≡ saturated (length (stolen_by s.next)))
    × (s.tally.parks ≡ saturated (length s.own.pushed))

-- its claims are counted, and those that ended as filed or as handed back
abbrev pub CountsClaims : (opened ended : ℕ) → WorkSeatView → Type 0
CountsClaims opened ended s = (s.tally.claims ≡ saturated opened)
    × (saturated (s.filed + s.tally.hand_backs) ≡ saturated ended)

-- ---- what a worker's steps leave of its seat

-- the deque of a thief, if there is one
abbrev pub thief_deque : Option (ThiefView ℕ) → Option DequePlace
thief_deque t = option_map (λ (x : ThiefView ℕ). x.deque) t

-- a seat has the ends that it had
abbrev pub SameEnds : WorkSeatView → WorkSeatView → Type 0
SameEnds s s' = (s'.own.deque ≡ s.own.deque) × (s'.own.is_alone ≡ s.own.is_alone)
    × (thief_deque s'.next ≡ thief_deque s.next)

-- and nothing was parked or filed
abbrev pub IsAsBefore : WorkSeatView → WorkSeatView → Type 0
IsAsBefore s s' = SameEnds s s' × (s'.own.pushed ≡ s.own.pushed) × (s'.filed ≡ s.filed)

-- and one run more was filed
abbrev pub HasFiled : WorkSeatView → WorkSeatView → Type 0
HasFiled s s' = SameEnds s s' × (s'.filed ≡ saturated (s.filed + 1))

-- a run was filed or parked, or the worker goes on with it
abbrev pub IsNotLost : (run : ℕ) → WorkSeatView → WorkSeatView → (next : Option ℕ) → Type 0
IsNotLost run s s' next = (s'.filed ≡ saturated (s.filed + 1)) ⊎ (s'.own.pushed ≡ s.own.pushed ++ run ∷ [])
    ⊎ (next ≡ Some run)

-- the claim was open and ends so, or as stray, in the rows of a ledger
abbrev pub ClaimEndsAs : ClaimEnd → ℕ × Claim Job → (before after : List (ClaimRow Job)) → Type 0
ClaimEndsAs end claim before after = (slice_get before claim.0 ≡ Some (row_of claim.1 None))
    × ((done : Bool) × (after ≡ slice_set before claim.0 (row_of claim.1 (Some (end_or_stray done end)))))

-- it holds no run, and none is left in its deque
abbrev pub IsIdle : WorkSeatView → Type 0
IsIdle s = (s.busy ≡ false) × (s.own.drained ≡ true)

abbrev pub AllIdle : List WorkSeatView → Type 0
AllIdle [] = ⊤
AllIdle (s ∷ ss) = IsIdle s × AllIdle ss

-- they hold no run
abbrev pub AllFree : List WorkSeatView → Type 0
AllFree [] = ⊤
AllFree (s ∷ ss) = (s.busy ≡ false) × AllFree ss

-- ---- rings

-- the first seat owns the deque `from`, each steals from the next one's, and the last from `to`
abbrev pub IsChain : (from : Option DequePlace) → List WorkSeatView → (to : Option DequePlace) → Type 0
IsChain from [] to = from ≡ to
IsChain from (s ∷ ss) to = (Some s.own.deque ≡ from) × IsChain (thief_deque s.next) ss to

-- each seat steals from the next one's deque, and the last from the first one's; but where there is one alone nobody
-- steals
abbrev pub IsRing : List WorkSeatView → Type 0
IsRing [] = ⊤
IsRing (s ∷ []) = (s.next ≡ None) × (s.own.is_alone ≡ true)
IsRing (s ∷ t ∷ ss) = (from : Option DequePlace) × IsChain from (s ∷ t ∷ ss) from

-- Spends s t: what was pushed to the deque of t was popped, or stolen by s, each in order
abbrev pub Spends : WorkSeatView → WorkSeatView → Type 0
Spends s t = IsDealt t.own.pushed t.own.popped (stolen_by s.next)

-- it is so of each of these seats, the first of which is after `before`
abbrev pub AllSpent : (before : WorkSeatView) → List WorkSeatView → Type 0
AllSpent before [] = ⊤
AllSpent before (s ∷ ss) = Spends before s × AllSpent s ss

-- it is so all round the ring
abbrev pub IsSpent : List WorkSeatView → Type 0
IsSpent ss = (last : WorkSeatView) × (others : List WorkSeatView) × (ss ≡ others ++ last ∷ []) × AllSpent last ss

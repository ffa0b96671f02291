-- Rows one by one, and how many heads they have together.
use Rattle.std.specs.Prelude.{◌≡◌, ℕ, ◌<◌, ◌≤◌, ◌^◌, [], ◌∷◌, Option, Some, None, length}
use Rattle.pf_model.specs.Channels.{Signal, Queue, SenderRow, Channels, row_with_left, heads}
use Rattle.pf_model.specs.declared.limits.TheConstants.{MOST_PROCESSES}

-- the oldest signal of the queue to b, and the row without it
abbrev pub taken_in : (b : ℕ) → SenderRow → Option Queue → Option (Signal × SenderRow)
taken_in b r None = None
taken_in b r (Some q) = Some (q.first, row_with_left b q.rest r)

-- each receiver is a number of 32 bits
abbrev pub AreReceivers : SenderRow → Type 0
AreReceivers [] = Unit {0}
AreReceivers (p ∷ ps) = (p.0 < 2 ^ 32) × AreReceivers ps

-- that many heads, and no more than are let in
pub record CountsHeads (cs : Channels) (count : ℕ) : Type 0 where
  pub counted : count ≡ length (heads cs)
  pub within : count ≤ 2 ^ 31
  pub few : length cs ≤ MOST_PROCESSES

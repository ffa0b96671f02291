-- Signals, and the channels in which they are on their way, each from one process to another.
use Rattle.std.specs.Prelude.{ℕ, zero, suc, Bool, List, [], ◌∷◌, ◌++◌, Option, Some, None, map}
use Rattle.pf_terms.specs.Value.{Value}
use Rattle.pf_sorted.specs.Maps.{got, put, without}

pub data Signal : Type 0 where
  message : Value → Signal
  link : Signal
  unlink : Signal
  -- that a reference is to watch the receiver, and that it is not to any more
  monitor : ℕ → Signal
  demonitor : ℕ → Signal
  -- the process that a reference watches ended with a reason
  down : ℕ → Value → Signal
  exit : (by_link : Bool) → (reason : Value) → Signal

-- what is on its way in one channel, the oldest first: never nothing
pub record Queue : Type 0 where
  pub first : Signal
  pub rest : List Signal

-- what one sender has on its way, by receiver
abbrev pub SenderRow : Type 0
SenderRow = List (ℕ × Queue)

-- by sender
abbrev pub Channels : Type 0
Channels = List SenderRow

abbrev pub row_of : ℕ → Channels → SenderRow
row_of n [] = []
row_of zero (r ∷ rs) = r
row_of (suc n) (r ∷ rs) = row_of n rs

abbrev pub with_row : ℕ → SenderRow → Channels → Channels
with_row zero r [] = r ∷ []
with_row (suc n) r [] = [] ∷ with_row n r []
with_row zero r (x ∷ rs) = r ∷ rs
with_row (suc n) r (x ∷ rs) = x ∷ with_row n r rs

abbrev pub signals_in : Option Queue → List Signal
signals_in None = []
signals_in (Some q) = q.first ∷ q.rest

-- the signals on their way from one process to another, the oldest first
abbrev pub on_way : (from to : ℕ) → Channels → List Signal
on_way a b cs = signals_in (got b (row_of a cs))

abbrev pub with_last : Option Queue → Signal → Queue
with_last None s = record { first = s; rest = [] }
with_last (Some q) s = record { first = q.first; rest = q.rest ++ s ∷ [] }

-- one signal more, at the end of its channel
abbrev pub sent : (from to : ℕ) → Signal → Channels → Channels
sent a b s cs = with_row a (put b (with_last (got b (row_of a cs)) s) (row_of a cs)) cs

-- a sender's row, with these left in the channel to b
abbrev pub row_with_left : ℕ → List Signal → SenderRow → SenderRow
row_with_left b [] r = without b r
row_with_left b (s ∷ ss) r = put b (record { first = s; rest = ss }) r

abbrev pub taken_from : (from to : ℕ) → Channels → Option Queue → Option (Signal × Channels)
taken_from a b cs None = None
taken_from a b cs (Some q) = Some (q.first, with_row a (row_with_left b q.rest (row_of a cs)) cs)

-- the oldest signal of a channel, and the channels without it; None where it is empty
abbrev pub taken : (from to : ℕ) → Channels → Option (Signal × Channels)
taken a b cs = taken_from a b cs (got b (row_of a cs))

-- the channels with a row for each of n senders
abbrev pub with_senders : ℕ → Channels → Channels
with_senders zero cs = cs
with_senders (suc n) [] = [] ∷ with_senders n []
with_senders (suc n) (r ∷ rs) = r ∷ with_senders n rs

-- the channels that are not empty, by sender, then receiver
abbrev pub heads_of : ℕ → SenderRow → List (ℕ × ℕ)
heads_of a r = map (λ p. (a, p.0)) r

abbrev pub heads_from : ℕ → Channels → List (ℕ × ℕ)
heads_from a [] = []
heads_from a (r ∷ rs) = heads_of a r ++ heads_from (suc a) rs

abbrev pub heads : Channels → List (ℕ × ℕ)
heads cs = heads_from zero cs

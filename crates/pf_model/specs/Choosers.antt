-- Choosers: which of those who may go goes next.
use Rattle.std.specs.Prelude.{◌+◌, ◌<◌, ℕ, suc, List, length}

-- a chooser with states of a type: in a state, of the processes that can go, by number, and the channels that are not
-- empty, by sender and receiver, it gives the index of the one who goes, processes first, and the state after that
abbrev pub Chooser : Type 0 → Type 0
Chooser S = S → (pids : List ℕ) → (channels : List (ℕ × ℕ)) → ℕ × S

module _ {S : Type 0} (choose : Chooser S) where
  -- where somebody may go it gives the index of one of them, in each state
  abbrev pub ChoosesOne : Type 0
  ChoosesOne =
      (s : S) (pids : List ℕ) (channels : List (ℕ × ℕ)) → 0 < length pids + length channels
      → (choose s pids channels).0 < length pids + length channels

-- ---- choices by counts

-- choices without end, by number from 0, each among these numbers of processes and channels, which come after the
-- processes
abbrev pub Picks : Type 0
Picks = ℕ → (procs chans : ℕ) → ℕ

-- the chooser that looks at no more than how many processes and channels there are; its state is the number of its next
-- choice
abbrev pub choose_by_picks : Picks → Chooser ℕ
choose_by_picks ps i pids channels = (ps i (length pids) (length channels), suc i)

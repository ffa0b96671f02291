-- What the code holds of those who may go beside the last process.
use Rattle.std.specs.Prelude.{◌≡◌, ℕ, List, filter}
use Rattle.pf_strategy.specs.Last.{are_others, is_other, is_other_channel}
use Rattle.pf_strategy.specs.declared.last.Others.{Others}

-- they are those of these processes and channels, and each of all has its mark
pub record AreOthers (o : Others) (pids : List ℕ) (channels : List (ℕ × ℕ)) : Type 0 where
  pub processes : o.pids.items ≡ filter (is_other o.last) pids
  pub ways : o.channels.items ≡ filter (is_other_channel o.last) channels
  pub marks : o.marks.items ≡ are_others o.last pids channels

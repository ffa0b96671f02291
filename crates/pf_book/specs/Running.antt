-- How many trials run.
use Rattle.std.specs.Prelude.{ℕ, List, Option, count_by}
use Rattle.pf_desks.specs.Desk.{Trial, Desk, all_held}
use Rattle.pf_desks.specs.Work.{is_running_state}

-- how many of these trials are running
abbrev pub running_among : List (Option Trial) → ℕ
running_among ts = count_by (λ t. is_running_state t.state) (all_held ts)

-- how many trials of a desk are running
abbrev pub running_in : Desk → ℕ
running_in d = running_among d.trials

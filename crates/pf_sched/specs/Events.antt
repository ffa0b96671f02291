-- How many events a job has: those of its run, or of all runs of its shrinking.
use Rattle.std.specs.Prelude.{◌≡◌, ℕ, zero, suc, ◌+◌, Bool, List, [], ◌∷◌, length}
use Rattle.pf_model.specs.Meaning.{Job, Report, Means, schedule}
use Rattle.pf_model.specs.Shrinking.{by_schedule, ReportsFailures}
use Rattle.pf_shrink.specs.Tried.{tried}

-- the runs of a job by these schedules have n events in all
pub data RunsHave (j : Job) : List (List ℕ) → ℕ → Type 0 where
  no_runs : RunsHave j [] zero
  and_run : (ns : List ℕ) (nss : List (List ℕ)) (r : Report) (n : ℕ) → Means (by_schedule j ns) r → RunsHave j nss n
      → RunsHave j (ns ∷ nss) (length r.events + n)

-- a job has n events; a shrinking those of the schedules that it tries
pub data HasEvents (j : Job) : ℕ → Type 0 where
  of_run : (r : Report) → j.runs ≡ zero → Means j r → HasEvents j (length r.events)
  of_shrinking : (k : ℕ) (ns : List ℕ) (fails : List ℕ → Bool) (n : ℕ) → j.runs ≡ suc k → j.choices ≡ schedule ns
      → ReportsFailures j fails → RunsHave j (tried fails (suc k) ns) n → HasEvents j n

-- Shrinking: from a schedule that fails to one that fails and of which no candidate does.
use Rattle.std.specs.Prelude.{◌≡◌, ℕ, zero, suc, ◌/◌, Bool, true, false, if◌then◌else◌, List, [], ◌∷◌, ◌++◌, Option}
use Rattle.std.specs.Prelude.{Some, None, map}
use Rattle.pf_model.specs.Meaning.{Job, Report, Means, schedule}

-- these schedules, each with this number before it
abbrev pub with_beginnings : ℕ → List (List ℕ) → List (List ℕ)
with_beginnings n ss = map (λ s. n ∷ s) ss

-- a schedule without its last number
abbrev pub without_last : List ℕ → List (List ℕ)
without_last [] = []
without_last (n ∷ []) = [] ∷ []
without_last (n ∷ m ∷ ns) = with_beginnings n (without_last (m ∷ ns))

-- without one number, from the first to the last but one
abbrev pub without_one : List ℕ → List (List ℕ)
without_one [] = []
without_one (n ∷ []) = []
without_one (n ∷ m ∷ ns) = (m ∷ ns) ∷ with_beginnings n (without_one (m ∷ ns))

-- with one number above 0 halved downwards, by rising index
abbrev pub halved : List ℕ → List (List ℕ)
halved [] = []
halved (zero ∷ ns) = with_beginnings zero (halved ns)
halved (suc n ∷ ns) = ((suc n / 2) ∷ ns) ∷ with_beginnings (suc n) (halved ns)

-- the candidates of a schedule, in their order
abbrev pub candidates : List ℕ → List (List ℕ)
candidates ns = without_last ns ++ without_one ns ++ halved ns

-- where a search ends: at a schedule, complete where no candidate of it fails
pub record Found : Type 0 where
  pub schedule : List ℕ
  pub complete : Bool

abbrev pub found : List ℕ → Bool → Found
found ns b = record { schedule = ns; complete = b }

-- from a schedule that fails and the candidates of it that are left, with n runs left: the first candidate that fails
-- becomes the schedule, and all begins again
abbrev pub search : (List ℕ → Bool) → ℕ → List ℕ → List (List ℕ) → Found
search fails k ns [] = found ns true
search fails zero ns (c ∷ cs) = found ns false
search fails (suc k) ns (c ∷ cs) = if fails c then search fails k c (candidates c) else search fails k ns cs

-- the shrinking of a schedule within n runs, of which its own is the first; None where it doesn't fail
abbrev pub shrunk : (List ℕ → Bool) → (runs : ℕ) → List ℕ → Option Found
shrunk fails zero ns = None
shrunk fails (suc k) ns = if fails ns then Some (search fails k ns (candidates ns)) else None

-- ---- of a job

abbrev pub by_schedule : Job → List ℕ → Job
by_schedule j ns = record j { choices = schedule ns }

-- whether a property failed
abbrev pub is_failure : Option Bool → Bool
is_failure None = false
is_failure (Some b) = if b then false else true

-- the function that says of each schedule whether the job fails by it
abbrev pub ReportsFailures : Job → (List ℕ → Bool) → Type 0
ReportsFailures j fails = (ns : List ℕ) (r : Report) → Means (by_schedule j ns) r → fails ns ≡ is_failure r.verdict

-- the result of a job with runs: the schedule that was found and its report, or that the given schedule doesn't fail
pub data Result : Type 0 where
  report : Report → Result
  shrunk_to : Found → Report → Result
  nothing_fails : Result

-- the result of a job: its meaning, and with runs the shrinking of its schedule, whose report is that of the schedule
-- found
pub data IsResult (j : Job) : Result → Type 0 where
  plain : (r : Report) → j.runs ≡ zero → Means j r → IsResult j (report r)
  smaller : (k : ℕ) (ns : List ℕ) (fails : List ℕ → Bool) (f : Found) (r : Report) → j.runs ≡ suc k
      → j.choices ≡ schedule ns
      → ReportsFailures j fails → shrunk fails (suc k) ns ≡ Some f → Means (by_schedule j f.schedule) r
      → IsResult j (shrunk_to f r)
  no_failure : (k : ℕ) (ns : List ℕ) (fails : List ℕ → Bool) → j.runs ≡ suc k → j.choices ≡ schedule ns
      → ReportsFailures j fails → shrunk fails (suc k) ns ≡ None → IsResult j nothing_fails

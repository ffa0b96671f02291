-- What the code knows of a process.
use Rattle.std.specs.List.{HoldsAt}
use Rattle.std.specs.List.Sorted.{IsNonDecreasingBy}
use Rattle.std.specs.Prelude.{◌≡◌, ◌≢◌, ◌<◌, ◌⊎◌, All, ℕ, List, [], ◌∷◌, Option, Some, length, map, slice_get}
use Rattle.std.specs.Global.{Vec}
use Rattle.pf_chart.specs.Processes.{Process}
use Rattle.pf_chart.specs.declared.columns.Column.{Column}
use Rattle.pf_chart.specs.declared.origin.Origin.{Origin}
use Rattle.pf_chart.specs.declared.origin.Origin.TheVariants.{Root, Named, Unnamed}

-- the process of a column
abbrev pub process_of : Column → Process
process_of c = record { pid = c.pid; spawned = c.spawned }

-- the label that an origin shows
abbrev pub labels_of_origin : Origin → List (List ℕ)
labels_of_origin (Root name) = name.now ∷ []
labels_of_origin (Named name parent event) = name.now ∷ []
labels_of_origin (Unnamed parent event) = []

-- the names in a list of texts
abbrev pub texts : List (Vec ℕ) → List (List ℕ)
texts names = map (λ n. n.items) names

-- a column is that of the process of this pid
abbrev pub IsColumnOf : List Column → (pid column : ℕ) → Type 0
IsColumnOf cs p i = (i < length cs) × HoldsAt (λ c. c.pid ≡ p) cs i

-- the same, or the first where no process has this pid
abbrev pub IsMarkedIn : List Column → (pid column : ℕ) → Type 0
IsMarkedIn cs p i = IsColumnOf cs p i ⊎ ((i ≡ 0) × (IsNonDecreasingBy (λ c. c.pid) cs → All (λ c. c.pid ≢ p) cs))

-- columns are of the same processes as others
abbrev pub SameProcesses : (old new : List Column) → Type 0
SameProcesses xs ys = map process_of ys ≡ map process_of xs

-- the same, column by column
abbrev pub IsAlike : Option Column → Column → Type 0
IsAlike o y = (x : Column) × (o ≡ Some x) × (y.pid ≡ x.pid) × (y.spawned ≡ x.spawned)

pub record AreAlike (xs ys : List Column) : Type 0 where
  pub count : length ys ≡ length xs
  pub each : (i : ℕ) (y : Column) → slice_get ys i ≡ Some y → IsAlike (slice_get xs i) y

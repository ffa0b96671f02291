-- How the runs of a job by two schedules part, and which choices a schedule makes.
use Rattle.std.specs.Prelude.{◌≡◌, ◌⊎◌, ℕ, ◌%◌, ◌<◌, List, [], ◌∷◌, Option, None, map}
use Rattle.pf_model.specs.Meaning.{Job, Event, Report, Means}
use Rattle.pf_model.specs.Shrinking.{by_schedule}
use Rattle.pf_strategy.specs.Noted.{MakesChoices, MeansBySchedule, point}
use Rattle.pf_strategy.specs.declared.noted.ChoicePoint.{ChoicePoint}

-- two choices are made among as many, and differ
pub record ArePart (e f : ChoicePoint) : Type 0 where
  pub count : e.count ≡ f.count
  pub one_might : e.choice < e.count
  pub other_might : f.choice < f.count
  pub apart : e.choice ≡ f.choice → ⊥

-- choices of two runs: the same, or the same up to two at which they part
abbrev pub Part : List ChoicePoint → List ChoicePoint → Type 0
Part [] [] = Unit {0}
Part [] (f ∷ fs) = ⊥
Part (e ∷ es) [] = ⊥
Part (e ∷ es) (f ∷ fs) = ((e ≡ f) × Part es fs) ⊎ ArePart e f

-- choices are by a schedule: each by its own number, taken modulo among how many it is made, and after the last number
-- the first
abbrev pub AreBy : List ℕ → List ChoicePoint → Type 0
AreBy [] [] = Unit {0}
AreBy (n ∷ ns) [] = Unit {0}
AreBy [] (e ∷ es) = (e.choice ≡ 0) × AreBy [] es
AreBy (n ∷ ns) (e ∷ es) = (e.choice ≡ n % e.count) × AreBy ns es

-- the choice of an event, among all who might go
abbrev pub point_of : Event → ChoicePoint
point_of e = point e.choice e.count

-- ---- laws

-- a report by a schedule has choices
abbrev pub SomeChoices : Type 0
SomeChoices = (p : Option ℕ) (j : Job) (ns : List ℕ) (r : Report) → MeansBySchedule p j ns r
    → (es : List ChoicePoint) × MakesChoices p j ns es r

-- where no process goes last they are those of its events
abbrev pub EventsAreChoices : Type 0
EventsAreChoices = (j : Job) (ns : List ℕ) (r : Report) → Means (by_schedule j ns) r
    → MakesChoices None j ns (map point_of r.events) r

-- the choices of a job's runs by two schedules part so
abbrev pub ChoicesPart : Type 0
ChoicesPart = (p : Option ℕ) (j : Job) (ns ms : List ℕ) (es fs : List ChoicePoint) (r s : Report)
    → MakesChoices p j ns es r → MakesChoices p j ms fs s → Part es fs

-- where they are the same, the reports are
abbrev pub SameChoicesSameReport : Type 0
SameChoicesSameReport = (p : Option ℕ) (j : Job) (ns ms : List ℕ) (es : List ChoicePoint) (r s : Report)
    → MakesChoices p j ns es r → MakesChoices p j ms es s → r ≡ s

-- the choices of a run by a schedule are by it
abbrev pub ChoicesAreBySchedule : Type 0
ChoicesAreBySchedule = (p : Option ℕ) (j : Job) (ns : List ℕ) (es : List ChoicePoint) (r : Report)
    → MakesChoices p j ns es r → AreBy ns es

-- and a report is what the job means by a schedule of what its events say
abbrev pub ReplayOfChoices : Type 0
ReplayOfChoices = (p : Option ℕ) (j : Job) (ns : List ℕ) (es : List ChoicePoint) (r : Report)
    → MakesChoices p j ns es r → Means (by_schedule j (map (λ e. e.choice) r.events)) r

-- Choices that are noted, and what a job means by a schedule where a process goes last.
use Rattle.std.specs.Prelude.{◌≡◌, ℕ, zero, ◌+◌, List, [], ◌∷◌, ◌++◌, Option, length}
use Rattle.pf_model.specs.Choosers.{Chooser, choose_by_picks}
use Rattle.pf_model.specs.Meaning.{Job, MeansBy, Report, picks_of, schedule}
use Rattle.pf_strategy.specs.Last.{keep_named}
use Rattle.pf_strategy.specs.declared.noted.ChoicePoint.{ChoicePoint}

abbrev pub point : (choice count : ℕ) → ChoicePoint
point i n = record { choice = i; count = n }

module _ {S : Type 0} (choose : Chooser S) where
  -- it chooses as before, and notes after the choices so far which of how many it chose
  abbrev pub note_choices : Chooser (S × List ChoicePoint)
  note_choices s pids channels =
      let c = choose s.0 pids channels in
      (c.0, (c.1, s.1 ++ point c.0 (length pids + length channels) ∷ []))

-- the chooser by the numbers of a schedule, where a process that is named goes last: a number chooses among the others,
-- and where there are none among all
abbrev pub choose_by_schedule : (last : Option ℕ) → List ℕ → Chooser ℕ
choose_by_schedule p ns = keep_named p (choose_by_picks (picks_of (schedule ns)))

-- a report is what a job means by a schedule so, in place of its own choices
abbrev pub MeansBySchedule : (last : Option ℕ) → Job → List ℕ → Report → Type 0
MeansBySchedule p j ns r = MeansBy (choose_by_schedule p ns) zero j r

-- and these are the choices that were made among the others, or among all
abbrev pub MakesChoices : (last : Option ℕ) → Job → List ℕ → List ChoicePoint → Report → Type 0
MakesChoices p j ns points r =
    (h : MeansBy (keep_named p (note_choices (choose_by_picks (picks_of (schedule ns))))) (zero, []) j r)
    × (h.state.1 ≡ points)

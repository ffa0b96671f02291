-- What a source is answered with whose schedules words ask to be explored.
use Rattle.std.specs.Prelude.{◌≡◌, ◌⊎◌, ℕ, Bool, List, ◌++◌, Option, None, Some, is_some}
use Rattle.pf_request.specs.Request.{shrink}
use Rattle.pf_cli.specs.Args.{RunArgs}
use Rattle.pf_cli.specs.Explore.{ExploreArgs}
use Rattle.pf_command.specs.Answers.{AnswersRun}
use Rattle.pf_explore_answer.specs.Answers.{Exploration, ExploreAnswers, schedule_line}

-- the exploration that words ask for, which may be stopped where they name a time
abbrev pub exploration_of : ExploreArgs → Exploration
exploration_of a =
    record {
      request = a.request;
      edition = a.edition;
      last = a.last;
      budget = a.reach.budget;
      deviations = a.reach.deviations;
      may_stop = is_some a.reach.time;
    }

-- the same at a pace that may stop it, or not
abbrev pub at_pace : (may_stop : Bool) → Exploration → Exploration
at_pace may_stop x = record x { may_stop = may_stop }

-- the shrinking of a schedule that an exploration found
abbrev pub shrinking_of : ExploreArgs → (numbers : List ℕ) → (runs : ℕ) → RunArgs
shrinking_of a numbers runs = record {
  request = record a.request { kind = shrink numbers runs };
  edition = a.edition;
  by_seed = None;
}

-- ExplorationAnswers a bytes text status: so a source of these bytes is answered
pub data ExplorationAnswers (a : ExploreArgs) (bytes : List ℕ) : List ℕ → ℕ → Type 0 where
  -- as it is explored, where no schedule is to be shrunk or none was found
  explored : (found : Option (List ℕ)) (text : List ℕ) (status : ℕ) → (a.runs ≡ None) ⊎ (found ≡ None)
      → ExploreAnswers (exploration_of a) bytes found text status → ExplorationAnswers a bytes text status
  -- else with the schedule that was found and its shrinking
  shrunk : (numbers : List ℕ) (runs : ℕ) (said text : List ℕ) (ended status : ℕ) → a.runs ≡ Some runs
      → ExploreAnswers (exploration_of a) bytes (Some numbers) said ended
      → AnswersRun (shrinking_of a numbers runs) bytes text status
      → ExplorationAnswers a bytes (schedule_line numbers ++ text) status

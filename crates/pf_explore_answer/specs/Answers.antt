-- What a source is answered with whose schedules are explored: the text that is printed and the status.
use Rattle.std.specs.Prelude.{◌≡◌, ℕ, suc, Bool, List, [], ◌++◌, codes, map, Option, None, Some, IfSome, Ok, Err}
use Rattle.std.specs.Prelude.{option_map, unwrap_or}
use Rattle.std.specs.Fmt.{decimal}
use Rattle.pf_errors.specs.Codes.{code_text, refusal_text}
use Rattle.pf_errors.specs.declared.code.Code.{Code}
use Rattle.pf_terms.specs.Atoms.{name_of}
use Rattle.pf_model.specs.Meaning.{Report}
use Rattle.pf_model.specs.TermText.{line}
use Rattle.pf_model.specs.Text.{report_text}
use Rattle.pf_text.specs.Schedules.{schedule_text}
use Rattle.pf_check.specs.Module.{ReadModule}
use Rattle.pf_check.specs.Reading.{IsModuleOf}
use Rattle.pf_check.specs.Reads.{Reads, refused}
use Rattle.pf_request.specs.Request.{Request}
use Rattle.pf_request.specs.Job.{Job}
use Rattle.pf_sched.specs.Asked.{Asks}
use Rattle.pf_explore_laws.specs.Last.{HoldsByEachLast, HoldsWithinLast}
use Rattle.pf_explore.specs.Explored.{MayEnd}
use Rattle.pf_explore.specs.Failing.{IsFailingLast}
use Rattle.pf_explore.specs.Steps.{StepsAreWithin}
use Rattle.pf_explore.specs.declared.explored.Unseen.{Unseen}
use Rattle.pf_explore.specs.declared.explored.Unseen.TheVariants.{Budget, Stopped, Deviations}
use Rattle.pf_explore_answer.specs.declared.exploration.ExploreAnswer as code

-- what is asked for: a run, in whose place those by its schedules go, in an edition, where a process goes last, if one
-- is named; within so many runs, each with at most so many deviations, if it is said how many; and whether it may be
-- stopped before
pub record Exploration : Type 0 where
  pub request : Request
  pub edition : ℕ
  pub last : Option ℕ
  pub budget : ℕ
  pub deviations : Option ℕ
  pub may_stop : Bool

-- the most deviations of a run: where none are named, more than a run has events
abbrev pub most_of : (deviations : Option ℕ) → ℕ
most_of deviations = unwrap_or deviations 4294967294

-- runs that deviate not at all, at most once, and so on up to the most deviations
abbrev pub levels_of : (deviations : Option ℕ) → ℕ
levels_of deviations = suc (most_of deviations)

-- ---- texts

-- words and a number
abbrev pub counted : (words : List ℕ) → (number : ℕ) → List ℕ
counted words number = words ++ decimal number

-- no schedule fails: so many runs differ, and none has more steps
abbrev pub holds_text : (runs steps : ℕ) → List ℕ
holds_text runs steps =
    counted (codes "no schedule fails: ") runs ++ counted (codes " runs; a run has at most ") steps
    ++ codes " steps\n"

-- the choices of a run, event by event: by them as a schedule it runs so again
abbrev pub choices_of : Report → List ℕ
choices_of r = map (λ e. e.choice) r.events

abbrev pub schedule_line : (numbers : List ℕ) → List ℕ
schedule_line ns = codes "schedule " ++ schedule_text ns ++ codes "\n"

-- a schedule that fails, and the report of its run
abbrev pub failing_text : (name : ℕ → List ℕ) → Report → List ℕ
failing_text name r = schedule_line (choices_of r) ++ report_text name r

-- why not all schedules were seen, if it is another reason than how often they deviate
abbrev pub cause_text : Unseen → List ℕ
cause_text Budget = codes " (budget)"
cause_text Stopped = codes " (time)"
cause_text Deviations = []

-- no run fails that deviates at most so often
abbrev pub most_text : ℕ → List ℕ
most_text k = counted (codes "; no schedule with at most ") k ++ codes " deviations fails"

-- if it is known how often
abbrev pub within_text : (within : Option ℕ) → List ℕ
within_text None = []
within_text (Some k) = most_text k

-- not all schedules were seen, in so many runs
abbrev pub unseen_text : (runs : ℕ) → Unseen → (within : Option ℕ) → List ℕ
unseen_text runs cause within =
    counted (codes "not all seen: ") runs ++ codes " runs" ++ cause_text cause ++ within_text within ++ codes "\n"

-- ---- answers

-- Explores x j found text status: so the exploration of a job is answered, and this schedule was found to fail, if any
pub data Explores (x : Exploration) (j : Job) : (found : Option (List ℕ)) → List ℕ → ℕ → Type 0 where
  -- the property holds by each schedule, and no run has more steps
  none_fails : (runs steps : ℕ) → HoldsByEachLast x.last j.asked → StepsAreWithin x.last steps j.asked
      → Explores x j None (holds_text runs steps) 0
  -- it fails by this one, which is that of a run with this report
  one_fails : (r : Report) → IsFailingLast x.last j.asked r
      → Explores x j (Some (choices_of r)) (failing_text (name_of j.asked.code.atoms) r) 1
  -- not all were seen, for a cause that may be; it holds by each that deviates at most so often
  not_all_seen : (runs : ℕ) (cause : Unseen) (within : Option ℕ) → IfSome within (λ k. HoldsWithinLast x.last k j.asked)
      → MayEnd x.may_stop x.budget (levels_of x.deviations) runs within cause
      → Explores x j None (unseen_text runs cause within) 3

-- ExploreAnswers x bytes found text status: so a source of these bytes is answered whose schedules are explored, of
-- which this one was found to fail, if any
pub data ExploreAnswers (x : Exploration) (bytes : List ℕ) : (found : Option (List ℕ)) → List ℕ → ℕ → Type 0 where
  -- the source is refused
  source_refused : (code : Code) (offset : ℕ) → Reads bytes (refused code offset)
      → ExploreAnswers x bytes None (line (refusal_text code offset)) 2
  -- what is asked for of the module is refused
  job_refused : (m : ReadModule) (code : Code) → IsModuleOf bytes m → Asks m x.edition x.request (Err code)
      → ExploreAnswers x bytes None (line (code_text code)) 2
  -- the schedules of its job are explored
  explored : (m : ReadModule) (j : Job) (found : Option (List ℕ)) (text : List ℕ) (status : ℕ) → IsModuleOf bytes m
      → Asks m x.edition x.request (Ok j) → Explores x j found text status
      → ExploreAnswers x bytes found text status

-- ---- the code's own

-- the answer has this schedule, this text and this status
pub record IsAnswer (found : Option (List ℕ)) (text : List ℕ) (status : ℕ) (a : code.ExploreAnswer) : Type 0 where
  pub found_so : option_map (λ v. v.items) a.found ≡ found
  pub text_so : a.text.items ≡ text
  pub status_so : a.status ≡ status

-- these words on a line of their own, with the status of what is refused
abbrev pub Refuses : (words : List ℕ) → code.ExploreAnswer → Type 0
Refuses words = IsAnswer None (line words) 2

-- the answer is one of an exploration of a job, or of a source
abbrev pub AnswersJob : Exploration → Job → code.ExploreAnswer → Type 0
AnswersJob x j a = Explores x j (option_map (λ v. v.items) a.found) a.text.items a.status

abbrev pub AnswersSource : Exploration → (bytes : List ℕ) → code.ExploreAnswer → Type 0
AnswersSource x bytes a = ExploreAnswers x bytes (option_map (λ v. v.items) a.found) a.text.items a.status

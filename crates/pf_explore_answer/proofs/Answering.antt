-- The rows of answers, for answers that are theirs.
use Rattle.std.proofs.Common.{◌≡◌, ◌∙◌, ◌++◌, ℕ, List, Option, Some, ap, append_assoc, sym, subst, map}
use Rattle.std.proofs.lemmas.Simd.{map-map}
use Rattle.pf_terms.specs.Atoms.{name_of}
use Rattle.pf_model.specs.Meaning.{Report}
use Rattle.pf_model.specs.Reports.{view_of_event, view_of_report}
use Rattle.pf_model.specs.declared.report.Report as code
use Rattle.pf_request.specs.Job.{Job}
use Rattle.pf_explore.specs.Failing.{IsFailingLast}
use Rattle.pf_explore_answer.specs.Answers.{AnswersJob, AnswersSource, Exploration, ExploreAnswers, Explores, IsAnswer}
use Rattle.pf_explore_answer.specs.Answers.{choices_of, failing_text}
use Rattle.pf_explore_answer.specs.Answers.{one_fails}
use Rattle.pf_explore_answer.specs.declared.exploration.ExploreAnswer.{ExploreAnswer}

-- the choices of events are those of what they stand for
pub choices_are : (r : code.Report) → map (λ e. e.choice) r.events.items ≡ choices_of (view_of_report r)
choices_are r = sym (map-map (λ e. e.choice) view_of_event r.events.items)

-- a text, and then what comes after it
pub after : (o a b : List ℕ) {x y : List ℕ} → x ≡ o ++ a → y ≡ x ++ b → y ≡ o ++ (a ++ b)
after o a b h i = i ∙ ap (λ (t : List ℕ). t ++ b) h ∙ append_assoc o a b

-- ---- answers

-- an answer of a job is one of each row that it is
pub answer_is : (x : Exploration) (j : Job) (a : ExploreAnswer) (found : Option (List ℕ)) (text : List ℕ) (status : ℕ)
    → IsAnswer found text status a → Explores x j found text status → AnswersJob x j a
answer_is x j a found text status is h = rw (is.found_so, is.text_so, is.status_so) h

pub source_answer_is : (x : Exploration) (bytes : List ℕ) (a : ExploreAnswer) (found : Option (List ℕ))
    (text : List ℕ) (status : ℕ) → IsAnswer found text status a → ExploreAnswers x bytes found text status
    → AnswersSource x bytes a
source_answer_is x bytes a found text status is h = rw (is.found_so, is.text_so, is.status_so) h

module _ (x : Exploration) (j : Job) (a : ExploreAnswer) where
  pub row_failing : (atoms : List (List ℕ)) (r : Report) → atoms ≡ j.asked.code.atoms → IsFailingLast x.last j.asked r
      → IsAnswer (Some (choices_of r)) (failing_text (name_of atoms) r) 1 a → AnswersJob x j a
  row_failing atoms r same fails is =
      let own = subst (λ l. IsAnswer (Some (choices_of r)) (failing_text (name_of l) r) 1 a) same is in
      answer_is x j a (Some (choices_of r)) (failing_text (name_of j.asked.code.atoms) r) 1 own (one_fails r fails)

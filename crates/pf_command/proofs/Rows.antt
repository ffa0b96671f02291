-- The rows of answers, for texts and statuses that are equal to theirs.
use Rattle.std.proofs.Common.{◌≡◌, ◌++◌, ℕ, zero, Bool, List, [], Ok, Err, refl, ap, ◌∙◌, subst, arith}
use Rattle.std.specs.Prelude.{Result, codes}
use Rattle.std.proofs.lemmas.Fmt.{decimal_digit}
use Rattle.pf_errors.specs.Codes.{code_text, refusal_text}
use Rattle.pf_errors.specs.declared.code.Code.{Code}
use Rattle.pf_terms.specs.Atoms.{name_of}
use Rattle.pf_model.specs.Shrinking as shrinking
use Rattle.pf_model.specs.Shrinking.{IsResult}
use Rattle.pf_model.specs.Text.{report_text}
use Rattle.pf_model.specs.TermText.{line}
use Rattle.pf_check.specs.Reads.{Reads, refused}
use Rattle.pf_check.specs.Module.{ReadModule}
use Rattle.pf_request.specs.Job.{Job, memory_report}
use Rattle.pf_command.specs.Answers.{AnswersBy, Refuses, no_memory_report, ReportsJob, PrintsResult, source_refused}
use Rattle.pf_command.specs.Answers.{job_refused, reported, result, out_of_memory}
use Rattle.pf_check.specs.Reading.{IsModuleOf, IsReadAs}
use Rattle.pf_command.specs.Checks.{Checks, ExplainsRefusal, is_module, is_refused}
use Rattle.pf_command.specs.declared.answer.Output.{Output}

module _ (asks : ReadModule → Result Job Code → Type 0) (reports : Job → List ℕ → ℕ → Type 0) where
  pub row_refused : (bytes : List ℕ) (a : Output) (code : Code) (offset : ℕ) → Reads bytes (refused code offset)
      → Refuses a (refusal_text code offset) → AnswersBy asks reports bytes a.text.items a.status
  row_refused bytes a code offset reads is = rw (is.0, is.1) (source_refused code offset reads)

  pub row_job_refused : (m : ReadModule) (bytes : List ℕ) (a : Output) (code : Code) → IsModuleOf bytes m
      → asks m (Err code)
      → Refuses a (code_text code) → AnswersBy asks reports bytes a.text.items a.status
  row_job_refused m bytes a code of asked is = rw (is.0, is.1) (job_refused m code of asked)

  pub row_reported : (m : ReadModule) (bytes : List ℕ) (j : Job) (a : Output) → IsModuleOf bytes m → asks m (Ok j)
      → reports j a.text.items a.status
      → AnswersBy asks reports bytes a.text.items a.status
  row_reported m bytes j a of asked is = reported m j a.text.items a.status of asked is

-- what reports a result of a job
pub prints_result : (j : Job) (atoms : List (List ℕ)) (x y : shrinking.Result) (a : Output) → IsResult j.asked y → x ≡ y
    → atoms ≡ j.asked.code.atoms
    → PrintsResult atoms x a → ReportsJob j a.text.items a.status
prints_result j atoms x y a is e f reports =
    let names : PrintsResult j.asked.code.atoms y a =
    subst (λ l. PrintsResult l y a) f (subst (λ z. PrintsResult atoms z a) e reports) in
    rw (names.0, names.1) (result y is)

-- the report of a run without memory
pub memory_text : (name : ℕ → List ℕ) → report_text name memory_report ≡ no_memory_report
memory_text name = ap (λ d. line (codes "memory") ++ line (codes "steps " ++ d) ++ line (codes "no verdict"))
    (decimal_digit 0 (omega arith))

-- or that memory ran out within a run
pub prints_no_memory : (j : Job) (atoms : List (List ℕ)) (a : Output) → j.asked.runs ≡ zero
    → PrintsResult atoms (shrinking.report memory_report) a
    → ReportsJob j a.text.items a.status
prints_no_memory j atoms a run reports = rw (reports.0 ∙ memory_text (name_of atoms), reports.1)
    (out_of_memory [] run (λ r means. (r.events, refl)))

pub row_module : (explain : Bool) (m : ReadModule) (bytes text : List ℕ) (status : ℕ) → IsReadAs bytes m
    → text ≡ line (codes "ok") → status ≡ 0 → Checks explain bytes text status
row_module explain m bytes text status reads e s = rw (e, s) (is_module m.code.name m.code.atoms m.code.functions reads)

pub row_check_refused : (explain : Bool) (bytes text more : List ℕ) (status : ℕ) (code : Code) (offset : ℕ)
    → Reads bytes (refused code offset)
    → ExplainsRefusal bytes code offset explain more → text ≡ line (refusal_text code offset) ++ more → status ≡ 2
    → Checks explain bytes text status
row_check_refused explain bytes text more status code offset reads explains e s =
    rw (e, s) (is_refused code offset more reads explains)

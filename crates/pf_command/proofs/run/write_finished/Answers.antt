use Rattle.std.proofs.Common.{◌≡◌, ◌∙◌, zero, ap, subst, sym}
use Rattle.std.proofs.lemmas.Result.{IfOk-weaker}
use Rattle.pf_terms.specs.Atoms.{name_of}
use Rattle.pf_syntax.specs.Module.{Checked}
use Rattle.pf_model.specs.Module.{Module}
use Rattle.pf_model.specs.Shrinking.{report}
use Rattle.pf_request.specs.Job.{Job, memory_report}
use Rattle.pf_sched.specs.Views.{IsWritten, result_of}
use Rattle.pf_command.specs.Answers.{ReportsJob, PrintsResult}
use Rattle.pf_command.proofs.Rows.{prints_result, prints_no_memory}
use Rattle.pf_command.proofs.run.write_finished.Goals as goal

pub write_result-requires : goal.write_result-requires
write_result-requires c =
    let job : c.deref.result.now ≡ c.args.finished.now.job = c.deref.ensures ∙ c.job-job.ensures in
    let atoms : c.atoms-atoms.result.now ≡ c.args.finished.now.job.asked.code.atoms =
    c.atoms-atoms.ensures ∙ ap (λ (m : Checked). m.atoms) c.deref-2.ensures
    ∙ ap (λ (k : Module). k.atoms) c.module.ensures ∙ ap (λ (k : Job). k.asked.code.atoms) job in
    subst (λ l. IsWritten (name_of l) c.in-Some.result.now) (sym atoms) c.in-Some.ensures.2

pub returns-in-Some : goal.returns-in-Some
returns-in-Some c =
    let f = c.args.finished.now in
    let j = f.job in
    let table = c.atoms-atoms.result.now in
    let job : c.deref.result.now ≡ j = c.deref.ensures ∙ c.job-job.ensures in
    let atoms : table ≡ j.asked.code.atoms = c.atoms-atoms.ensures ∙ ap (λ (m : Checked). m.atoms) c.deref-2.ensures
    ∙ ap (λ (k : Module). k.atoms) c.module.ensures ∙ ap (λ (k : Job). k.asked.code.atoms) job in
    let came = result_of c.in-Some.result.now in
    IfOk-weaker c.write_result.result (PrintsResult table came) (λ a. ReportsJob j a.text.items a.status)
    (λ a reports. prints_result j table came f.result a c.in-Some.ensures.1 c.in-Some.ensures.0 atoms reports)
    c.write_result.ensures

pub returns-in-None : goal.returns-in-None
returns-in-None c =
    let j = c.args.finished.now.job in
    let table = c.atoms-atoms.result.now in
    let asked = c.deref-in-None.result.now in
    let same : asked ≡ j = c.deref-in-None.ensures ∙ c.job-job.ensures in
    IfOk-weaker c.write_no_memory.result (λ a. (asked.asked.runs ≡ zero) × PrintsResult table (report memory_report) a)
    (λ a. ReportsJob j a.text.items a.status)
    (λ a is. prints_no_memory j table a (subst (λ (k : Job). k.asked.runs ≡ zero) same is.0) is.1)
    c.write_no_memory.ensures

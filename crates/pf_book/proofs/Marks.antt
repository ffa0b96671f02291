-- A job's result is filed as whole.
use Rattle.std.proofs.Common.{◌≡◌, ℕ, zero, List, [], ◌∷◌, refl, ap, ◌∙◌}
use Rattle.pf_model.specs.Configuration.{Core, of}
use Rattle.pf_model.specs.Context.{ProcessState, running, waiting, ending, ended, returned, failed}
use Rattle.pf_model.specs.Meaning.{Job, Report, outcome_of_root, outcome_with}
use Rattle.pf_model.specs.Runs.{enabled, pids_in_state, is_waiting}
use Rattle.pf_model.specs.declared.report.Actor.{Actor}
use Rattle.pf_model.specs.Shrinking.{Result, report, shrunk_to, nothing_fails, IsResult, plain}
use Rattle.pf_desks.specs.declared.mark.FileMark.TheVariants.{Whole}
use Rattle.pf_book.specs.View.{mark_by, mark_of}

root_whole : (s : ProcessState) (ps : List ℕ) → mark_by (outcome_of_root s ps) ≡ Whole
root_whole (ended (returned v)) ps = refl
root_whole (ended (failed r)) ps = refl
root_whole (running t) ps = refl
root_whole (waiting t) ps = refl
root_whole (ending r) ps = refl

run_whole : (xs : List Actor) (c : Core) → mark_by (outcome_with xs c) ≡ Whole
run_whole [] c = root_whole (of c zero).state (pids_in_state is_waiting zero c.processes)
run_whole (x ∷ xs) c = refl

pub result_whole : (j : Job) (r : Result) → IsResult j r → mark_of r ≡ Whole
result_whole j (report r) (plain _ runs means) =
    ap (λ (x : Report). mark_by x.outcome) means.report ∙ run_whole (enabled means.last) means.last.core
result_whole j (shrunk_to f r) h = refl
result_whole j nothing_fails h = refl

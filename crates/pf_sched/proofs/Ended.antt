-- A run that is made to its end.
use Rattle.std.proofs.Common.{◌≡◌, ℕ, ◌-◌, Bool, false, List, [], length, sym, subst, arith}
use Rattle.pf_model.specs.Meaning.{Event}
use Rattle.pf_model.specs.Reports.{view_of_report}
use Rattle.pf_model.specs.Runs.{Stops}
use Rattle.pf_model.specs.declared.report.Report.{Report}
use Rattle.pf_request.specs.Job.{Job}
use Rattle.pf_sched.specs.Choosing.{Choosing, MeansFor}
use Rattle.pf_sched.specs.Parts.{Executes}
use Rattle.pf_sched.specs.Slices.{Advances, IsRunOver}
use Rattle.pf_sched.specs.declared.execution.Execution.{Execution}
use Rattle.pf_sched.proofs.Reported.{over_by}
use Rattle.pf_sched.proofs.SoFar.{ends_by_limit}

-- it is over after as many events as the limit has steps
pub over_at_limit : (j : Job) (w : Choosing) (turns limit : ℕ) → turns ≡ j.asked.limit → limit ≡ j.asked.limit
    → (es : List Event) (x : Execution) → Executes j w es x
    → (over : Bool) → over ≡ false → Advances 0 (length es) turns over (IsRunOver limit x) → ⊥
over_at_limit j w turns limit all same es x g over off went =
    let a : Advances 0 (length es) turns false (IsRunOver limit x) =
    subst (λ b. Advances 0 (length es) turns b (IsRunOver limit x)) off went in
    let count = a.0 in
    let stops : Stops (j.asked.limit - x.system.steps) g.run.last = ends_by_limit g.run (omega arith) in
    a.1 (over_by limit x g.run.last g.run.is_there (subst (λ n. Stops (n - x.system.steps) g.run.last) (sym same)
    stops))

-- what is a report by whatever a run begins by is so by this
pub means_for : (j : Job) (w : Choosing) (x : Execution) → Executes j w [] x → (r : Report)
    → ((v : Choosing) → Executes j v [] x → MeansFor v j.asked (view_of_report r))
    → MeansFor w j.asked (view_of_report r)
means_for j w x first r reported = reported w first

-- The result of a job that is one run, but for its events.
use Rattle.std.specs.Prelude.{◌≡◌}
use Rattle.pf_model.specs.Meaning.{Job, Report}
use Rattle.pf_model.specs.Reports.{view_of_outcome}
use Rattle.pf_sched.specs.Choosing.{Choosing, MeansFor}
use Rattle.pf_sched.specs.Waiting.{waiting_in}
use Rattle.pf_sched.specs.declared.whole.Judged.{Judged}

-- a report has this outcome and this verdict, and so many processes still wait at the end of its run though its root
-- returned
abbrev pub IsJudged : Report → Judged → Type 0
IsJudged r v = (r.outcome ≡ view_of_outcome v.outcome) × (r.verdict ≡ v.verdict) × (v.waiting ≡ waiting_in r)

-- they are those of the report that a job means where this chooses
abbrev pub Judges : Choosing → Job → Judged → Type 0
Judges w j v = (r : Report) × MeansFor w j r × IsJudged r v

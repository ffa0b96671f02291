use Rattle.std.proofs.Common.{◌≡◌, sym, ◌∙◌, subst}
use Rattle.pf_process_status.specs.Fates.{EndsSo}
use Rattle.pf_process_status.specs.declared.ends.ProcessEnd.TheVariants as end
use Rattle.pf_process_status.proofs.Noting.{failed_so}
use Rattle.pf_process_status.proofs.ends.failed.Goals as goal

pub returns-in-Failed : goal.returns-in-Failed
returns-in-Failed c e ends who = subst (λ x. EndsSo c.args.ended.pid x e) c.in-Failed.is ends

pub returns-in-Normal : goal.returns-in-Normal
returns-in-Normal c e ends who =
    failed_so e c.args.ended.pid c.args.ended.end ends who
    (λ k. let never : end.Normal ≡ end.Failed = sym c.in-Normal.is ∙ k in absurd (cc))

pub returns-in-Killed : goal.returns-in-Killed
returns-in-Killed c e ends who =
    failed_so e c.args.ended.pid c.args.ended.end ends who (λ k. absurd (cc))

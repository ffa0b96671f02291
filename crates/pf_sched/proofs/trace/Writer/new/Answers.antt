use Rattle.std.proofs.Common.{ap, ◌∙◌}
use Rattle.pf_sched.proofs.trace.Writer.new.Goals as goal

pub returns-clause-property : goal.returns-clause-property
returns-clause-property c = ap (λ k. k.asked.property) c.job.view_is

pub returns-clause-atoms : goal.returns-clause-atoms
returns-clause-atoms c = c.atoms.ensures ∙ ap (λ m. m.atoms) c.deref.ensures ∙ ap (λ m. m.atoms) c.module.ensures

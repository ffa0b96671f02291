use Rattle.std.proofs.Common.{◌≡◌, [], sym, ap, ◌∙◌, subst}
use Rattle.pf_terms.specs.Atoms.{name_of}
use Rattle.pf_model.specs.Properties.{some_label}
use Rattle.pf_property.specs.Judging.{rules_out}
use Rattle.pf_property.specs.Views.{labels_in}
use Rattle.pf_trace.specs.Written.{reported_so_far}
use Rattle.pf_sched.specs.Parts.{Executes}
use Rattle.pf_sched.proofs.run.Run.new.Goals as goal

pub returns-clause-run : goal.returns-clause-run
returns-clause-run c cs makes =
    let j = c.args.job.now in
    let none : reported_so_far c.new-written.result.lines ≡ [] = c.new-written.ensures.none in
    record {
      run = subst (λ es. Executes j cs es c.in_ok-execution.execution) (sym none) (c.in_ok-execution.ensures cs makes);
      written = c.new-written.ensures.written (name_of j.asked.code.atoms);
      ruled_out = c.new-written.ensures.clear
          ∙ ap (λ es. some_label (rules_out j.asked.property) (labels_in es)) (sym none);
    }

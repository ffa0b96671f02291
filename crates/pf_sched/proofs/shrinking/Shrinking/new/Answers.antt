use Rattle.std.proofs.Common.{subst}
use Rattle.rand_pcg.specs.Pcg.{pcg32}
use Rattle.pf_choice.specs.Choices.{IsAt}
use Rattle.pf_choice.specs.Words.{schedule_word}
use Rattle.pf_model.specs.Meaning.{schedule}
use Rattle.pf_sched.specs.Choosing.{choices}
use Rattle.pf_sched.proofs.Shrunk.{shrinking_begins}
use Rattle.pf_sched.proofs.shrinking.Shrinking.new.Goals as goal

pub returns-clause-shrinking : goal.returns-clause-shrinking
returns-clause-shrinking c =
    let ns = c.args.schedule.now in
    let first = subst (λ xs. IsAt pcg32 (schedule_word xs) 0 c.schedule-choices.result) c.in_ok-from_slice.ensures.items
    c.schedule-choices.ensures.at in
    shrinking_begins c.args.job.now c.new.result c.in_ok-new.field-0 _ c.args.runs ns c.in_ok-from_slice-2.field-0.items
    c.requires.runs c.requires.job_runs c.requires.job_choices
    c.in_ok-from_slice-2.ensures.items c.new.ensures.begins
    (c.in_ok-new.ensures.run (choices (schedule ns))
    (record { at = first; profile = c.schedule-choices.ensures.profile }))

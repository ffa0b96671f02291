use Rattle.std.specs.Prelude.{option_map}
use Rattle.pf_hunt.specs.Views.{failure_of, failures_of}
use Rattle.pf_explore_answer.proofs.Seeds.{failing_seed, of_found}
use Rattle.pf_explore_answer.proofs.search.failing_in.Goals as goal

pub returns : goal.returns
returns c =
    let h = c.args.hunt.now in
    let found = c.in_ok-failure.field-0.failure in
    of_found h.strategy.last h.job.asked found
    (failing_seed h.job.asked c.args.from c.args.end (failures_of h) h.strategy
    (option_map failure_of found) c.requires.alone
    c.in_ok-failure.ensures.failure)

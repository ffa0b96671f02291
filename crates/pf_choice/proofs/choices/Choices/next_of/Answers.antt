use Rattle.pf_choice.specs.Chosen.{weighted}
use Rattle.pf_choice.proofs.Indices.{chosen_below}
use Rattle.pf_choice.proofs.choices.Choices.next_of.Goals as goal

pub returns-in-Some-clause-one : goal.returns-in-Some-clause-one
returns-in-Some-clause-one g c =
    rw (c.weighed.ensures)
    (chosen_below (weighted c.run.result c.deliver.result) c.next_word-word.result c.args.procs c.args.chans
    (rw (c.run.ensures.is, c.deliver.ensures.is) c.run.ensures.within) c.requires)

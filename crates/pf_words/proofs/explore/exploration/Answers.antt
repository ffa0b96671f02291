use Rattle.pf_words.proofs.Exploring.{few_enough}
use Rattle.pf_words.proofs.explore.exploration.Goals as goal

pub returns-clause-few : goal.returns-clause-few
returns-clause-few c = few_enough c.args.args.now.reach.deviations c.args.args.now.reach.few

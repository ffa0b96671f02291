use Rattle.pf_words.proofs.Schedules.{reported_from}
use Rattle.pf_words.proofs.schedule.reported_in.Goals as goal

pub returns : goal.returns
returns c = reported_from c.args.line.now c.strip_prefix.result c.strip_prefix.ensures.cases

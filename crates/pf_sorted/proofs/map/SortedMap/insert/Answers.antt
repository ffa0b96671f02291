use Rattle.pf_sorted.proofs.Maps.{put_value}
use Rattle.pf_sorted.proofs.map.SortedMap.insert.Goals as goal

pub returns-in-Ok-clause-inserted : goal.returns-in-Ok-clause-inserted
returns-in-Ok-clause-inserted g c = put_value c.args.key c.args.value c.args.self.now c.in-Ok.at c.in-Ok.ensures.found.1

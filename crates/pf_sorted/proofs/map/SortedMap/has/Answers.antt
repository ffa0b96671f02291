use Rattle.std.proofs.Common.{◌∙◌}
use Rattle.pf_sorted.proofs.Maps.{reported}
use Rattle.pf_sorted.proofs.map.SortedMap.has.Goals as goal

pub returns : goal.returns
returns g c = c.is_ok.ensures.value ∙ reported c.args.key c.args.self.now c.index_of.result c.index_of.ensures.rises
    c.index_of.ensures.found

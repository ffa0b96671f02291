use Rattle.std.proofs.Common.{◌∙◌}
use Rattle.pf_sorted.proofs.Sets.{reported}
use Rattle.pf_sorted.proofs.set.SortedSet.has.Goals as goal

pub returns : goal.returns
returns c = c.is_ok.ensures.value ∙ reported c.args.number c.args.self.now c.index_of.result c.index_of.ensures.rises
    c.index_of.ensures.found

use Rattle.pf_grammar.proofs.Whole.{one_tree}
use Rattle.pf_grammar.proofs.laws.one_tree.Goals as goal

pub returns : goal.returns
returns c = one_tree

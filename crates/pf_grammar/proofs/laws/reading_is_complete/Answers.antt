use Rattle.pf_grammar.proofs.Whole.{tree_complete}
use Rattle.pf_grammar.proofs.laws.reading_is_complete.Goals as goal

pub returns : goal.returns
returns c = tree_complete

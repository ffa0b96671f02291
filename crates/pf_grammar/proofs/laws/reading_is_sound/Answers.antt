use Rattle.pf_grammar.proofs.Whole.{tree_sound}
use Rattle.pf_grammar.proofs.laws.reading_is_sound.Goals as goal

pub returns : goal.returns
returns c = tree_sound

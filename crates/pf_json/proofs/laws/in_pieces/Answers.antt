use Rattle.pf_json.proofs.Pieces.{held_pieces, pieces}
use Rattle.pf_json.proofs.laws.in_pieces.Goals as goal

pub returns : goal.returns
returns c h front back = (pieces h front back, held_pieces h front back)

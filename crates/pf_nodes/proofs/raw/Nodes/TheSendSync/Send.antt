use denote.RattleType.{RattleType}
use denote.Param.Send.{IsSend}
use Rattle.pf_nodes.proofs.Crossing.{nodes_send}
use Rattle.pf_nodes.specs.contracts.raw.Nodes.{the_row}

pub send : (T : RattleType) → IsSend T → IsSend (the_row T)
send = nodes_send

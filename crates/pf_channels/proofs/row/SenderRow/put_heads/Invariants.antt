use Rattle.std.proofs.Common.{◌≡◌, ◌++◌}
use Rattle.std.specs.Prelude.{take}
use Rattle.pf_model.specs.Channels.{heads_of}
use Rattle.pf_channels.proofs.row.SenderRow.put_heads.Given as goal

-- the receivers before the index are after what was there
abbrev pub invariant-loop-at : goal.invariant-loop-at
invariant-loop-at l = l.pairs.items ≡ l.fn.pairs.items ++ heads_of l.from (take l.at l.self)

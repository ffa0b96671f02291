use Rattle.std.proofs.Common.{◌≡◌, ◌++◌}
use Rattle.std.specs.Prelude.{drop}
use Rattle.pf_model.specs.Channels.{heads, heads_from}
use Rattle.pf_channels.proofs.channels.Channels.put_heads.Given as goal

-- the rows that are left come after what is there
abbrev pub invariant-loop-row : goal.invariant-loop-row
invariant-loop-row l = record {
  at : l.from ≡ l.row-index;
  all : l.pairs.items ++ heads_from l.from (drop l.row-index l.row-items) ≡ heads l.row-items;
}

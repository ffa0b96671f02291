use Rattle.std.proofs.Common.{◌≡◌, ◌++◌, map, take}
use Rattle.std.specs.Prelude.{filter}
use Rattle.pf_strategy.specs.Last.{is_other_channel}
use Rattle.pf_strategy.proofs.last.put_channels.Given as goal

-- the others so far are those of the channels so far, and so are their marks
abbrev pub invariant-loop-channel : goal.invariant-loop-channel
invariant-loop-channel l = record {
  others : l.others.items ≡ l.fn.others.items ++ filter (is_other_channel l.last) (take l.channel-index l.channels);
  marks : l.marks.items ≡ l.fn.marks.items ++ map (is_other_channel l.last) (take l.channel-index l.channels);
}

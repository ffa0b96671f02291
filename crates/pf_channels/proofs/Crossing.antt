-- Channels may cross threads: a lemma a type, each from those of its parts.
use denote.Param.Send.{IsSend, sendable}
use Rattle.std.proofs.Crossing as heap
use Rattle.pf_model.proofs.Crossing as signals
use Rattle.pf_channels.specs.contracts.channels.Channels as Channels
use Rattle.pf_channels.specs.contracts.queue.Queue as Queue
use Rattle.pf_channels.specs.contracts.row.SenderRow as Row

pub queue_send : IsSend Queue.the_row
queue_send = search (signals.signal_field_send, signals.signal_send, heap.crosses, sendable) depth 30

pub row_send : IsSend Row.the_row
row_send = search (queue_send, heap.crosses, sendable) depth 30

pub channels_send : IsSend Channels.the_row
channels_send = search (row_send, heap.crosses, sendable) depth 30

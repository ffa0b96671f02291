-- A source and a read module may go to another thread, and be shared by threads: a lemma a type, each from those of its
-- parts.
use denote.Param.Send.{IsSend, IsSync, sendable}
use Rattle.std.proofs.Crossing as heap
use Rattle.pf_syntax.proofs.Crossing as syntax
use Rattle.pf_check.specs.contracts.source.Source as Source
use Rattle.pf_check.specs.contracts.read_module.ReadModule as ReadModule

pub source_send : IsSend Source.the_row
source_send = search (heap.crosses, sendable) depth 30

pub read_module_send : IsSend ReadModule.the_row
read_module_send = search (source_send, syntax.crosses, heap.crosses, sendable) depth 30

pub source_sync : IsSync Source.the_row
source_sync = search (heap.crosses, sendable) depth 30

pub read_module_sync : IsSync ReadModule.the_row
read_module_sync = search (source_sync, syntax.crosses, heap.crosses, sendable) depth 30

pub ruleset crosses = (source_send, source_sync, read_module_send, read_module_sync)

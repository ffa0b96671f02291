-- A property may go to another thread, and be shared by threads: a lemma a type, each from those of its parts.
use denote.Param.Send.{IsSend, IsSync, recorded_send, recorded_sync, sendable}
use Rattle.std.proofs.Crossing as heap
use Rattle.pf_syntax.proofs.Crossing as syntax
use Rattle.pf_syntax.proofs.node.PatternId.TheSendSync as pattern
use Rattle.pf_property.specs.contracts.lone_pattern.LonePattern as LonePattern
use Rattle.pf_property.specs.contracts.property.Property as Property

-- ---- to another thread

lone_pattern_send : IsSend LonePattern.the_row
lone_pattern_send = search (syntax.crosses, pattern.the_field_send, heap.crosses, sendable) depth 30

pub property_field_send : IsSend (Property.the_field).row
property_field_send = search (lone_pattern_send, sendable) depth 30

pub property_send : IsSend Property.the_row
property_send = recorded_send (Property.the_field).row _ _ (Property.the_type).to_one property_field_send

-- ---- shared by threads

lone_pattern_sync : IsSync LonePattern.the_row
lone_pattern_sync = search (syntax.crosses, pattern.the_field_sync, heap.crosses, sendable) depth 30

pub property_field_sync : IsSync (Property.the_field).row
property_field_sync = search (lone_pattern_sync, sendable) depth 30

pub property_sync : IsSync Property.the_row
property_sync = recorded_sync (Property.the_field).row _ _ (Property.the_type).to_one property_field_sync

-- ---- all together

pub ruleset crosses = (property_field_send, property_send, property_field_sync, property_sync)

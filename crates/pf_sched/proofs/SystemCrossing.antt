-- A system may go to another thread, and so may what it leaves: a lemma a type, each from those of its parts.
use denote.Param.Send.{IsSend, recorded_send, sendable}
use Rattle.std.proofs.Crossing as heap
use Rattle.pf_terms.proofs.Crossing as terms
use Rattle.pf_syntax.proofs.Crossing as syntax
use Rattle.pf_stepper.proofs.Crossing as stepper
use Rattle.pf_channels.proofs.Crossing as channels
use Rattle.pf_nodes.proofs.mail.MailList.TheSendSync as mails
use Rattle.pf_nodes.proofs.spare.Pool.TheSendSync as pools
use Rattle.pf_terms.specs.contracts.term.Term as Term
use Rattle.pf_nodes.specs.contracts.mail.MailList as MailList
use Rattle.pf_nodes.specs.contracts.spare.Pool as Pool
use Rattle.pf_mailbox.specs.contracts.mailbox.Mailbox as Mailbox
use Rattle.pf_ties.specs.contracts.ties.Ties as Ties
use Rattle.pf_system.specs.contracts.slot.Life as Life
use Rattle.pf_system.specs.contracts.slot.Slot as Slot
use Rattle.pf_system.specs.contracts.shared.Shared as Shared
use Rattle.pf_system.specs.contracts.spare.Spare as Spare
use Rattle.pf_system.specs.contracts.processes.Processes as Processes
use Rattle.pf_system.specs.contracts.system.System as System

mail_list_send : IsSend (MailList.the_row Term.the_row)
mail_list_send = mails.the_send Term.the_row terms.term_send

pool_send : IsSend (Pool.the_row Term.the_row)
pool_send = pools.the_send Term.the_row terms.term_send

mailbox_send : IsSend Mailbox.the_row
mailbox_send = search (mail_list_send, sendable) depth 30

ties_send : IsSend Ties.the_row
ties_send = search (heap.crosses, sendable) depth 30

life_field_send : IsSend (Life.the_field).row
life_field_send = search (terms.crosses, stepper.crosses, sendable) depth 30

slot_field_send : IsSend (Slot.the_field).row
slot_field_send = search (life_field_send, mailbox_send, sendable) depth 30

slot_send : IsSend Slot.the_row
slot_send = recorded_send (Slot.the_field).row _ _ (Slot.the_type).to_one slot_field_send

pub spare_field_send : IsSend (Spare.the_field).row
spare_field_send = search (pool_send, stepper.crosses, slot_send, heap.crosses, sendable) depth 30

shared_field_send : IsSend (Shared.the_field).row
shared_field_send = search (ties_send, channels.channels_send, sendable) depth 30

processes_field_send : IsSend (Processes.the_field).row
processes_field_send = search (
  syntax.crosses,
  slot_send,
  shared_field_send,
  spare_field_send,
  heap.crosses,
  sendable,
) depth 30

pub system_send : IsSend System.the_row
system_send = search (syntax.crosses, processes_field_send, heap.crosses, sendable) depth 30

pub ruleset crosses = (spare_field_send, system_send)

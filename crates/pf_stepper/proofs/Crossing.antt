-- A machine may go to another thread, and so may what it asks for, how it moved and its room: a lemma a type, each from
-- those of its parts.
use denote.Param.Send.{IsSend, recorded_send, sendable}
use Rattle.std.proofs.Crossing as heap
use Rattle.pf_terms.proofs.Crossing as terms
use Rattle.pf_syntax.proofs.Crossing as syntax
use Rattle.pf_syntax.proofs.node.Operand.TheSendSync as part
use Rattle.pf_stepper.proofs.frame.Callee.TheSendSync as callee
use Rattle.pf_stepper.proofs.frame.Frame.TheSendSync as frame
use Rattle.pf_stepper.specs.contracts.act.Act as Act
use Rattle.pf_stepper.specs.contracts.frame.Focus as Focus
use Rattle.pf_stepper.specs.contracts.machine.Machine as Machine
use Rattle.pf_stepper.specs.contracts.machine.Move as Move
use Rattle.pf_stepper.specs.contracts.machine.MachineStatus as Standing
use Rattle.pf_stepper.specs.contracts.room.MachineRoom as Room
use Rattle.pf_stepper.specs.contracts.stack.Stack as Stack

-- ---- a machine

stack_field_send : IsSend (Stack.the_field).row
stack_field_send = search (terms.term_send, frame.the_send, heap.crosses, sendable) depth 30

focus_field_send : IsSend (Focus.the_field).row
focus_field_send = search (terms.term_field_send, part.the_field_send, callee.the_field_send, sendable) depth 30

standing_field_send : IsSend (Standing.the_field).row
standing_field_send = search (focus_field_send, sendable) depth 30

pub machine_send : IsSend Machine.the_row
machine_send = search (syntax.crosses, stack_field_send, standing_field_send, heap.crosses, sendable) depth 30

pub room_send : IsSend Room.the_row
room_send = search (terms.term_send, frame.the_send, heap.crosses, sendable) depth 30

-- ---- what it did

pub act_field_send : IsSend (Act.the_field).row
act_field_send = search (terms.term_field_send, sendable) depth 30

pub act_send : IsSend Act.the_row
act_send = recorded_send (Act.the_field).row _ _ (Act.the_type).to_one act_field_send

pub move_field_send : IsSend (Move.the_field).row
move_field_send = search (terms.crosses, act_field_send, sendable) depth 30

pub move_send : IsSend Move.the_row
move_send = recorded_send (Move.the_field).row _ _ (Move.the_type).to_one move_field_send

pub ruleset crosses = (machine_send, room_send, act_field_send, act_send, move_field_send, move_send)

use Rattle.std.proofs.Common.{arith}
use Rattle.pf_system.proofs.WhoMayGo.{noted_count}
use Rattle.pf_sched.proofs.Traces.{chooses_among}
use Rattle.pf_sched.proofs.chooser.next_choice.Goals as goal

pub next_of-requires : goal.next_of-requires
next_of-requires c = omega (arith, c.requires, noted_count c.args.enabled.now, c.processes.ensures, c.channels.ensures)

pub returns-clause-chooses : goal.returns-clause-chooses
returns-clause-chooses c d note =
    chooses_among c.args.enabled.now d note c.args.choices.now c.next_of.new.self c.processes.result c.channels.result
    c.next_of.result
    c.processes.ensures c.channels.ensures c.next_of.ensures.chooses

pub returns-clause-one : goal.returns-clause-one
returns-clause-one c =
    omega (arith, c.next_of.ensures.one, noted_count c.args.enabled.now, c.processes.ensures, c.channels.ensures)

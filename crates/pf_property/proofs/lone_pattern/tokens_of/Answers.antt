use Rattle.std.proofs.Common.{refl}
use Rattle.pf_tokens.specs.Rules.{HasFault}
use Rattle.pf_property.proofs.Patterns_read.{no_tokens}
use Rattle.pf_property.proofs.lone_pattern.tokens_of.Goals as goal

pub returns-in-Err-Fault-clause-fault : goal.returns-in-Err-Fault-clause-fault
returns-in-Err-Fault-clause-fault c =
    let r = c.in-Err-Fault.field-0-0 in
    let fault : HasFault c.args.text.now r.code r.offset =
    rw c.in-Err-Fault.field-0-is at c.in-Err-Fault.ensures.fault in
    (refl, no_tokens c.args.text.now r fault)

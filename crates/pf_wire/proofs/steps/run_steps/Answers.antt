use Rattle.std.proofs.Common.{refl}
use Rattle.pf_errors.specs.declared.fault.OrNoMemory.TheVariants.{NoMemory}
use Rattle.pf_trace.proofs.Fronts.{handed_on}
use Rattle.pf_wire.proofs.Leaving.{is_there_before}
use Rattle.pf_wire.proofs.steps.run_steps.Goals as goal

pub returns-in_err-room-clause-fault : goal.returns-in_err-room-clause-fault
returns-in_err-room-clause-fault g c =
    handed_on c.from_residual.result NoMemory _ c.from_residual.ensures
    (λ p right. (refl, refl, is_there_before p right _ _))

pub returns-in_err-world-clause-fault : goal.returns-in_err-world-clause-fault
returns-in_err-world-clause-fault g c =
    handed_on c.from_residual-in_err-world.result NoMemory _ c.from_residual-in_err-world.ensures
    (λ p right. (refl, refl, is_there_before p right _ _))

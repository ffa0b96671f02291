use Rattle.std.proofs.Common.{◌≡◌, refl, ap, subst}
use Rattle.pf_property.specs.Texts.{ReadsProperty}
use Rattle.pf_sched.proofs.job.read_property.Goals as goal

pub returns-in-Err-Fault : goal.returns-in-Err-Fault
returns-in-Err-Fault c =
    let none = rw c.in-Err-Fault.field-0-is at c.in-Err-Fault.ensures.fault in
    let code = ap (λ z. z.atoms) c.module.ensures.code in
    let atoms : c.args.module.now.code.atoms ≡ c.atoms.result.now = cc in
    (refl, λ q h. none.1 q (subst (λ names. ReadsProperty names c.args.bytes.now q) atoms h))

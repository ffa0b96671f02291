use Rattle.std.proofs.Common.{◌≡◌, ◌++◌, rules}
use Rattle.std.specs.Prelude.{codes}
use Rattle.pf_property.specs.Texts.{IsNoPropertyText}
use Rattle.pf_property.proofs.One.{refused_after}
use Rattle.pf_property.proofs.property.Property.read.Goals as goal

pub returns-in_err-pattern-in-Some-clause-fault : goal.returns-in_err-pattern-in-Some-clause-fault
returns-in_err-pattern-in-Some-clause-fault c =
    let bytes = c.args.bytes.now in
    let text = c.in-Some.text.now in
    let fault = c.in_err-pattern-in-Some.field-0.0 in
    let after : bytes ≡ codes "never:" ++ text = search rules in
    let reported : IsNoPropertyText c.args.atoms.now bytes fault =
    refused_after c.args.atoms.now bytes text after fault c.in_err-pattern-in-Some.ensures.fault in
    search rules

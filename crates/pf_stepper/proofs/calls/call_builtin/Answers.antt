use Rattle.pf_terms.specs.Term.{values_of}
use Rattle.std.proofs.Common.{◌≡◌, ◌∙◌, ap, option_map, subst}
use Rattle.pf_model.specs.Contraction.{called, Asks}
use Rattle.pf_stepper.specs.Acts.{act_of}
use Rattle.pf_stepper.specs.Pairs.{act_asked_by}
use Rattle.pf_stepper.proofs.Outer.{asks_it}
use Rattle.pf_stepper.proofs.calls.call_builtin.Goals as goal

pub returns-in_ok-new-in-Some : goal.returns-in_ok-new-in-Some
returns-in_ok-new-in-Some c =
    let d = called c.args.own c.args.builtin (values_of c.args.arguments.now) in
    ap (λ a. Asks (act_of a)) c.in_ok-new-in-Some.ensures.ok ∙ asks_it d (act_of c.in-Some.act)
    (subst (λ o. option_map act_of o ≡ act_asked_by d) c.in-Some.is (c.in_ok-act.ensures c.args.own))

use Rattle.std.proofs.Common.{refl}
use Rattle.pf_terms.specs.Term.{value_of}
use Rattle.pf_compile_patterns.specs.Maker.{code_of}
use Rattle.pf_compile_patterns.proofs.Plans.{planned_test, leads_known}
use Rattle.pf_compile_patterns.proofs.maker.Maker.plan_known.Goals as goal

pub returns : goal.returns
returns c =
    let k = c.in_ok-constant.ensures in
    planned_test _ _ c.args.plan.now _ _ _ k.grown refl refl c.in_ok-push.ensures.items c.requires.slots_below
    (leads_known (code_of c.args.self.now) (code_of c.constant.new.self) c.args.plan.now (value_of c.args.value)
    c.args.subject c.in_ok-constant.constant k)

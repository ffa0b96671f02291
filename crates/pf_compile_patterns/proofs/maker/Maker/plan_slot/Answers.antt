use Rattle.std.proofs.Common.{◌≡◌, Some, None, refl, subst}
use Rattle.std.specs.Prelude.{slice_get}
use Rattle.pf_compile_patterns.specs.Maker.{code_of}
use Rattle.pf_compile_patterns.proofs.Grown.{extends_itself}
use Rattle.pf_compile_patterns.proofs.Plans.{planned_test, leads_slot, leads_no_slot}
use Rattle.pf_compile_patterns.proofs.maker.Maker.plan_slot.Goals as goal

pub returns-in_ok-push-in-Some : goal.returns-in_ok-push-in-Some
returns-in_ok-push-in-Some c =
    planned_test _ _ c.args.plan.now _ _ _ (extends_itself (code_of c.args.self.now)) refl refl
    c.in_ok-push-in-Some.ensures.items c.requires.slots_below
    (leads_slot (code_of c.args.self.now) c.args.plan.now c.args.index c.args.subject c.in-Some.known.now
    (subst (λ l. slice_get l c.args.index ≡ Some c.in-Some.known.now) c.as_slice.ensures.value c.in-Some.ensures))

pub returns-in_ok-push-in-None : goal.returns-in_ok-push-in-None
returns-in_ok-push-in-None c =
    planned_test _ _ c.args.plan.now _ _ _ (extends_itself (code_of c.args.self.now)) refl refl
    c.in_ok-push-in-None.ensures.items c.requires.slots_below
    (leads_no_slot (code_of c.args.self.now) c.args.plan.now c.args.index c.args.subject
    (subst (λ l. slice_get l c.args.index ≡ None) c.as_slice.ensures.value c.in-None.ensures))

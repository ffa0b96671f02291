use Rattle.std.proofs.Common.{◌≡◌, length, refl, sym, ap, ◌∙◌, subst, arith}
use Rattle.pf_syntax.specs.Module.{pattern_at}
use Rattle.pf_syntax.specs.Over.{pattern_over, patterns_at}
use Rattle.pf_compile_patterns.specs.Maker.{code_of}
use Rattle.pf_compile_patterns.specs.Planned.{fit_at, fit_row, Planned}
use Rattle.pf_compile_patterns.proofs.Grown.{by_ok}
use Rattle.pf_compile_patterns.proofs.Dependent.{below_more}
use Rattle.pf_compile_patterns.specs.declared.plan.Plan.{Plan}
use Rattle.pf_compile_patterns.proofs.Plans.{planned_new, planned_never, planned_cons, planned_tuple, planned_row_at}
use Rattle.pf_compile_patterns.proofs.Plans.{count_at}
use Rattle.pf_compile_patterns.proofs.maker.Maker.+plan.Goals as goal

pub plan-returns-in_ok-push-in-New : goal.plan-returns-in_ok-push-in-New
plan-returns-in_ok-push-in-New t c =
    planned_new (code_of c.args.self.now) c.args.plan.now _ c.args.subject _
    (ap (pattern_over c.args.code.now.tables) (sym c.in-New.is) ∙ c.in-Some.ensures.found)
    c.in_ok-push-in-New.ensures.items refl refl c.requires.subject_below c.requires.slots_below

pub plan-returns-in_ok-push-in-Never : goal.plan-returns-in_ok-push-in-Never
plan-returns-in_ok-push-in-Never t c =
    planned_never (code_of c.args.self.now) c.args.plan.now _ c.args.subject _
    (ap (pattern_over c.args.code.now.tables) (sym c.in-Never.is) ∙ c.in-Some.ensures.found) refl refl
    c.in_ok-push-in-Never.ensures.items c.requires.slots_below

pub plan_cons-plan-requires : goal.plan_cons-plan-requires
plan_cons-plan-requires t c = (
  omega (arith, c.decreases),
  (omega arith, below_more c.args.plan.now.free _ c.args.plan.now.slots.items (omega arith) c.requires.slots_below),
)

pub plan_cons-returns : goal.plan_cons-returns
plan_cons-returns t c =
    let a = code_of c.args.self.now in
    let b = code_of c.plan.new.self in
    let d = code_of c.plan-2.new.self in
    let f = pattern_at c.args.code.now.tables c.args.first.0 in
    let g = pattern_at c.args.code.now.tables c.args.rest.0 in
    let q : Plan = record {
      slots = c.args.plan.now.slots;
      free = c.in_ok-plan.field-0;
      tests = c.push.new.self;
    } in
    by_ok _ _ _ c.plan-2.ensures
    (λ x h. planned_cons a b d c.args.plan.now q c.plan.new.plan c.plan-2.new.plan c.args.subject f g (record {
      slots = refl;
      free = omega arith;
      tests = c.in_ok-push.ensures.items;
    }) c.requires.subject_below c.requires.slots_below c.in_ok-plan-2.ensures
    (subst (λ n. Planned b d c.plan.new.plan c.plan-2.new.plan (fit_at g n)) c.in_ok-tail.ensures h))

pub plan_row-returns-in_ok-plan-in-len1-up : goal.plan_row-returns-in_ok-plan-in-len1-up
plan_row-returns-in_ok-plan-in-len1-up t c =
    by_ok _ _ _ c.plan_row.ensures
    (λ x h. planned_row_at c.args.code.now.tables c.args.parts.now _ (code_of c.args.self.now) (code_of c.plan.new.self)
    (code_of c.plan_row.new.self) c.args.plan.now c.plan.new.plan c.plan_row.new.plan c.args.first (omega arith)
    c.requires.row_below c.in_ok-plan-in-len1-up.ensures h)

pub plan_tuple-plan_row-requires : goal.plan_tuple-plan_row-requires
plan_tuple-plan_row-requires t c = (
  omega (arith, c.decreases),
  (omega arith, below_more c.args.plan.now.free _ c.args.plan.now.slots.items (omega arith) c.requires.slots_below),
)

pub plan_tuple-returns : goal.plan_tuple-returns
plan_tuple-returns t c =
    let a = code_of c.args.self.now in
    let b = code_of c.plan_row.new.self in
    let ps = patterns_at c.args.code.now.tables c.args.parts.now in
    let n = c.in_ok-size.size in
    let e : n ≡ length c.args.parts.now = c.in_ok-size.ensures in
    let q : Plan = record {
      slots = c.args.plan.now.slots;
      free = c.in_ok-plan.field-0;
      tests = c.push.new.self;
    } in
    by_ok _ _ _ c.plan_row.ensures
    (λ x h. planned_tuple a b c.args.plan.now q c.plan_row.new.plan c.args.subject n ps
    (e ∙ sym (count_at c.args.code.now.tables c.args.parts.now)) (record {
      slots = refl;
      free = omega arith;
      tests = c.in_ok-push.ensures.items;
    }) c.requires.subject_below c.requires.slots_below
    (subst (λ k. Planned a b q c.plan_row.new.plan (fit_row ps c.args.plan.now.free k)) (sym e) h))

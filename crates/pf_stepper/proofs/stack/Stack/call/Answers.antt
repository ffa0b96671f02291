use Rattle.std.proofs.Common.{◌≡◌, refl, ap, ◌∙◌, ◌-◌, drop, length, arith}
use Rattle.std.proofs.lemmas.List.{take_rest, length-drop}
use Rattle.pf_stepper.proofs.Entered.{enters_nothing, enters_as}
use Rattle.pf_stepper.proofs.Plain.{plain_picks}
use Rattle.pf_stepper.proofs.stack.Stack.call.Goals as goal

pub returns-in-None : goal.returns-in-None
returns-in-None c = enters_nothing _ _ _ _ _ _ _ c.args.count c.requires c.args.function _ refl refl c.in-None.ensures

pub returns-in-Some-plain : goal.returns-in-Some-plain
returns-in-Some-plain c =
    let p = c.in_ok-move_operands-in-Some.ensures in
    let ws = c.args.self.now.operands.items in
    let from = c.len.result - c.args.count in
    let e = c.len.ensures ∙ c.args.self.now.operands.ok.0 in
    let count : length (drop from ws) ≡ c.args.count = omega (arith, length-drop from ws, c.requires.operands, e) in
    rw (p.env, p.operands, p.frames, p.base)
    (enters_as _ _ _ _ c.args.self.now.base _ _ c.args.count c.requires c.args.function _ _ _ _ (drop from ws) from _ _
    _ refl c.in-Some.ensures c.top-end.ensures c.cut.ensures (ap (λ l. l - c.args.count) e) refl refl
    (plain_picks c.args.code.now c.args.own _ (drop from ws) _ c.args.count c.in-Some-plain.body
    (rw c.as_slice-clauses.ensures.value at c.in-Some-plain.ensures) count) refl)

pub returns-in-Some-body : goal.returns-in-Some-body
returns-in-Some-body c =
    enters_as _ _ _ _ c.args.self.now.base _ _ c.args.count c.requires c.args.function _ _ _ _ _ _ _ _ _ refl
    c.in-Some.ensures c.top-end.ensures c.cut.ensures
    (ap (λ l. l - c.args.count) (c.len.ensures ∙ c.args.self.now.operands.ok.0)) c.cut-in-Some.ensures
    (take_rest c.deref.result.now (c.len.result - c.args.count) ∙ ap (drop (c.len.result - c.args.count))
    c.deref.ensures.value)
    (rw (c.as_slice-clauses.ensures.value, c.in-Some-body.is) at c.in_ok-body-in-Some.ensures) refl

pub returns-in-None-body : goal.returns-in-None-body
returns-in-None-body c =
    enters_as _ _ _ _ c.args.self.now.base _ _ c.args.count c.requires c.args.function _ _ _ _ _ _ _ _ _ refl
    c.in-Some.ensures c.top-end.ensures c.cut.ensures
    (ap (λ l. l - c.args.count) (c.len.ensures ∙ c.args.self.now.operands.ok.0)) c.cut-in-Some.ensures
    (take_rest c.deref.result.now (c.len.result - c.args.count) ∙ ap (drop (c.len.result - c.args.count))
    c.deref.ensures.value)
    (rw (c.as_slice-clauses.ensures.value, c.in-None-body.is) at c.in_ok-body-in-Some.ensures) (_, refl, refl)

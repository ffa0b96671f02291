use Rattle.std.proofs.Common.{◌≡◌, sym, ap, ◌∙◌, subst, length, take, Some}
use Rattle.pf_terms.specs.Term.{value_of}
use Rattle.pf_stepper.specs.MicroSteps.{Picked}
use Rattle.pf_stepper.proofs.Selected.{picked_of, picks_here, picks_past, guard_fails, cut_again}
use Rattle.pf_stepper.proofs.clauses.choose.Goals as goal
use Rattle.pf_stepper.proofs.clauses.choose.Goals.{else-branch-via-then-branch+in_ok-admits+else-branch-2}
use Rattle.pf_stepper.proofs.clauses.choose.Goals.{else-branch-via-else-branch}

pub returns-then-branch-2-clause-picked : goal.returns-then-branch-2-clause-picked
returns-then-branch-2-clause-picked c =
    let all = picked_of c.args.code.now c.args.own c.args.base c.args.env.now.items c.args.clauses.now
    (value_of c.args.value.now) in
    subst (λ k. Picked c.args.code.now c.args.base k c.bind.new.env.items (Some c.clause-item.result.body) all)
    c.loop-clause.invariant.same
    (picks_here c.args.code.now c.args.own _ c.loop-clause.env.items _ c.args.clauses.now c.loop-clause.clause-index
    c.clause-item.result (value_of c.args.value.now) _ all c.loop-clause-test.true c.clause-item.is
    c.loop-clause.invariant.left c.in_ok-bind.ensures c.if-branch.true
    (sym (rw c.as_slice.ensures.value at c.in_ok-admits.ensures) ∙ c.if-branch-2.true))

pub loop-clause-preserved : goal.loop-clause-preserved
loop-clause-preserved c =
    let s = c.loop-clause.invariant.same in
    let all = picked_of c.args.code.now c.args.own c.args.base c.args.env.now.items c.args.clauses.now
    (value_of c.args.value.now) in
    let mid : c.cut.new.values.items ≡ c.loop-clause.env.items =
    cut_again _ c.loop-clause.env.items _ _ _ _ c.in_ok-bind.ensures
    (c.cut.ensures ∙ ap (λ n. take n c.bind.new.env.items)
    (c.len-end.ensures ∙ c.args.env.now.ok.0 ∙ ap length (sym s))) in
    record {
      same = mid ∙ s;
      left = elim c.else-branch.branch [
        | else-branch-via-then-branch+in_ok-admits+else-branch-2 w ↦
            guard_fails c.args.code.now c.args.own _ c.loop-clause.env.items _ c.args.clauses.now
            c.loop-clause.clause-index c.clause-item.result (value_of c.args.value.now) _ all
            c.loop-clause-test.true c.clause-item.is
            c.loop-clause.invariant.left c.in_ok-bind.ensures _ w.if-branch.true
            (sym (rw w.as_slice.ensures.value at w.in_ok-admits.ensures) ∙ w.if-branch-2.false) mid
        | else-branch-via-else-branch w ↦
            picks_past c.args.code.now c.args.own _ c.loop-clause.env.items _ c.args.clauses.now
            c.loop-clause.clause-index c.clause-item.result (value_of c.args.value.now) _ all
            c.loop-clause-test.true c.clause-item.is
            c.loop-clause.invariant.left c.in_ok-bind.ensures _ w.if-branch.false mid
      ];
    }

use Rattle.std.proofs.Common.{◌≡◌, ℕ, ◌+◌, List, drop, take, get_or, refl, sym, ap, ◌∙◌, subst, arith}
use Rattle.std.specs.Prelude.{if◌then◌else◌}
use Rattle.std.proofs.lemmas.List.{at_drop_more, at_drop_all}
use Rattle.pf_syntax.specs.Expr.{exprs_depth, condition_depth, branches_depth, expr, tests, branch}
use Rattle.pf_syntax.specs.Scope.{has, after_all}
use Rattle.pf_syntax.specs.SyntaxTree.{expr_at, expr_pattern_at}
use Rattle.pf_syntax.specs.SyntaxTreeOver.{exprs_at, alternatives_at, branches_over, condition_over, expr_over}
use Rattle.pf_syntax.specs.declared.expr.ExprId.{ExprId}
use Rattle.pf_syntax.specs.declared.expr.Tests.{Tests}
use Rattle.pf_syntax.specs.declared.expr.ExprNode.{ExprNode}
use Rattle.pf_rules.specs.Static.{names_of_module, exprs_faults}
use Rattle.pf_static_check.specs.Marks.{status_of, trail_of}
use Rattle.pf_static_check.specs.Walking.{ExprWalked, ExprsWalked, ConditionWalked}
use Rattle.pf_static_check.specs.declared.variable_states.Status.TheVariants.{New, Unsafe}
use Rattle.pf_static_check.proofs.Passing.{next_item, exprs_more, exprs_all, condition_more, condition_all}
use Rattle.pf_static_check.proofs.Passing.{branches_more, branches_all, branch_closed, walks_back, called}
use Rattle.pf_static_check.proofs.Passing.{underway_first}
use Rattle.pf_static_check.proofs.walk.ClauseWalk.+exprs.Goals as goal

pub exprs-loop-part-init : goal.exprs-loop-part-init
exprs-loop-part-init t c = record { underway = underway_first c.args.self.now _ _; shallow = omega arith }

pub condition-loop-alternative-init : goal.condition-loop-alternative-init
condition-loop-alternative-init t c = record { underway = underway_first c.args.self.now _ _; shallow = omega arith }

pub exprs-loop-part-preserved : goal.exprs-loop-part-preserved
exprs-loop-part-preserved t c =
    let n = names_of_module c.args.atoms.now c.args.syntax.now.functions in
    let node_table = c.args.syntax.now.node_table in
    let parts = c.args.parts.now in
    let i = c.loop-part.part-index in
    let d : ExprId = record { 0 = 0 } in
    let split : exprs_at node_table (drop i parts) ≡ expr (expr_at node_table (get_or parts i d).0)
    (exprs_at node_table (drop (i + 1) parts)) =
    at_drop_more (λ qs. exprs_at node_table qs) parts i d c.loop-part-test.true in
    record {
      underway = exprs_more n c.args.self.now c.loop-part.self c.expr.new.self (exprs_at node_table parts)
          (exprs_at node_table (drop i parts)) (exprs_at node_table (drop (i + 1) parts)) _ split
          c.loop-part.invariant.underway c.in_ok-expr.ensures;
      shallow = omega (arith, c.loop-part.invariant.shallow, ap exprs_depth split);
    }

pub exprs-returns : goal.exprs-returns
exprs-returns t c =
    let node_table = c.args.syntax.now.node_table in
    let parts = c.args.parts.now in
    exprs_all (names_of_module c.args.atoms.now c.args.syntax.now.functions) c.args.self.now c.loop-part.self
    (exprs_at node_table parts) (exprs_at node_table (drop c.loop-part.part-index parts))
    (at_drop_all (λ qs. exprs_at node_table qs) parts c.loop-part.part-index c.loop-part-test.false)
    c.loop-part.invariant.underway

pub condition-returns : goal.condition-returns
condition-returns t c =
    let n = names_of_module c.args.atoms.now c.args.syntax.now.functions in
    let node_table = c.args.syntax.now.node_table in
    let parts = c.deref-alternative-items.result.now in
    let i = c.loop-alternative.alternative-index in
    subst (λ (ts : List Tests). ConditionWalked n c.args.self.now c.loop-alternative.self
    (alternatives_at node_table ts)) c.deref-alternative-items.ensures.value
    (condition_all n c.args.self.now c.loop-alternative.self (alternatives_at node_table parts)
    (alternatives_at node_table (drop i parts))
    (at_drop_all (λ ts. alternatives_at node_table ts) parts i c.loop-alternative-test.false)
    c.loop-alternative.invariant.underway)

pub condition-loop-alternative-preserved : goal.condition-loop-alternative-preserved
condition-loop-alternative-preserved t c =
    let n = names_of_module c.args.atoms.now c.args.syntax.now.functions in
    let node_table = c.args.syntax.now.node_table in
    let parts = c.deref-alternative-items.result.now in
    let i = c.loop-alternative.alternative-index in
    let x = c.alternative-item.result in
    let rest = alternatives_at node_table (drop (i + 1) parts) in
    let split : alternatives_at node_table (drop i parts) ≡ tests (exprs_at node_table x.tests.items) rest =
    next_item (λ ts. alternatives_at node_table ts) parts i x c.loop-alternative-test.true c.alternative-item.is in
    let here : alternatives_at node_table (drop i parts) ≡ tests (exprs_at node_table c.deref.result.now) rest =
    split ∙ ap (λ (ids : List ExprId). tests (exprs_at node_table ids) rest) (sym c.deref.ensures.value) in
    record {
      underway = condition_more n c.args.self.now c.loop-alternative.self c.tests.new.self
          (alternatives_at node_table parts) (alternatives_at node_table (drop i parts)) rest _ here
          c.loop-alternative.invariant.underway c.in_ok-tests.ensures;
      shallow = omega (arith, c.loop-alternative.invariant.shallow, ap condition_depth split);
    }

pub branches-loop-branch-preserved : goal.branches-loop-branch-preserved
branches-loop-branch-preserved t c =
    let n = names_of_module c.args.atoms.now c.args.syntax.now.functions in
    let node_table = c.args.syntax.now.node_table in
    let parts = c.args.branches.now in
    let i = c.loop-branch.branch-index in
    let x = c.branch-item.result in
    let rest = branches_over node_table (drop (i + 1) parts) in
    let split : branches_over node_table (drop i parts) ≡ branch (expr_pattern_at node_table x.expr_pattern.0)
    (condition_over node_table x.condition) (exprs_at node_table x.body.items) rest =
    next_item (λ bs. branches_over node_table bs) parts i x c.loop-branch-test.true c.branch-item.is in
    record {
      underway = branches_more n c.args.self.now c.loop-branch.self c.branch-self.new.self
          (branches_over node_table parts) (branches_over node_table (drop i parts)) rest _ _ _ split
          c.loop-branch.invariant.underway c.in_ok-branch.ensures;
      shallow = omega (arith, c.loop-branch.invariant.shallow, ap branches_depth split);
    }

pub branches-returns : goal.branches-returns
branches-returns t c =
    let node_table = c.args.syntax.now.node_table in
    let parts = c.args.branches.now in
    let i = c.loop-branch.branch-index in
    let now = c.loop-branch.self in
    branches_all (names_of_module c.args.atoms.now c.args.syntax.now.functions) c.args.self.now now _
    (branches_over node_table parts) (branches_over node_table (drop i parts))
    (at_drop_all (λ qs. branches_over node_table qs) parts i c.loop-branch-test.false)
    c.loop-branch.invariant.underway refl
    (λ x. c.in_ok-set_since.ensures.set x ∙ ap (λ (k : ℕ). if has (drop k (trail_of now.variables)) x then Unsafe
    else status_of now.variables x) c.trail_len-start.ensures)
    c.in_ok-set_since.ensures.trail

pub branch-returns : goal.branch-returns
branch-returns t c =
    let n = names_of_module c.args.atoms.now c.args.syntax.now.functions in
    let node_table = c.args.syntax.now.node_table in
    let now = c.exprs.new.self in
    let body = subst (λ (ids : List ExprId). ExprsWalked n c.condition.new.self now (exprs_at node_table ids))
    c.deref.ensures.value c.in_ok-exprs.ensures in
    let b = c.args.branch.now in
    branch_closed n c.args.self.now c.expr_pattern.new.self c.condition.new.self now _
    (expr_pattern_at node_table b.expr_pattern.0) (condition_over node_table b.condition)
    (exprs_at node_table b.body.items) c.in_ok-expr_pattern.ensures c.in_ok-condition.ensures body refl
    (λ x. c.in_ok-set_since.ensures.set x ∙ ap (λ (k : ℕ). if has (drop k (trail_of now.variables)) x then New
    else status_of now.variables x) c.trail_len-start.ensures)
    c.in_ok-set_since.ensures.trail

pub tests-returns : goal.tests-returns
tests-returns t c =
    let n = names_of_module c.args.atoms.now c.args.syntax.now.functions in
    let es = exprs_at c.args.syntax.now.node_table c.args.tests.now in
    let now = c.exprs.new.self in
    walks_back c.args.self.now now _ (λ g. after_all g es) (λ g. exprs_faults n g es) c.in_ok-exprs.ensures refl
    (λ x. c.in_ok-forget.ensures.set x ∙ ap (λ (k : ℕ). if has (drop k (trail_of now.variables)) x then New
    else status_of now.variables x) c.trail_len-start.ensures)
    (c.in_ok-forget.ensures.trail ∙ ap (λ (k : ℕ). take k (trail_of now.variables)) c.trail_len-start.ensures)

pub expr_node-returns-in_ok-exprs-in-Call : goal.expr_node-returns-in_ok-exprs-in-Call
expr_node-returns-in_ok-exprs-in-Call t c =
    let atoms = c.args.atoms.now in
    let fs = c.args.syntax.now.functions in
    let node_table = c.args.syntax.now.node_table in
    let old = c.args.self.now in
    let new = c.exprs-in-Call.new.self in
    let w = c.in-Call.ident in
    let ids = c.in-Call.arguments in
    subst (λ (m : ExprNode). ExprWalked (names_of_module atoms fs) old new (expr_over node_table m)) (sym c.in-Call.is)
    (called atoms fs c.args.own.now node_table old c.call.new.self new w.name.0 w.offset c.len.result ids.items
    c.deref-in-Call.result.now c.requires (omega (arith, ids.ok.0)) c.deref-in-Call.ensures.value c.call.ensures
    c.in_ok-exprs-in-Call.ensures)

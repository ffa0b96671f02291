use Rattle.std.proofs.Common.{ℕ, List, drop, take, refl, ap, ◌∙◌, subst}
use Rattle.std.specs.Prelude.{if◌then◌else◌}
use Rattle.pf_syntax.specs.Scope.{has}
use Rattle.pf_syntax.specs.SyntaxTreeOver.{head_over, exprs_at, expr_patterns_at}
use Rattle.pf_syntax.specs.declared.expr.ExprId.{ExprId}
use Rattle.pf_syntax.specs.declared.expr.ExprPatternId.{ExprPatternId}
use Rattle.pf_rules.specs.Static.{names_of_module}
use Rattle.pf_static_check.specs.Marks.{status_of, trail_of}
use Rattle.pf_static_check.specs.Walking.{ExprsWalked, ExprPatternsWalked}
use Rattle.pf_static_check.specs.declared.variable_states.Status.TheVariants.{New}
use Rattle.pf_static_check.proofs.Passing.{begins_again}
use Rattle.pf_static_check.proofs.walk.ClauseWalk.head.Goals as goal

pub returns : goal.returns
returns c =
    let n = names_of_module c.args.atoms.now c.args.syntax.now.functions in
    let node_table = c.args.syntax.now.node_table in
    let now = c.exprs.new.self in
    let front = subst (λ (ids : List ExprPatternId). ExprPatternsWalked c.args.self.now c.expr_patterns.new.self
    (expr_patterns_at node_table ids)) c.deref.ensures.value c.in_ok-expr_patterns.ensures in
    let body = subst (λ (ids : List ExprId). ExprsWalked n c.condition.new.self now (exprs_at node_table ids))
    c.deref-2.ensures.value c.in_ok-exprs.ensures in
    begins_again n c.args.self.now c.expr_patterns.new.self c.condition.new.self now _
    (head_over node_table c.args.head.now) front c.in_ok-condition.ensures body refl
    (λ x. c.in_ok-forget.ensures.set x ∙ ap (λ (k : ℕ). if has (drop k (trail_of now.variables)) x then New
    else status_of now.variables x) c.trail_len-start.ensures)
    (c.in_ok-forget.ensures.trail ∙ ap (λ (k : ℕ). take k (trail_of now.variables)) c.trail_len-start.ensures)

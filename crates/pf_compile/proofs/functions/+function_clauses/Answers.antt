use Rattle.std.proofs.Common.{◌≡◌, length, get_or, ap, ◌∙◌, refl, subst, arith, rules}
use Rattle.pf_syntax.specs.Over.{guard_over, part_over, patterns_at}
use Rattle.pf_compile_patterns.specs.Maker.{code_of}
use Rattle.pf_compile_patterns.specs.Growth.{Made}
use Rattle.pf_compile_patterns.specs.Tests.{Lays}
use Rattle.pf_compile_patterns.specs.Planned.{fit_row, Planned}
use Rattle.pf_compile_patterns.specs.Guarded.{holds_at, AsksBelow}
use Rattle.pf_compile.specs.Evaluated.{Evaluates}
use Rattle.pf_compile_patterns.specs.Scopes.{model_in, tables_in}
use Rattle.pf_compile_patterns.specs.declared.scope.Scope.{Scope}
use Rattle.pf_compile_patterns.proofs.Guarded.{exits_to}
use Rattle.pf_compile.proofs.Clauses.{Begun}
use Rattle.pf_compile.proofs.Compiled.{other_clause_at, clause_at, last_target}
use Rattle.pf_compile.proofs.functions.+function_clauses.Goals as goal

pub returns-then-len-arity : goal.returns-then-len-arity
returns-then-len-arity t c =
    let item : c.clause-item.result ≡ get_or c.args.clauses.now 0 c.clause-item.result =
    search (rules, c.clause-item.is) in
    let m = ap (λ k. length k.parameters.items) item in
    other_clause_at c.args.scope.now c.args.clauses.now c.clause-item.result c.args.arity (code_of c.args.maker.now)
    (code_of c.function_clauses.new.maker) c.args.otherwise c.in_ok-next-in-len1-up.next (omega arith)
    (λ e. omega (arith, e, m, c.clause-item.result.parameters.ok.0, c.len.ensures, c.if-len-arity.true))
    c.in_ok-next-in-len1-up.ensures

pub returns-in_ok-lay-in-len1-up : goal.returns-in_ok-lay-in-len1-up
returns-in_ok-lay-in-len1-up t c =
    let b = tables_in c.args.scope.now in
    let n = c.args.arity in
    let before = c.in_ok-plan-in-len1-up.plan in
    let after = c.plan_row.new.plan in
    let next = c.in_ok-next-in-len1-up.next in
    let body = c.in_ok-body-in-len1-up.body in
    let guard = c.in_ok-guard-in-len1-up.guard in
    let ps = c.as_slice.result.now in
    let inner : Scope = record { code = c.args.scope.now.code; slots = c.as_slice-in-len1-up.result } in
    let item : c.clause-item.result ≡ get_or c.args.clauses.now 0 c.clause-item.result =
    search (rules, c.clause-item.is) in
    let m = ap length c.as_slice.ensures.value in
    let size : length ps ≡ n =
    omega (arith, c.clause-item.result.parameters.ok.0, c.len.ensures, c.if-len-arity.false) in
    let same : ps ≡ (get_or c.args.clauses.now 0 c.clause-item.result).parameters.items =
    c.as_slice.ensures.value ∙ ap (λ k. k.parameters.items) item in
    let begun : Begun c.args.scope.now inner (last_target n) before after = record {
      model = refl;
      inner_slots = c.as_slice-in-len1-up.ensures.value;
      slots = c.in_ok-plan-in-len1-up.ensures.slots_are;
      free = c.in_ok-plan-in-len1-up.ensures.free_is;
      tests = c.in_ok-plan-in-len1-up.ensures.no_test;
    } in
    clause_at c.args.scope.now inner c.args.clauses.now c.clause-item.result n before after (code_of c.args.maker.now)
    (code_of c.function_clauses.new.maker) (code_of c.plan_row.new.self) (code_of c.operand.new.maker)
    (code_of c.guard.new.self) (code_of c.lay.new.self) c.args.otherwise next body guard _ (omega arith)
    c.requires.no_variable begun refl c.in_ok-next-in-len1-up.ensures
    (subst (λ qs. Planned (code_of c.function_clauses.new.maker) (code_of c.plan_row.new.self) before after
    (fit_row (patterns_at b qs) 0 n)) same
    (subst (λ z. Planned (code_of c.function_clauses.new.maker) (code_of c.plan_row.new.self) before after
    (fit_row (patterns_at b ps) 0 z)) size c.in_ok-plan_row-in-len1-up.ensures))
    (subst (λ k. Made (code_of c.plan_row.new.self) (code_of c.operand.new.maker) body
    (Evaluates inner (part_over b k.body) (last_target after.free) body)) item c.in_ok-body-in-len1-up.ensures)
    (subst (λ k. Made (code_of c.operand.new.maker) (code_of c.guard.new.self) guard
    (AsksBelow (model_in inner) (exits_to after.free body next) guard (holds_at inner (guard_over b k.guard)))) item
    c.in_ok-guard-in-len1-up.ensures)
    (subst (λ ts. Made (code_of c.guard.new.self) (code_of c.lay.new.self) c.in_ok-lay-in-len1-up.field-0
    (Lays ts guard next c.in_ok-lay-in-len1-up.field-0)) c.as_slice-in-len1-up-2.ensures.value
    c.in_ok-lay-in-len1-up.ensures)

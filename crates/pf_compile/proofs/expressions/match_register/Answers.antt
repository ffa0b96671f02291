use Rattle.std.proofs.Common.{◌∙◌, sym, arith}
use Rattle.pf_compile_patterns.specs.Maker.{code_of}
use Rattle.pf_compile_patterns.specs.Scopes.{slots_in}
use Rattle.pf_compile_patterns.proofs.Grown.{by_ok}
use Rattle.pf_compile_patterns.proofs.Dependent.{below_more}
use Rattle.pf_compile.proofs.Rows.{match_free_none, match_free_more}
use Rattle.pf_compile.proofs.expressions.match_register.Goals as goal

pub returns-then-is_empty : goal.returns-then-is_empty
returns-then-is_empty c =
    match_free_none c.args.scope.now c.args.patterns.now c.args.to (code_of c.args.maker.now)
    (code_of c.give_register.new.maker) (code_of c.step.new.maker) c.in_ok-end.end _
    (sym c.is_empty.ensures ∙ c.if-is_empty.true) c.in_ok-end.ensures c.in_ok-step.ensures

pub matches-requires-clause-target : goal.matches-requires-clause-target
matches-requires-clause-target c = (
  omega (arith, c.in_ok-register_after.ensures, c.requires.0),
  below_more c.args.to.free _ (slots_in c.args.scope.now) (omega (arith, c.in_ok-register_after.ensures)) c.requires.1,
  c.requires.2,
)

pub returns : goal.returns
returns c =
    by_ok _ _ _ c.matches.ensures
    (λ pc h. match_free_more c.args.scope.now c.args.patterns.now c.args.to c.in_ok-register_after.field-0
    (code_of c.args.maker.now) (code_of c.matches.new.maker) pc (sym c.is_empty.ensures ∙ c.if-is_empty.false) h)

use Rattle.std.proofs.Common.{arith, refl, subst}
use Rattle.pf_syntax.specs.Over.{patterns_at}
use Rattle.pf_compile_patterns.specs.Maker.{code_of}
use Rattle.pf_compile_patterns.specs.Growth.{Made}
use Rattle.pf_compile_patterns.specs.Tests.{Lays}
use Rattle.pf_compile_patterns.specs.Scopes.{tables_in}
use Rattle.pf_compile.specs.Evaluated.{Matches}
use Rattle.pf_compile_patterns.specs.declared.scope.Scope.{Scope}
use Rattle.pf_compile.proofs.Clauses.{Begun}
use Rattle.pf_compile.proofs.Rows.{matches_at, rest}
use Rattle.pf_compile.proofs.expressions.+matches.Goals as goal

pub returns-in_ok-step-in-len1-up : goal.returns-in_ok-step-in-len1-up
returns-in_ok-step-in-len1-up t c =
    let to = c.args.to in
    let before = c.in_ok-plan-in-len1-up.plan in
    let after = c.plan.new.plan in
    let next = c.in_ok-next-in-len1-up.next in
    let raise = c.in_ok-raise-in-len1-up.raise in
    let first = c.in_ok-first-in-len1-up.first in
    let inner : Scope = record { code = c.args.scope.now.code; slots = c.as_slice.result } in
    let begun : Begun c.args.scope.now inner to before after = record {
      model = refl;
      inner_slots = c.as_slice.ensures.value;
      slots = c.in_ok-plan-in-len1-up.ensures.slots_are;
      free = c.in_ok-plan-in-len1-up.ensures.free_is;
      tests = c.in_ok-plan-in-len1-up.ensures.no_test;
    } in
    matches_at c.args.scope.now inner c.args.patterns.now _ c.args.subject to before after (code_of c.args.maker.now)
    (code_of c.plan.new.self) (code_of c.matches.new.maker) (code_of c.raise_with.new.maker) (code_of c.lay.new.self)
    (code_of c.step.new.maker) next raise first _ (omega arith) c.requires.target.0 c.requires.subject_below
    c.requires.target.1 begun refl c.in_ok-plan-in-len1-up-2.ensures
    (subst (λ z. Made (code_of c.plan.new.self) (code_of c.matches.new.maker) next
    (Matches inner (patterns_at (tables_in inner) (rest c.args.patterns.now)) c.args.subject z next))
    c.at_plan.ensures c.in_ok-next-in-len1-up.ensures)
    c.in_ok-raise-in-len1-up.ensures
    (subst (λ ts. Made (code_of c.raise_with.new.maker) (code_of c.lay.new.self) first (Lays ts next raise first))
    c.as_slice-in-len1-up.ensures.value c.in_ok-first-in-len1-up.ensures) c.in_ok-step-in-len1-up.ensures

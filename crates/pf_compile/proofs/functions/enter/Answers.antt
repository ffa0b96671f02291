use Rattle.std.proofs.Common.{map, subst}
use Rattle.pf_syntax.specs.Over.{function_clause_over, function_over}
use Rattle.pf_model.specs.Module.{module_of}
use Rattle.pf_compile_patterns.specs.Maker.{code_of}
use Rattle.pf_compile_patterns.specs.Growth.{Made}
use Rattle.pf_compile.specs.Compiled.{PicksAll}
use Rattle.pf_compile_patterns.proofs.Grown.{by_ok}
use Rattle.pf_compile.proofs.Compiled.{enters}
use Rattle.pf_compile.proofs.functions.enter.Goals as goal

pub returns : goal.returns
returns c =
    let m = module_of c.args.code.now in
    let f = function_over c.args.code.now.tables c.args.function.now in
    by_ok _ _ _ c.function_clauses.ensures
    (λ pc h. enters m f (code_of c.args.maker.now) (code_of c.raise.new.maker) (code_of c.function_clauses.new.maker)
    c.in_ok-raise.raise pc c.in_ok-raise.ensures
    (subst (λ ks. Made (code_of c.raise.new.maker) (code_of c.function_clauses.new.maker) pc
    (PicksAll m (map (function_clause_over c.args.code.now.tables) ks) f.arity c.in_ok-raise.raise pc))
    c.as_slice.ensures.value h))

use Rattle.std.proofs.Common.{sym, subst}
use Rattle.pf_compile_patterns.specs.Maker.{code_of}
use Rattle.pf_compile_patterns.specs.Growth.{Made, Put}
use Rattle.pf_compile_patterns.proofs.Grown.{by_ok}
use Rattle.pf_compile.specs.Evaluated.{Begins}
use Rattle.pf_compile.proofs.Clauses.{begins_message, begins_value}
use Rattle.pf_compile.proofs.expressions.enter_body.Goals as goal

pub returns-in-Value : goal.returns-in-Value
returns-in-Value c =
    let k = code_of c.args.maker.now in
    subst (λ s. Made k k c.args.body (Begins s c.args.body c.args.body)) (sym c.in-Value.is)
    (begins_value c.in-Value.field-0 c.args.body k c.requires)

pub returns-in-Message : goal.returns-in-Message
returns-in-Message c =
    let k = code_of c.args.maker.now in
    by_ok _ _ _ c.put.ensures
    (λ pc h. subst (λ s. Made k (code_of c.put.new.self) pc (Begins s c.args.body pc)) (sym c.in-Message.is)
    (begins_message c.in-Message.field-0 c.args.body k (code_of c.put.new.self) pc c.requires
    (subst (λ i. Put k (code_of c.put.new.self) i c.args.body pc) c.free.ensures h)))

use Rattle.std.proofs.Common.{sym, subst}
use Rattle.pf_compile_patterns.specs.Maker.{code_of}
use Rattle.pf_compile.specs.Scopes.{IsAfter}
use Rattle.pf_compile_patterns.specs.Growth.{Made}
use Rattle.pf_compile.specs.Evaluated.{Calls}
use Rattle.pf_compile_patterns.proofs.Grown.{by_ok}
use Rattle.pf_compile.proofs.Parts.{calls_on, calls_last}
use Rattle.pf_compile.proofs.expressions.call_row.Goals as goal

pub returns-in-Return : goal.returns-in-Return
returns-in-Return c =
    let k = code_of c.args.maker.now in
    let to = c.args.to in
    by_ok _ _ _ c.push.ensures
    (λ pc h. subst (λ a. Made k (code_of c.push.new.self) pc
    (Calls c.args.function.0 c.args.count (record { into = to.into; free = to.free; after = a }) pc))
    (sym c.in-Return.is)
    (calls_last c.args.function.0 c.args.count to.into to.free k (code_of c.push.new.self) pc
    (subst (IsAfter k) c.in-Return.is c.requires.after_there) h))

pub returns-in_ok-next-in-Place : goal.returns-in_ok-next-in-Place
returns-in_ok-next-in-Place c =
    by_ok _ _ _ c.step.ensures
    (λ pc h. calls_on c.args.function.0 c.args.count c.args.to (code_of c.args.maker.now) (code_of c.land.new.maker)
    (code_of c.load.new.self) (code_of c.step.new.maker) c.in_ok-end-in-Place.end c.in_ok-next-in-Place.next pc
    c.requires.into_below c.in_ok-end-in-Place.ensures c.in_ok-next-in-Place.ensures h)

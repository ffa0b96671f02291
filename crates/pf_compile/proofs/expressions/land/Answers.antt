use Rattle.std.proofs.Common.{sym, subst}
use Rattle.pf_compile_patterns.specs.Maker.{code_of}
use Rattle.pf_compile.specs.Scopes.{IsAfter}
use Rattle.pf_compile_patterns.specs.Growth.{Made}
use Rattle.pf_compile.specs.Evaluated.{Lands}
use Rattle.pf_compile_patterns.proofs.Grown.{by_ok}
use Rattle.pf_compile.proofs.Evaluated.{place_lands, return_lands}
use Rattle.pf_compile.proofs.expressions.land.Goals as goal

pub returns-in-Place : goal.returns-in-Place
returns-in-Place c =
    let k = code_of c.args.maker.now in
    subst (λ a. Made k k c.in-Place.place (Lands c.args.into a c.in-Place.place)) (sym c.in-Place.is)
    (place_lands k c.args.into c.in-Place.place (subst (IsAfter k) c.in-Place.is c.requires))

pub returns-in-Return : goal.returns-in-Return
returns-in-Return c =
    let k = code_of c.args.maker.now in
    by_ok _ _ _ c.push.ensures
    (λ pc h. subst (λ a. Made k (code_of c.push.new.self) pc (Lands c.args.into a pc)) (sym c.in-Return.is)
    (return_lands k (code_of c.push.new.self) c.args.into pc (subst (IsAfter k) c.in-Return.is c.requires) h))

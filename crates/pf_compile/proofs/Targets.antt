-- Where code goes on stays there as code grows.
use Rattle.std.proofs.Common.{◌≡◌, ◌≤◌, ℕ, List, length, sym, subst, arith}
use Rattle.pf_code.specs.Sound.{Code}
use Rattle.pf_compile.specs.declared.target.After.{After}
use Rattle.pf_compile.specs.declared.target.After.TheVariants as way
use Rattle.pf_compile.specs.declared.target.Target.{Target}
use Rattle.pf_compile_patterns.specs.Maker.{IsPlace}
use Rattle.pf_compile.specs.Scopes.{IsAfter, IsTarget}
use Rattle.pf_compile_patterns.specs.Growth.{Extends}
use Rattle.pf_compile_patterns.specs.Planned.{AreBelow}
use Rattle.pf_compile_patterns.proofs.Dependent.{below_more}
use Rattle.pf_compile.proofs.Evaluated.{target_at}
use Rattle.pf_compile.proofs.Clauses.{inner_target}

pub place_more : (a b : Code) (k : ℕ) → Extends a b → IsPlace a k → IsPlace b k
place_more a b k e h = (h.0, (let l = e.longer in let z = h.1 in omega arith))

pub after_more : (a b : Code) (x : After) → Extends a b → IsAfter a x → IsAfter b x
after_more a b (way.Place k) e h = place_more a b k e h
after_more a b way.Return e h = (let l = e.longer in omega arith)

-- code that something comes after has an instruction
pub after_begun : (a : Code) (x : After) → IsAfter a x → 1 ≤ length a.instructions
after_begun a (way.Place k) h = (let z = h.1 in omega arith)
after_begun a way.Return h = h

-- the same target in code that grew, where more registers are in use
pub target_more : (a b : Code) (slots : List ℕ) (to : Target) → Extends a b → IsTarget a slots to
    → IsTarget b slots to
target_more a b slots to e h = (h.0, h.1, after_more a b to.after e h.2)

pub target_above : (a b : Code) (slots others : List ℕ) (to into_free : Target) (free : ℕ) → to.free ≤ free
    → AreBelow free others → Extends a b → into_free ≡ inner_target to free → IsTarget a slots to
    → IsTarget b others into_free
target_above a b slots others to into_free free l below e is h =
    subst (IsTarget b others) (sym is) ((let z = h.0 in omega arith), below, after_more a b to.after e h.2)

pub target_on : (a b : Code) (slots : List ℕ) (to into_free : Target) (free : ℕ) → to.free ≤ free
    → Extends a b → into_free ≡ inner_target to free → IsTarget a slots to → IsTarget b slots into_free
target_on a b slots to into_free free l e is h =
    target_above a b slots slots to into_free free l (below_more to.free free slots l h.1) e is h

-- the target whose value goes on at a place from the free register
pub target_first : (code : Code) (slots : List ℕ) (to into_free : Target) (place : ℕ) → AreBelow to.free slots
    → IsPlace code place → into_free ≡ target_at to.free place → IsTarget code slots into_free
target_first code slots to into_free place below there is =
    subst (IsTarget code slots) (sym is) ((omega arith), below, there)

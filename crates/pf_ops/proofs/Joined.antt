-- Elements before those of a list, as `++` makes it from its end.
use Rattle.std.proofs.Common.{◌≡◌, ◌≤◌, List, [], ◌∷◌, ◌++◌, Err, refl, ap, arith}
use Rattle.std.proofs.lemmas.Bool.Decides.{nat_tests}
use Rattle.pf_terms.specs.Value.{Value, Values, none, more, list, nodes_in, depth_in, IsWithinLimits}
use Rattle.pf_terms.specs.Fixed.{system_limit}
use Rattle.pf_terms.specs.Term.{value_of, values_of}
use Rattle.pf_terms.specs.declared.term.Term.{Term}
use Rattle.pf_ops.specs.Operations.{limited, values_before}

pub before_push : (ts : List Term) (t : Term) (vs : Values)
    → values_before (values_of (ts ++ t ∷ [])) vs ≡ values_before (values_of ts) (more (value_of t) vs)
before_push [] t vs = refl
before_push (u ∷ ts) t vs = ap (more (value_of u)) (before_push ts t vs)

pub before_none : (vs : Values) → values_before vs none ≡ vs
before_none none = refl
before_none (more v vs) = ap (more v) (before_none vs)

nodes_before : (us vs : Values) → nodes_in vs ≤ nodes_in (values_before us vs)
nodes_before none vs = omega arith
nodes_before (more u us) vs = omega (arith, nodes_before us vs)

depth_before : (us vs : Values) → depth_in vs ≤ depth_in (values_before us vs)
depth_before none vs = omega arith
depth_before (more u us) vs = omega (arith, depth_before us vs)

-- a value past the limits raises
fits_not : (v : Value) → ¬ IsWithinLimits v → limited v ≡ Err system_limit
fits_not v h = grind (arith, nat_tests)

-- where a list is past the limits, so is one that ends with it
pub ends_past : (us : Values) (vs : Values) → ¬ IsWithinLimits (list vs)
    → limited (list (values_before us vs)) ≡ Err system_limit
ends_past us vs h =
    fits_not (list (values_before us vs)) (λ w.
    h (omega (arith, nodes_before us vs, w.0), omega (arith, depth_before us vs, w.1)))

-- Terms before the elements of a list, as a list is made from its end.
use Rattle.std.proofs.Common.{◌≡◌, ◌≤◌, List, [], ◌∷◌, ◌++◌, arith, ap, refl}
use Rattle.pf_terms.specs.Value.{Value, Values, none, more, list, nodes_in, depth_in, IsWithinLimits}
use Rattle.pf_terms.specs.Term.{value_of, values_of}
use Rattle.pf_terms.specs.declared.term.Term.{Term}

-- the values of terms, and then these
abbrev pub values_before : List Term → Values → Values
values_before [] vs = vs
values_before (t ∷ ts) vs = more (value_of t) (values_before ts vs)

pub before-none : (ts : List Term) → values_before ts none ≡ values_of ts
before-none [] = refl
before-none (t ∷ ts) = ap (more (value_of t)) (before-none ts)

pub before-push : (ts : List Term) (t : Term) (vs : Values)
    → values_before (ts ++ t ∷ []) vs ≡ values_before ts (more (value_of t) vs)
before-push [] t vs = refl
before-push (u ∷ ts) t vs = ap (more (value_of u)) (before-push ts t vs)

nodes-before : (ts : List Term) (vs : Values) → nodes_in vs ≤ nodes_in (values_before ts vs)
nodes-before [] vs = omega arith
nodes-before (t ∷ ts) vs = omega (arith, nodes-before ts vs)

depth-before : (ts : List Term) (vs : Values) → depth_in vs ≤ depth_in (values_before ts vs)
depth-before [] vs = omega arith
depth-before (t ∷ ts) vs = omega (arith, depth-before ts vs)

-- where a whole list is within the limits, so is what it ends with
pub front_within : (ts : List Term) (v : Value) (vs : Values) (us : List Term)
    → values_before ts (more v vs) ≡ values_of us → IsWithinLimits (list (values_of us))
    → IsWithinLimits (list (more v vs))
front_within ts v vs us e w =
    let n = nodes-before ts (more v vs) in
    let d = depth-before ts (more v vs) in
    let en = ap nodes_in e in
    let ed = ap depth_in e in
    (omega arith, omega arith)

-- The bindings of parts among those of the whole.
use Rattle.std.proofs.Common.{◌≡◌, ℕ, zero, suc, ◌+◌, ◌*◌, ◌≤◌, List, [], ◌∷◌, ◌++◌, length, take, drop, append_assoc}
use Rattle.std.proofs.Common.{append-nil, get_or, ◌-◌, ◌<◌, length-append, Some, None, refl, sym, ap, ◌∙◌, subst, arith}
use Rattle.std.proofs.lemmas.List.{drop-drop}
use Rattle.std.proofs.Math.Seq.{drop-append_seam, take-length}
use Rattle.pf_terms.specs.declared.limits.TheConstants.{MOST_NODES}
use Rattle.pf_terms.specs.Value.{Value, Values, int, atom, ref, pid, tuple, list, none, more, nodes, nodes_in}
use Rattle.pf_terms.specs.Term.{value_of, values_of}
use Rattle.pf_terms.specs.declared.term.Term.{Term}
use Rattle.pf_syntax.specs.Module.{Tables, pattern_at}
use Rattle.pf_syntax.specs.Over.{patterns_at}
use Rattle.pf_syntax.specs.Pattern.{Pattern, Patterns, any, new, slot, known, tuple_of, cons_of, never, no_patterns}
use Rattle.pf_syntax.specs.Pattern.{pattern}
use Rattle.pf_syntax.specs.declared.node.PatternId.{PatternId}
use Rattle.pf_patterns.specs.Fit.{ValueScope, fit, fit_all}
use Rattle.pf_patterns.specs.Scopes.{scope_of}
use Rattle.pf_patterns.specs.Sizes.{patterns_size}
use Rattle.pf_patterns.specs.Bindings.{bindings, all_bindings}
use Rattle.pf_patterns.specs.Walks.{all_of, IsBoundFrom, Walked}
use Rattle.pf_patterns.specs.declared.trying.PatternWalk.{PatternWalk}

-- ---- how many there are

nodes_pos : (v : Value) → 1 ≤ nodes v
nodes_pos (int z) = omega arith
nodes_pos (atom a) = omega arith
nodes_pos (ref r) = omega arith
nodes_pos (pid p) = omega arith
nodes_pos (tuple vs) = omega arith
nodes_pos (list vs) = omega arith

mutual
  pub few_bindings : (p : Pattern) (v : Value) → length (bindings p v) ≤ 2 * nodes v
  few_bindings any v = omega arith
  few_bindings new v = omega (arith, nodes_pos v)
  few_bindings (slot x) v = omega arith
  few_bindings (known w) v = omega arith
  few_bindings (tuple_of ps) (tuple vs) = omega (arith, few_in_all ps vs)
  few_bindings (tuple_of ps) v = omega arith
  few_bindings (cons_of p q) (list none) = omega arith
  few_bindings (cons_of p q) (list (more w ws)) =
      omega (arith, length-append (bindings p w) (bindings q (list ws)), few_bindings p w, few_bindings q (list ws))
  few_bindings (cons_of p q) v = omega arith
  few_bindings never v = omega arith

  few_in_all : (ps : Patterns) (vs : Values) → length (all_bindings ps vs) ≤ 2 * nodes_in vs
  few_in_all no_patterns vs = omega arith
  few_in_all (pattern p ps) none = omega arith
  few_in_all (pattern p ps) (more w ws) =
      omega (arith, length-append (bindings p w) (all_bindings ps ws), few_bindings p w, few_in_all ps ws)

-- ---- where they are

-- what comes after the bindings of a part
pub after : (all xs ys : ValueScope) (n m : ℕ) → m ≡ n + length xs → IsBoundFrom all n (xs ++ ys)
    → IsBoundFrom all m ys
after all xs ys n m e h = record {
  rest = h.rest;
  is = ap (λ k. drop k all) e ∙ sym (drop-drop (length xs) n all) ∙ ap (drop (length xs))
      (h.is ∙ append_assoc xs ys h.rest) ∙ drop-append_seam xs (ys ++ h.rest);
  few = h.few;
}

take_one : (all rest : ValueScope) (n : ℕ) (v : Value) → drop n all ≡ v ∷ rest → take (n + 1) all ≡ take n all ++ v ∷ []
take_one [] rest zero v h = absurd (cc)
take_one [] rest (suc n) v h = absurd (cc)
take_one (a ∷ all) rest zero v h = cc
take_one (a ∷ all) rest (suc n) v h =
    let z : suc n + 1 ≡ suc (n + 1) = omega arith in
    ap (λ k. take k (a ∷ all)) z ∙ ap (λ l. a ∷ l) (take_one all rest n v h)

-- a new variable
pub new_walked : (w : PatternWalk) (n : ℕ) (p : Pattern) (v : Value) → p ≡ new → IsBoundFrom (all_of w) n (bindings p v)
    → Walked w n (bindings p v) (fit p v) (Some (n + 1))
new_walked w n p v e = subst (λ q. IsBoundFrom (all_of w) n (bindings q v)
    → Walked w n (bindings q v) (fit q v) (Some (n + 1))) (sym e) (
    λ h. record {
      fit = ap (λ l. Some l) (append_assoc (scope_of w.scope.now) (take n (all_of w)) (v ∷ [])
          ∙ ap (λ l. scope_of w.scope.now ++ l) (sym (take_one (all_of w) h.rest n v h.is)));
      count = refl;
    })

-- no pattern is left for some values
pub too_many_walked : (w : PatternWalk) (n : ℕ) (t : Tables) (ps : List PatternId) (ts : List Term) → length ps ≡ 0
    → 1 ≤ length ts → Walked w n (all_bindings (patterns_at t ps) (values_of ts))
    (fit_all (patterns_at t ps) (values_of ts)) None
too_many_walked w n t (p ∷ ps) ts e h = absurd (omega arith)
too_many_walked w n t [] [] e h = absurd (omega arith)
too_many_walked w n t [] (u ∷ ts) e h = record { fit = refl; count = tt }

-- all bindings are at the beginning
pub whole_is_there : (p : Pattern) (v : Value) → nodes v ≤ MOST_NODES → IsBoundFrom (bindings p v) 0 (bindings p v)
whole_is_there p v h = record { rest = []; is = sym (append-nil (bindings p v)); few = omega (arith, few_bindings p v) }

-- what comes after the first element of a list
pub tail_is_there : (all : ValueScope) (p q : Pattern) (us ws : Values) (w : Value) (n m : ℕ) → us ≡ more w ws
    → m ≡ n + length (bindings p w) → IsBoundFrom all n (bindings (cons_of p q) (list us))
    → IsBoundFrom all m (bindings q (list ws))
tail_is_there all p q us ws w n m e k h = after all (bindings p w) (bindings q (list ws)) n m k
    (subst (λ vs. IsBoundFrom all n (bindings (cons_of p q) (list vs))) e h)

-- the items after the first, as a slice has them
rest_is : {A : Type 0} (x : A) (xs : List A) → take (length (x ∷ xs) - 1) (drop 1 (x ∷ xs)) ≡ xs
rest_is x xs = let z : length (x ∷ xs) - 1 ≡ length xs = omega arith in ap (λ k. take k xs) z ∙ take-length xs

-- the values after the first, each with its pattern
pub others_are_there : (all : ValueScope) (t : Tables) (ps : List PatternId) (ts : List Term) (d : PatternId) (u : Term)
    (n m : ℕ) → 1 ≤ length ps → 1 ≤ length ts → u ≡ get_or ts 0 u
    → m ≡ n + length (bindings (pattern_at t (get_or ps 0 d).0) (value_of u))
    → IsBoundFrom all n (all_bindings (patterns_at t ps) (values_of ts))
    → IsBoundFrom all m (all_bindings (patterns_at t (take (length ps - 1) (drop 1 ps)))
    (values_of (take (length ts - 1) (drop 1 ts))))
others_are_there all t [] ts d u n m h k e i s = absurd (omega arith)
others_are_there all t (p ∷ ps) [] d u n m h k e i s = absurd (omega arith)
others_are_there all t (p ∷ ps) (v ∷ ts) d u n m h k e i s =
    let c : m ≡ n + length (bindings (pattern_at t p.0) (value_of v)) =
    i ∙ ap (λ x. n + length (bindings (pattern_at t p.0) (value_of x))) e in
    subst (λ l. IsBoundFrom all m (all_bindings (patterns_at t l)
    (values_of (take (length (v ∷ ts) - 1) (drop 1 (v ∷ ts)))))) (sym (rest_is p ps))
    (subst (λ l. IsBoundFrom all m (all_bindings (patterns_at t ps) (values_of l))) (sym (rest_is v ts))
    (after all (bindings (pattern_at t p.0) (value_of v)) (all_bindings (patterns_at t ps) (values_of ts)) n m c s))

-- fewer patterns are smaller
pub others_smaller : (t : Tables) (ps : List PatternId) → 1 ≤ length ps
    → patterns_size (patterns_at t (take (length ps - 1) (drop 1 ps))) < patterns_size (patterns_at t ps)
others_smaller t [] h = absurd (omega arith)
others_smaller t (p ∷ ps) h = rw (rest_is p ps) (omega arith)

-- A tree has one context at most.
use Rattle.std.proofs.Common.{◌≡◌, ℕ, true, false, List, [], ◌∷◌, Some, None, refl, sym, ap, ◌∙◌, option_map}
use Rattle.std.specs.Prelude.{slice_get}
use Rattle.pf_terms.specs.Value.{Value, Values, none, more}
use Rattle.pf_terms.specs.Value as value
use Rattle.pf_syntax.specs.Tree.{Tree, Trees, lit, tree}
use Rattle.pf_ops.specs.Arithmetic.{negated}
use Rattle.pf_ops.specs.Operations.{limited, operated, consed}
use Rattle.pf_ops.specs.Guards.{truth_of}
use Rattle.pf_ops.specs.Reasons.{no_case}
use Rattle.pf_model.specs.Module.{Module, name_in}
use Rattle.pf_model.specs.Contraction.{Change, Asks, Act, contract, as_value, as_values, add_value, with_both}
use Rattle.pf_model.specs.Contraction.{worked_out, decided, entered, called, matched, bound, picked, body_or_raise}
use Rattle.pf_model.specs.Contraction as c
use Rattle.pf_model.specs.Context.{Frame, element_of, first_of, tail_of, left_of, right_of, negation, and_also_of}
use Rattle.pf_model.specs.Context.{or_else_of, argument_of, builtin_argument_of, match_of, bind_of, case_of}
use Rattle.pf_model.specs.Context.{receiver_of, message_of, after_values, around, fill}
use Rattle.pf_model.specs.Laws.{OneContext}

around_no_value : (f : Frame) (x : Tree) → as_value (around f x) ≡ None
around_no_value (element_of vs ts) x = refl
around_no_value (first_of a) x = refl
around_no_value (tail_of v) x = refl
around_no_value (left_of o a) x = refl
around_no_value (right_of o v) x = refl
around_no_value negation x = refl
around_no_value (and_also_of a) x = refl
around_no_value (or_else_of a) x = refl
around_no_value (argument_of f vs ts) x = refl
around_no_value (builtin_argument_of f vs ts) x = refl
around_no_value (match_of ps) x = refl
around_no_value (bind_of ps r) x = refl
around_no_value (case_of ks) x = refl
around_no_value (receiver_of a) x = refl
around_no_value (message_of v) x = refl

values_none : (vs : Values) (x : Tree) (ts : Trees) → as_value x ≡ None → as_values (after_values vs (tree x ts)) ≡ None
values_none none x ts h = ap (λ o. add_value o (as_values ts)) h
values_none (more v vs) x ts h = ap (add_value (Some v)) (values_none vs x ts h)

-- a part that is no value is where only a value may
no_value : (x : Tree) (v : Value) → as_value x ≡ None → x ≡ lit v → ⊥
no_value x v h e = let q = ap as_value e in cc

-- ---- two ways to see one tree are one

same_values : (vs ws : Values) (x y : Tree) (ts us : Trees) → as_value x ≡ None → as_value y ≡ None
    → after_values vs (tree x ts) ≡ after_values ws (tree y us) → (vs ≡ ws) × (x ≡ y) × (ts ≡ us)
same_values none none x y ts us hx hy e = (refl, cc, cc)
same_values none (more w ws) x y ts us hx hy e = absurd (no_value x w hx (cc))
same_values (more v vs) none x y ts us hx hy e = absurd (no_value y v hy (cc))
same_values (more v vs) (more w ws) x y ts us hx hy e =
    let k = same_values vs ws x y ts us hx hy (cc) in let q : v ≡ w = cc in (cc, k.1, k.2)

same_around : (f g : Frame) (x y : Tree) → as_value x ≡ None → as_value y ≡ None → around f x ≡ around g y
    → (f ≡ g) × (x ≡ y)
same_around (element_of vs ts) (element_of ws us) x y hx hy e =
    let k = same_values vs ws x y ts us hx hy (cc) in (cc, k.1)
same_around (element_of vs ts) g x y hx hy e = absurd (cc)
same_around (first_of a) (first_of b) x y hx hy e = (cc, cc)
same_around (first_of a) (tail_of w) x y hx hy e = absurd (no_value x w hx (cc))
same_around (first_of a) g x y hx hy e = absurd (cc)
same_around (tail_of v) (tail_of w) x y hx hy e = (cc, cc)
same_around (tail_of v) (first_of b) x y hx hy e = absurd (no_value y v hy (cc))
same_around (tail_of v) g x y hx hy e = absurd (cc)
same_around (left_of o a) (left_of p b) x y hx hy e = (cc, cc)
same_around (left_of o a) (right_of p w) x y hx hy e = absurd (no_value x w hx (cc))
same_around (left_of o a) g x y hx hy e = absurd (cc)
same_around (right_of o v) (right_of p w) x y hx hy e = (cc, cc)
same_around (right_of o v) (left_of p b) x y hx hy e = absurd (no_value y v hy (cc))
same_around (right_of o v) g x y hx hy e = absurd (cc)
same_around negation negation x y hx hy e = (refl, cc)
same_around negation g x y hx hy e = absurd (cc)
same_around (and_also_of a) (and_also_of b) x y hx hy e = (cc, cc)
same_around (and_also_of a) g x y hx hy e = absurd (cc)
same_around (or_else_of a) (or_else_of b) x y hx hy e = (cc, cc)
same_around (or_else_of a) g x y hx hy e = absurd (cc)
same_around (argument_of f vs ts) (argument_of g ws us) x y hx hy e =
    let k = same_values vs ws x y ts us hx hy (cc) in let q : f ≡ g = cc in (cc, k.1)
same_around (argument_of f vs ts) g x y hx hy e = absurd (cc)
same_around (builtin_argument_of f vs ts) (builtin_argument_of g ws us) x y hx hy e =
    let k = same_values vs ws x y ts us hx hy (cc) in let q : f ≡ g = cc in (cc, k.1)
same_around (builtin_argument_of f vs ts) g x y hx hy e = absurd (cc)
same_around (match_of ps) (match_of qs) x y hx hy e = (cc, cc)
same_around (match_of ps) g x y hx hy e = absurd (cc)
same_around (bind_of ps r) (bind_of qs s) x y hx hy e = (cc, cc)
same_around (bind_of ps r) g x y hx hy e = absurd (cc)
same_around (case_of ks) (case_of ls) x y hx hy e = (cc, cc)
same_around (case_of ks) g x y hx hy e = absurd (cc)
same_around (receiver_of a) (receiver_of b) x y hx hy e = (cc, cc)
same_around (receiver_of a) (message_of w) x y hx hy e = absurd (no_value x w hx (cc))
same_around (receiver_of a) g x y hx hy e = absurd (cc)
same_around (message_of v) (message_of w) x y hx hy e = (cc, cc)
same_around (message_of v) (receiver_of b) x y hx hy e = absurd (no_value y v hy (cc))
same_around (message_of v) g x y hx hy e = absurd (cc)

module _ (m : Module) (own : ℕ) where
  redex_no_value : (r : Tree) (d : Change) → contract m own r ≡ Some d → as_value r ≡ None
  redex_no_value (lit v) d h = cc
  redex_no_value r d h = refl

  pub fill_no_value : (fs : List Frame) (r : Tree) (d : Change) → contract m own r ≡ Some d
      → as_value (fill fs r) ≡ None
  fill_no_value [] r d h = redex_no_value r d h
  fill_no_value (f ∷ fs) r d h = around_no_value f (fill fs r)

  around_no_redex : (f : Frame) (x : Tree) → as_value x ≡ None → contract m own (around f x) ≡ None
  around_no_redex (element_of vs ts) x h = ap (option_map (λ ws. worked_out (limited (value.tuple ws))))
      (values_none vs x ts h)
  around_no_redex (first_of a) x h = ap (λ o. with_both o (as_value a) (λ v w. worked_out (consed v w))) h
  around_no_redex (tail_of v) x h = ap (λ o. with_both (Some v) o (λ v w. worked_out (consed v w))) h
  around_no_redex (left_of p a) x h = ap (λ o.
      with_both o (as_value a) (λ v w. worked_out (operated (name_in m) p v w))) h
  around_no_redex (right_of p v) x h = ap (λ o. with_both (Some v) o (λ v w. worked_out (operated (name_in m) p v w))) h
  around_no_redex negation x h = ap (option_map (λ v. worked_out (negated v))) h
  around_no_redex (and_also_of a) x h = ap (option_map (λ v. decided false v a (truth_of v))) h
  around_no_redex (or_else_of a) x h = ap (option_map (λ v. decided true v a (truth_of v))) h
  around_no_redex (argument_of f vs ts) x h = ap (option_map (entered m own (slice_get m.functions f)))
      (values_none vs x ts h)
  around_no_redex (builtin_argument_of f vs ts) x h = ap (option_map (called own f)) (values_none vs x ts h)
  around_no_redex (match_of ps) x h = ap (option_map (matched ps)) h
  around_no_redex (bind_of ps r) x h = ap (option_map (λ v. bound ps v r)) h
  around_no_redex (case_of ks) x h = ap (option_map (λ v. body_or_raise (picked m own ks v) (no_case v))) h
  around_no_redex (receiver_of a) x h = ap (λ o. with_both o (as_value a) (λ v w. Asks (c.send v w))) h
  around_no_redex (message_of v) x h = ap (λ o. with_both (Some v) o (λ v w. Asks (c.send v w))) h

  -- frames round a redex make no redex
  no_redex_around : (f : Frame) (fs : List Frame) (r s : Tree) (d e : Change) → contract m own r ≡ Some d
      → contract m own s ≡ Some e
      → s ≡ fill (f ∷ fs) r → ⊥
  no_redex_around f fs r s d e hr hs q =
      let k = around_no_redex f (fill fs r) (fill_no_value fs r d hr) in let p = ap (contract m own) q in cc

  same_fill : (fs gs : List Frame) (r s : Tree) (d e : Change) → contract m own r ≡ Some d → contract m own s ≡ Some e
      → fill fs r ≡ fill gs s → (fs ≡ gs) × (r ≡ s)
  same_fill [] [] r s d e hr hs q = (refl, q)
  same_fill [] (g ∷ gs) r s d e hr hs q = absurd (no_redex_around g gs s r e d hs hr q)
  same_fill (f ∷ fs) [] r s d e hr hs q = absurd (no_redex_around f fs r s d e hr hs (sym q))
  same_fill (f ∷ fs) (g ∷ gs) r s d e hr hs q =
      let a = same_around f g (fill fs r) (fill gs s) (fill_no_value fs r d hr) (fill_no_value gs s e hs) q in
      let k = same_fill fs gs r s d e hr hs a.1 in (cc, k.1)

pub one_context : OneContext
one_context m own t r s fs gs d e p q =
    let k = same_fill m own fs gs r s d e p.redex q.redex (p.filled ∙ sym q.filled) in
    let h = ap (contract m own) k.1 in let a = p.redex in let b = q.redex in (k.0, k.1, cc)

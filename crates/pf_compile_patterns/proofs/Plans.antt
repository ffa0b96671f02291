-- The tests of patterns.
use Rattle.std.proofs.Common.{◌≡◌, ◌<◌, ◌≤◌, ◌+◌, ℕ, zero, suc, Bool, true, false, List, [], ◌∷◌, ◌++◌, Option, Some}
use Rattle.std.proofs.Common.{◌-◌, take, drop, get_or, None, length, refl, sym, ap, ◌∙◌, subst, arith, append_assoc}
use Rattle.std.specs.Prelude.{slice_get, if◌then◌else◌, option_map}
use Rattle.std.proofs.lemmas.List.{append-nil}
use Rattle.std.proofs.lemmas.Option.{slice_get-map}
use mathlib.Core.Path.{fun_ext}
use Rattle.pf_terms.specs.Value.{Value, Values, int, atom, ref, pid, tuple, list, none, more, count, same}
use Rattle.pf_model.specs.Module.{Module}
use Rattle.pf_model.specs.Context.{Frame, Move}
use Rattle.pf_patterns.specs.Fit.{ValueScope, kept_if, fit_bound, and_then, fit, fit_all}
use Rattle.pf_syntax.specs.Pattern.{Pattern, Patterns, new, slot, known, tuple_of, cons_of, never, no_patterns}
use Rattle.pf_syntax.specs.Pattern.{pattern}
use Rattle.pf_syntax.specs.Module.{Tables, pattern_at}
use Rattle.pf_syntax.specs.Over.{patterns_at}
use Rattle.pf_syntax.specs.declared.node.PatternId.{PatternId}
use Rattle.pf_code.specs.Registers.{Registers, reg, read, scope_in, DependsBelow}
use Rattle.pf_code.specs.Points.{Point}
use Rattle.pf_code.specs.Sound.{Code, Carries, pair_of, parts_of}
use Rattle.pf_code.specs.declared.instruction.Operation.{Operation}
use Rattle.pf_code.specs.declared.instruction.Operation.TheVariants as op
use Rattle.pf_code.specs.declared.instruction.Source.TheVariants as source
use Rattle.pf_compile_patterns.specs.declared.plan.Plan.{Plan}
use Rattle.pf_compile_patterns.specs.Growth.{Extends, ConstantPut}
use Rattle.pf_compile_patterns.specs.Tests.{chosen, Carried}
use Rattle.pf_compile_patterns.specs.Planned.{AreBelow, Asked, fit_at, fit_row, Planned}
use Rattle.pf_compile_patterns.proofs.Grown.{extends_itself, extends_on, rest_of}
use Rattle.pf_compile_patterns.proofs.Dependent.{depends_more, scope_same, below_more, below_last, scope_last, row_same}
use Rattle.pf_compile_patterns.proofs.Dependent.{chosen_same, chosen_depends}

-- ---- one after the other

carried_from : (m : Module) (own : ℕ) (outer : List Frame) (ks : List Value) (w : ℕ) (is : List Operation)
    (p q n o : Point) → ((r : Registers) → q r ≡ p r) → Carried m own outer ks w is p n o
    → Carried m own outer ks w is q n o
carried_from m own outer ks w is p q n o e c =
    subst (λ x. Carried m own outer ks w is x n o) (fun_ext (λ r. sym (e r))) c

carried_then : (m : Module) (own : ℕ) (outer : List Frame) (ks : List Value) (w : ℕ) (is js : List Operation)
    (p q n o : Point) → Carried m own outer ks w is p q o → Carried m own outer ks w js q n o
    → Carried m own outer ks w (is ++ js) p n o
carried_then m own outer ks w [] js p q n o a b = carried_from m own outer ks w js q p n o a b
carried_then m own outer ks w (i ∷ is) js p q n o a b =
    (a.0, a.1, carried_then m own outer ks w is js a.0 q n o a.2 b)

chosen_then : (x : Option ValueScope) (f : ValueScope → Option ValueScope) (go : ValueScope → Move) (o : Move)
    → chosen (and_then x f) go o ≡ chosen x (λ e. chosen (f e) go o) o
chosen_then None f go o = refl
chosen_then (Some e) f go o = refl

pub planned_then : (a b c : Code) (p q s : Plan) (x y : Asked)
    → ((e : ValueScope) → DependsBelow p.free (λ r. y r e)) → Planned a b p q x → Planned b c q s y
    → Planned a c p s (λ r e. and_then (x r e) (y r))
planned_then a b c p q s x y d h k = record {
  grown = extends_on a b c h.grown k.grown;
  added = h.added ++ k.added;
  tests = k.tests ∙ ap (λ l. l ++ k.added) h.tests ∙ append_assoc p.tests.items h.added k.added;
  higher = (let i = h.higher in let j = k.higher in omega arith);
  below = k.below;
  leads = λ m own outer later w go o e l g u.
      let first = h.leads m own outer later w (λ z r. chosen (y r z) (λ t. go t r) (o r)) o
      (extends_on b c later k.grown e) l (λ z. chosen_depends p.free (λ r. y r z) go o (d z) g u) u in
      let rest = k.leads m own outer later w go o e l (λ z. depends_more p.free q.free (go z) h.higher (g z))
      (depends_more p.free q.free o h.higher u) in
      carried_then m own outer later.constants w h.added k.added _ _ _ o
      (carried_from m own outer later.constants w h.added _ _ _ o
      (λ r. chosen_then (x r (scope_in p.slots.items r)) (y r) (λ t. go t r) (o r)) first) rest;
}

-- ---- no test

pub planned_none : (a : Code) (p : Plan) (x : Asked) → AreBelow p.free p.slots.items
    → ((r : Registers) (e : ValueScope) → x r e ≡ Some e) → Planned a a p p x
planned_none a p x b e = record {
  grown = extends_itself a;
  added = [];
  tests = sym (append-nil p.tests.items);
  higher = omega arith;
  below = b;
  leads = λ m own outer later w go o h l g u r. ap (λ y. chosen y (λ t. go t r) (o r)) (e r (scope_in p.slots.items r));
}

planned_last : (a : Code) (p q : Plan) (s : ℕ) → q.slots.items ≡ p.slots.items ++ s ∷ [] → q.free ≡ p.free
    → q.tests.items ≡ p.tests.items → s < p.free → AreBelow p.free p.slots.items → Planned a a p q (fit_at new s)
planned_last a p q s e f t l b = record {
  grown = extends_itself a;
  added = [];
  tests = t ∙ sym (append-nil p.tests.items);
  higher = omega arith;
  below = subst (λ n. AreBelow n q.slots.items) (sym f)
      (subst (AreBelow p.free) (sym e) (below_last p.free s p.slots.items l b));
  leads = λ m own outer later w go o h j g u r.
      ap (λ y. go y r) (sym (ap (λ ss. scope_in ss r) e ∙ scope_last p.slots.items s r));
}

pub planned_new : (a : Code) (p q : Plan) (s : ℕ) (x : Pattern) → new ≡ x → q.slots.items ≡ p.slots.items ++ s ∷ []
    → q.free ≡ p.free → q.tests.items ≡ p.tests.items → s < p.free → AreBelow p.free p.slots.items
    → Planned a a p q (fit_at x s)
planned_new a p q s x is e f t l b = subst (λ y. Planned a a p q (fit_at y s)) is (planned_last a p q s e f t l b)

-- ---- one test

-- an operation takes registers that fit to what was bound in the slots as they are
abbrev Leads : Code → Plan → Operation → Asked → Type 0
Leads made p t x = (m : Module) (own : ℕ) (outer : List Frame) (later : Code) (w : ℕ) (go : ValueScope → Point)
    (o : Point) → Extends made later → 1 ≤ w
    → Carries m own outer later.constants t w (λ r. chosen (x r (scope_in p.slots.items r)) (λ e. go e r) (o r))
    (λ r. go (scope_in p.slots.items r) r) o

pub planned_test : (a b : Code) (p q : Plan) (t : Operation) (x : Asked) → Extends a b
    → q.slots.items ≡ p.slots.items → q.free ≡ p.free → q.tests.items ≡ p.tests.items ++ t ∷ []
    → AreBelow p.free p.slots.items → Leads b p t x → Planned a b p q x
planned_test a b p q t x e s f is below h = record {
  grown = e;
  added = t ∷ [];
  tests = is;
  higher = omega arith;
  below = subst (λ n. AreBelow n q.slots.items) (sym f) (subst (AreBelow p.free) (sym s) below);
  leads = λ m own outer later w go o g l d u. (
    (λ r. go (scope_in p.slots.items r) r),
    h m own outer later w go o g l,
    λ r. ap (λ ss. go (scope_in ss r) r) (sym s),
  );
}

kept_chosen : (b : Bool) (e : ValueScope) (go : ValueScope → Move) (o : Move)
    → chosen (kept_if b e) go o ≡ (if b then go e else o)
kept_chosen true e go o = refl
kept_chosen false e go o = refl

pub leads_slot : (made : Code) (p : Plan) (x s k : ℕ) → slice_get p.slots.items x ≡ Some k
    → Leads made p (op.Same (source.Register k) (source.Register s)) (fit_at (slot x) s)
leads_slot made p x s k e m own outer later w go o g l = (
  l,
  λ r.
      let is = slice_get-map (reg r) p.slots.items x ∙ ap (option_map (reg r)) e in
      ap (λ y. chosen (fit_bound y (reg r s) (scope_in p.slots.items r)) (λ t. go t r) (o r)) is
      ∙ kept_chosen (same (reg r k) (reg r s)) (scope_in p.slots.items r) (λ t. go t r) (o r),
)

pub leads_no_slot : (made : Code) (p : Plan) (x s : ℕ) → slice_get p.slots.items x ≡ None
    → Leads made p op.Jump (fit_at (slot x) s)
leads_no_slot made p x s e m own outer later w go o g l = (
  l,
  λ r.
      let is = slice_get-map (reg r) p.slots.items x ∙ ap (option_map (reg r)) e in
      ap (λ y. chosen (fit_bound y (reg r s) (scope_in p.slots.items r)) (λ t. go t r) (o r)) is,
)

pub leads_never : (made : Code) (p : Plan) (s : ℕ) → Leads made p op.Jump (fit_at never s)
leads_never made p s m own outer later w go o g l = (l, λ r. refl)

pub planned_never : (a : Code) (p q : Plan) (s : ℕ) (x : Pattern) → never ≡ x → q.slots.items ≡ p.slots.items
    → q.free ≡ p.free → q.tests.items ≡ p.tests.items ++ op.Jump ∷ [] → AreBelow p.free p.slots.items
    → Planned a a p q (fit_at x s)
planned_never a p q s x is e f t b = subst (λ y. Planned a a p q (fit_at y s)) is
    (planned_test a a p q op.Jump (fit_at never s) (extends_itself a) e f t b (leads_never a p s))

-- what an operand of a constant reads
pub constant_is : (ks : List Value) (k : ℕ) (v : Value) (r : Registers) → slice_get ks k ≡ Some v
    → read ks r (source.Constant k) ≡ v
constant_is [] k v r e = absurd (cc)
constant_is (w ∷ ks) zero v r e = cc
constant_is (w ∷ ks) (suc k) v r e = constant_is ks k v r e

pub leads_known : (a b : Code) (p : Plan) (v : Value) (s k : ℕ) → ConstantPut a b v k
    → Leads b p (op.Same (source.Constant k) (source.Register s)) (fit_at (known v) s)
leads_known a b p v s k c m own outer later w go o g l = (
  l,
  λ r.
      kept_chosen (same v (reg r s)) (scope_in p.slots.items r) (λ t. go t r) (o r)
      ∙ ap (λ u. if same u (reg r s) then go (scope_in p.slots.items r) r else o r)
      (sym (constant_is later.constants k v r (g.constants k v c.is))),
)

-- ---- lists and tuples

-- two plans of the same variables, of which the second has one more test and more registers in use
pub record Opened (p q : Plan) (t : Operation) (n : ℕ) : Type 0 where
  pub slots : q.slots.items ≡ p.slots.items
  pub free : q.free ≡ p.free + n
  pub tests : q.tests.items ≡ p.tests.items ++ t ∷ []

pub opened_below : (p q : Plan) (t : Operation) (n : ℕ) → Opened p q t n → AreBelow p.free p.slots.items
    → AreBelow q.free q.slots.items
opened_below p q t n o b =
    let f = o.free in
    subst (AreBelow q.free) (sym o.slots) (below_more p.free q.free p.slots.items (omega arith) b)

-- an operation takes registers that fit x to registers that fit y
abbrev Turns : Plan → Operation → Asked → Asked → Type 0
Turns p t x y = (m : Module) (own : ℕ) (outer : List Frame) (ks : List Value) (w : ℕ) (go : ValueScope → Point)
    (o : Point) → 1 ≤ w → ((e : ValueScope) → DependsBelow p.free (go e)) → DependsBelow p.free o
    → Carries m own outer ks t w (λ r. chosen (x r (scope_in p.slots.items r)) (λ e. go e r) (o r))
    (λ r. chosen (y r (scope_in p.slots.items r)) (λ e. go e r) (o r)) o

planned_opened : (a b : Code) (p q s : Plan) (t : Operation) (n : ℕ) (x y : Asked) → Opened p q t n → Turns p t x y
    → Planned a b q s y → Planned a b p s x
planned_opened a b p q s t n x y o turns h = record {
  grown = h.grown;
  added = t ∷ h.added;
  tests = h.tests ∙ ap (λ l. l ++ h.added) o.tests ∙ append_assoc p.tests.items (t ∷ []) h.added;
  higher = (let i = o.free in let j = h.higher in omega arith);
  below = h.below;
  leads = λ m own outer later w go u e l g d.
      let f = o.free in
      let up : p.free ≤ q.free = omega arith in
      let rest = h.leads m own outer later w go u e l (λ z. depends_more p.free q.free (go z) up (g z))
      (depends_more p.free q.free u up d) in
      let same : (r : Registers) → chosen (y r (scope_in p.slots.items r)) (λ z. go z r) (u r)
      ≡ chosen (y r (scope_in q.slots.items r)) (λ z. go z r) (u r) =
      λ r. ap (λ ss. chosen (y r (scope_in ss r)) (λ z. go z r) (u r)) (sym o.slots) in (
        (λ r. chosen (y r (scope_in p.slots.items r)) (λ z. go z r) (u r)),
        turns m own outer later.constants w go u l g d,
        carried_from m own outer later.constants w h.added _ _ _ u same rest,
      );
}

abbrev fit_pair : Pattern → Pattern → ℕ → ℕ → Asked
fit_pair f g head tail r e = and_then (fit_at f head r e) (fit_at g tail r)

no_pair : (f g : Pattern) (v : Value) (e : ValueScope) → pair_of v ≡ None → fit (cons_of f g) v e ≡ None
no_pair f g (list none) e h = refl
no_pair f g (list (more v vs)) e h = absurd (cc)
no_pair f g (int z) e h = refl
no_pair f g (atom z) e h = refl
no_pair f g (ref z) e h = refl
no_pair f g (pid z) e h = refl
no_pair f g (tuple z) e h = refl

first_is : (v w : Value) (vs ws : Values) → more v vs ≡ more w ws → v ≡ w
first_is v w vs ws e = cc

rest_is : (v w : Value) (vs ws : Values) → more v vs ≡ more w ws → vs ≡ ws
rest_is v w vs ws e = cc

turns_pair : (p : Plan) (s : ℕ) (f g : Pattern) → s < p.free → AreBelow p.free p.slots.items
    → Turns p (op.Pair (source.Register s) p.free) (fit_at (cons_of f g) s) (fit_pair f g p.free (p.free + 1))
turns_pair p s f g l b m own outer ks w go o k d u = (
  k,
  record {
    ok = λ r q v vs e h.
        let head : reg q p.free ≡ v = first_is _ _ _ _ h.0 in
        let tail : reg q (p.free + 1) ≡ list vs = first_is _ _ _ _ (rest_is _ _ _ _ h.0) in
        let scope : scope_in p.slots.items q ≡ scope_in p.slots.items r = scope_same p.free p.slots.items r q b h.1 in
        let left : fit_at (cons_of f g) s r (scope_in p.slots.items r)
        ≡ and_then (fit f v (scope_in p.slots.items r)) (fit g (list vs)) =
        ap (λ x. fit (cons_of f g) x (scope_in p.slots.items r)) e in
        let right : fit_pair f g p.free (p.free + 1) q (scope_in p.slots.items q)
        ≡ and_then (fit f v (scope_in p.slots.items r)) (fit g (list vs)) =
        ap (λ x. fit_pair f g p.free (p.free + 1) q x) scope
        ∙ ap (λ x. and_then (fit f x (scope_in p.slots.items r)) (fit g (reg q (p.free + 1)))) head
        ∙ ap (λ x. and_then (fit f v (scope_in p.slots.items r)) (fit g x)) tail in
        chosen_same _ _ (λ x. go x r) (λ x. go x q) (o r) (o q) (left ∙ sym right) (λ x. sym (d x r q h.1))
        (sym (u r q h.1));
    other = λ r e. ap (λ x. chosen x (λ z. go z r) (o r)) (no_pair f g (reg r s) (scope_in p.slots.items r) e);
  },
)

pub planned_cons : (a b c : Code) (p q s t : Plan) (i : ℕ) (f g : Pattern)
    → Opened p q (op.Pair (source.Register i) p.free) 2 → i < p.free → AreBelow p.free p.slots.items
    → Planned a b q s (fit_at f p.free) → Planned b c s t (fit_at g (p.free + 1))
    → Planned a c p t (fit_at (cons_of f g) i)
planned_cons a b c p q s t i f g o l below h k =
    let fr = o.free in
    planned_opened a c p q t (op.Pair (source.Register i) p.free) 2 (fit_at (cons_of f g) i)
    (fit_pair f g p.free (p.free + 1)) o (turns_pair p i f g l below)
    (planned_then a b c q s t (fit_at f p.free) (fit_at g (p.free + 1))
    (λ e r x n. ap (λ v. fit g v e) (n (p.free + 1) (omega arith))) h k)

abbrev pub pattern_count : Patterns → ℕ
pattern_count no_patterns = 0
pattern_count (pattern p ps) = 1 + pattern_count ps

none_after : (x : Option ValueScope) (f : ValueScope → Option ValueScope) → ((z : ValueScope) → f z ≡ None)
    → and_then x f ≡ None
none_after None f h = refl
none_after (Some z) f h = h z

pub other_count : (ps : Patterns) (vs : Values) (e : ValueScope) → ¬ (count vs ≡ pattern_count ps)
    → fit_all ps vs e ≡ None
other_count no_patterns none e h = absurd (h refl)
other_count no_patterns (more v vs) e h = refl
other_count (pattern p ps) none e h = refl
other_count (pattern p ps) (more v vs) e h =
    none_after (fit p v e) (fit_all ps vs) (λ z. other_count ps vs z (λ c. h (omega arith)))

pub count_at : (t : Tables) (ids : List PatternId) → pattern_count (patterns_at t ids) ≡ length ids
count_at t [] = refl
count_at t (i ∷ ids) = omega (arith, count_at t ids)

no_tuple : (ps : Patterns) (v : Value) (e : ValueScope) → parts_of v ≡ None → fit (tuple_of ps) v e ≡ None
no_tuple ps (tuple vs) e h = absurd (cc)
no_tuple ps (list vs) e h = refl
no_tuple ps (int z) e h = refl
no_tuple ps (atom z) e h = refl
no_tuple ps (ref z) e h = refl
no_tuple ps (pid z) e h = refl

turns_parts : (p : Plan) (s n : ℕ) (ps : Patterns) → n ≡ pattern_count ps → s < p.free → AreBelow p.free p.slots.items
    → Turns p (op.Parts (source.Register s) n p.free) (fit_at (tuple_of ps) s) (fit_row ps p.free n)
turns_parts p s n ps c l b m own outer ks w go o k d u = (
  k,
  record {
    ok = λ r q vs e i h.
        let scope : scope_in p.slots.items q ≡ scope_in p.slots.items r = scope_same p.free p.slots.items r q b h.1 in
        let left : fit_at (tuple_of ps) s r (scope_in p.slots.items r) ≡ fit_all ps vs (scope_in p.slots.items r) =
        ap (λ x. fit (tuple_of ps) x (scope_in p.slots.items r)) e in
        let right : fit_row ps p.free n q (scope_in p.slots.items q) ≡ fit_all ps vs (scope_in p.slots.items r) =
        ap (λ x. fit_row ps p.free n q x) scope ∙ ap (λ x. fit_all ps x (scope_in p.slots.items r)) h.0 in
        chosen_same _ _ (λ x. go x r) (λ x. go x q) (o r) (o q) (left ∙ sym right) (λ x. sym (d x r q h.1))
        (sym (u r q h.1));
    larger = λ r vs e i.
        let no : fit_at (tuple_of ps) s r (scope_in p.slots.items r) ≡ None =
        ap (λ x. fit (tuple_of ps) x (scope_in p.slots.items r)) e
        ∙ other_count ps vs (scope_in p.slots.items r) (λ j. i (j ∙ sym c)) in
        ap (λ x. chosen x (λ z. go z r) (o r)) no;
    other = λ r e. ap (λ x. chosen x (λ z. go z r) (o r)) (no_tuple ps (reg r s) (scope_in p.slots.items r) e);
  },
)

pub planned_tuple : (a b : Code) (p q s : Plan) (i n : ℕ) (ps : Patterns) → n ≡ pattern_count ps
    → Opened p q (op.Parts (source.Register i) n p.free) n → i < p.free → AreBelow p.free p.slots.items
    → Planned a b q s (fit_row ps p.free n) → Planned a b p s (fit_at (tuple_of ps) i)
planned_tuple a b p q s i n ps c o l below h =
    planned_opened a b p q s (op.Parts (source.Register i) n p.free) n (fit_at (tuple_of ps) i) (fit_row ps p.free n) o
    (turns_parts p i n ps c l below) h

-- ---- rows

pub planned_no_row : (a : Code) (p : Plan) (first : ℕ) → AreBelow p.free p.slots.items
    → Planned a a p p (fit_row no_patterns first 0)
planned_no_row a p first b = planned_none a p (fit_row no_patterns first 0) b (λ r e. refl)

pub planned_row : (a b c : Code) (p q s : Plan) (f : Pattern) (ps : Patterns) (first n : ℕ) → first + suc n ≤ p.free
    → Planned a b p q (fit_at f first) → Planned b c q s (fit_row ps (first + 1) n)
    → Planned a c p s (fit_row (pattern f ps) first (suc n))
planned_row a b c p q s f ps first n l h k =
    planned_then a b c p q s (fit_at f first) (fit_row ps (first + 1) n)
    (λ e r x i. ap (λ vs. fit_all ps vs e) (row_same p.free (first + 1) n r x (omega arith) i)) h k

pub planned_row_at : (t : Tables) (ids : List PatternId) (d : PatternId) (a b c : Code) (p q s : Plan) (first : ℕ)
    → 1 ≤ length ids → first + length ids ≤ p.free
    → Planned a b p q (fit_at (pattern_at t (get_or ids 0 d).0) first)
    → Planned b c q s (fit_row (patterns_at t (take (length ids - 1) (drop 1 ids))) (first + 1)
    (length (take (length ids - 1) (drop 1 ids))))
    → Planned a c p s (fit_row (patterns_at t ids) first (length ids))
planned_row_at t [] d a b c p q s first l r h k = absurd (omega arith)
planned_row_at t (i ∷ ids) d a b c p q s first l r h k =
    planned_row a b c p q s (pattern_at t i.0) (patterns_at t ids) first (length ids) (omega arith) h
    (subst (λ us. Planned b c q s (fit_row (patterns_at t us) (first + 1) (length us))) (rest_of i ids) k)

-- What a step does to what is known and to the trail.
use Rattle.std.proofs.Common.{◌≡◌, ℕ, zero, suc, ◌<◌, List, [], ◌∷◌, ◌++◌, length, take, drop, Bool, true, false, refl}
use Rattle.std.proofs.Common.{sym, ap, ◌∙◌, subst, arith, append_assoc, eqb-true}
use Rattle.std.specs.Prelude.{◌==◌, ◌||◌, ◌&&◌, not, if◌then◌else◌, map, filter, slice_index_or}
use Rattle.std.proofs.lemmas.List.{append-nil, length-map}
use Rattle.std.proofs.lemmas.List.Folds.{list_any-append}
use Rattle.std.proofs.Math.Seq.{drop-append_seam, take-append_seam}
use Rattle.pf_terms.specs.declared.atoms.AtomId.{AtomId}
use Rattle.pf_syntax.specs.Scope.{Scope, has, is_new, scope_leaving, names_in_scope}
use Rattle.pf_static_check.specs.Marks.{KnowsScope, Trails, Binds, StatusMoved, status_of, trail_of, is_bound}
use Rattle.pf_static_check.specs.Marks.{is_marked_unsafe, is_marked}
use Rattle.pf_static_check.specs.declared.variable_states.Status.{Status}
use Rattle.pf_static_check.specs.declared.variable_states.Status.TheVariants.{New, Bound, Unsafe}
use Rattle.pf_static_check.specs.declared.variable_states.VariableStates.{VariableStates}
use Rattle.pf_static_check.proofs.Marking.{marked_is, moved_then, moved_one, moved_back, bound_one, unsafe_one}
use Rattle.pf_static_check.proofs.Marking.{bound_left, unsafe_left}

pub has_append : (xs ys : List ℕ) (x : ℕ) → has (xs ++ ys) x ≡ (has xs x || has ys x)
has_append xs ys x = list_any-append (λ y. y == x) xs ys

-- ---- names that are set one by one

step_since : (r t : Bool) (st a : Status) → (if r then st else (if t then st else a)) ≡ (if (t || r) then st else a)
step_since true true st a = refl
step_since true false st a = refl
step_since false true st a = refl
step_since false false st a = refl

pub one_set : (x n : ℕ) (names rest : List ℕ) (st a b c : Status) → names ≡ n ∷ rest → b ≡ (if n == x then st else a)
    → (if has names x then st else a) ≡ c → (if has rest x then st else b) ≡ c
one_set x n names rest st a b c e f h =
    ap (λ (v : Status). if has rest x then st else v) f ∙ step_since (has rest x) (n == x) st a
    ∙ ap (λ (ns : List ℕ). if has ns x then st else a) (sym e) ∙ h

pub dropped_item : (items : List AtomId) (i : ℕ) (a : AtomId) → i < length items → a ≡ slice_index_or items i a
    → drop i (map (λ b. b.0) items) ≡ a.0 ∷ drop (suc i) (map (λ b. b.0) items)
dropped_item [] i a h e = absurd (omega arith)
dropped_item (b ∷ items) zero a h e = ap (λ (c : AtomId). c.0 ∷ map (λ b. b.0) items) (sym e)
dropped_item (b ∷ items) (suc i) a h e = dropped_item items i a (omega arith) e

-- ---- moves

pub trails_nothing : (s : VariableStates) → Trails s s
trails_nothing s = record { names = []; longer = sym (append-nil (trail_of s)); moved = λ x. refl }

pub trails_then : (a b c : VariableStates) → Trails a b → Trails b c → Trails a c
trails_then a b c s t = record {
  names = s.names ++ t.names;
  longer = t.longer ∙ ap (λ (l : List ℕ). l ++ t.names) s.longer ∙ append_assoc (trail_of a) s.names t.names;
  moved = λ x. subst (λ (h : Bool). StatusMoved h (status_of a x) (status_of c x)) (sym (has_append s.names t.names x))
      (moved_then (has s.names x) (has t.names x) (status_of a x) (status_of b x) (status_of c x)
      (s.moved x) (t.moved x));
}

-- what is new by the rules is not marked
pub new_is : (s : VariableStates) (g : Scope) → KnowsScope s g → (x : ℕ) → is_new g x ≡ not (is_marked (status_of s x))
new_is s g st x =
    let b = st.bound x in
    let u = st.unsafe x in
    let m = marked_is (status_of s x) in
    ap not (ap (λ (v : Bool). v || has g.unsafe x) b ∙ ap (λ (v : Bool). is_bound (status_of s x) || v) u ∙ m)

-- a name of those that are seen is marked
pub named_is : (s : VariableStates) (g : Scope) → KnowsScope s g → (x : ℕ)
    → has (names_in_scope g) x ≡ is_marked (status_of s x)
named_is s g st x =
    has_append g.bound g.unsafe x ∙ ap (λ (v : Bool). v || has g.unsafe x) (st.bound x)
    ∙ ap (λ (v : Bool). is_bound (status_of s x) || v) (st.unsafe x) ∙ marked_is (status_of s x)

-- ---- a variable of a pattern

pub bound_before : (s : VariableStates) (y : ℕ) → is_marked (status_of s y) ≡ true → Binds s s y
bound_before s y m = record {
  trails = trails_nothing s;
  is_there = λ g st. subst (λ (v : Bool). KnowsScope s
      (if v then record { bound = g.bound ++ y ∷ []; unsafe = g.unsafe }
      else g)) (sym (new_is s g st y ∙ ap not m)) st;
}

is_there_push : (old new : VariableStates) (y : ℕ) (g : Scope) → status_of old y ≡ New
    → ((x : ℕ) → status_of new x ≡ (if y == x then Bound else status_of old x)) → KnowsScope old g
    → KnowsScope new (record { bound = g.bound ++ y ∷ []; unsafe = g.unsafe })
is_there_push old new y g n set st = record {
  bound = λ x. has_append g.bound (y ∷ []) x ∙ bound_one (y == x) (has g.bound x) (status_of old x) (status_of new x)
      (st.bound x) (set x);
  unsafe = λ x. unsafe_one (y == x) (has g.unsafe x) (status_of old x) (status_of new x)
      (λ e. st.unsafe x ∙ ap is_marked_unsafe (ap (status_of old) (sym (eqb-true y x e)) ∙ n)) (st.unsafe x) (set x);
}

pub bound_new : (old new : VariableStates) (y : ℕ) → status_of old y ≡ New
    → ((x : ℕ) → status_of new x ≡ (if y == x then Bound else status_of old x)) → trail_of new ≡ trail_of old ++ y ∷ []
    → Binds old new y
bound_new old new y n set longer = record {
  trails = record {
    names = y ∷ [];
    longer = longer;
    moved = λ x. moved_one (y == x) (status_of old x) (status_of new x) Bound
        (λ e. ap is_marked (ap (status_of old) (sym (eqb-true y x e)) ∙ n)) refl (set x);
  };
  is_there = λ g st. subst (λ (v : Bool). KnowsScope new
      (if v then record { bound = g.bound ++ y ∷ []; unsafe = g.unsafe } else g))
      (sym (new_is old g st y ∙ ap (λ (a : Status). not (is_marked a)) n)) (is_there_push old new y g n set st);
}

-- ---- back to what was seen

-- what is known is the same
pub record Same (old new : VariableStates) : Type 0 where
  pub same : (x : ℕ) → status_of new x ≡ status_of old x

pub same_is_there : (old new : VariableStates) (g : Scope) → Same old new → KnowsScope old g → KnowsScope new g
same_is_there old new g s st = record {
  bound = λ x. st.bound x ∙ ap is_bound (sym (s.same x));
  unsafe = λ x. st.unsafe x ∙ ap is_marked_unsafe (sym (s.same x));
}

-- the names that a part left are known from its trail
pub left_since : (a b : VariableStates) (t : Trails a b) → drop (length (trail_of a)) (trail_of b) ≡ t.names
left_since a b t = ap (drop (length (trail_of a))) t.longer ∙ drop-append_seam (trail_of a) t.names

pub back : (a b c : VariableStates) → Trails a b
    → ((x : ℕ) → status_of c x ≡ (if has (drop (length (trail_of a)) (trail_of b)) x then New else status_of b x))
    → Same a c
back a b c t set = record {
  same = λ x. moved_back (has t.names x) (status_of a x) (status_of b x) (status_of c x) (t.moved x)
      (set x ∙ ap (λ (ns : List ℕ). if has ns x then New else status_of b x) (left_since a b t));
}

pub trails_same : (a c : VariableStates) → Same a c → trail_of c ≡ trail_of a → Trails a c
trails_same a c s e = record { names = []; longer = e ∙ sym (append-nil (trail_of a)); moved = λ x. s.same x }

pub left_before : (a b : VariableStates) → Trails a b → take (length (trail_of a)) (trail_of b) ≡ trail_of a
left_before a b t = ap (take (length (trail_of a))) t.longer ∙ take-append_seam (trail_of a) t.names

-- ---- out of a construct

has_filter : (p : ℕ → Bool) (ns : List ℕ) (x : ℕ) → has (filter p ns) x ≡ (p x && has ns x)
has_filter p [] x = both_false (p x)
  where
    both_false : (a : Bool) → false ≡ (a && false)
    both_false true = refl
    both_false false = refl
has_filter p (n ∷ ns) x = one p n ns x (p n) refl (has_filter p ns x)
  where
    kept_one : (b h : Bool) (a : Bool) → (b ≡ true → a ≡ true) → (b || (a && h)) ≡ (a && (b || h))
    kept_one true h true f = refl
    kept_one true h false f = absurd (cc (f refl))
    kept_one false h a f = refl

    left_one : (b h : Bool) (a : Bool) → (b ≡ true → a ≡ false) → (a && h) ≡ (a && (b || h))
    left_one true h true f = absurd (cc (f refl))
    left_one true h false f = refl
    left_one false h a f = refl

    one : (p : ℕ → Bool) (n : ℕ) (ns : List ℕ) (x : ℕ) (v : Bool) → p n ≡ v → has (filter p ns) x ≡ (p x && has ns x)
        → has (if v then n ∷ filter p ns else filter p ns) x ≡ (p x && ((n == x) || has ns x))
    one p n ns x true e ih = ap (λ (v : Bool). (n == x) || v) ih ∙ kept_one (n == x) (has ns x) (p x)
        (λ q. ap p (sym (eqb-true n x q)) ∙ e)
    one p n ns x false e ih = ih ∙ left_one (n == x) (has ns x) (p x) (λ q. ap p (sym (eqb-true n x q)) ∙ e)

pub is_there_leaving : (old new : VariableStates) (g : Scope) (names ends : List ℕ) → KnowsScope old g
    → ((x : ℕ) → has names x ≡ true → is_marked (status_of old x) ≡ false)
    → ((x : ℕ) → has names x ≡ (is_new g x && has ends x))
    → ((x : ℕ) → status_of new x ≡ (if has names x then Unsafe else status_of old x))
    → KnowsScope new (scope_leaving g ends)
is_there_leaving old new g names ends st fresh named set = record {
  bound = λ x. st.bound x ∙ bound_left (has names x) (status_of old x) (status_of new x) (fresh x) (set x);
  unsafe = λ x.
      has_append g.unsafe (filter (λ y. not (has g.bound y)) ends) x
      ∙ ap (λ (v : Bool). has g.unsafe x || v) (has_filter (λ y. not (has g.bound y)) ends x)
      ∙ ap (λ (v : Bool). v || (not (has g.bound x) && has ends x)) (st.unsafe x)
      ∙ ap (λ (v : Bool). is_marked_unsafe (status_of old x) || (not v && has ends x)) (st.bound x)
      ∙ unsafe_left (has names x) (has ends x) (status_of old x) (status_of new x)
      (named x ∙ ap (λ (v : Bool). v && has ends x) (new_is old g st x)) (set x);
}

-- ---- lengths

pub same_length : (xs ys : List AtomId) → map (λ a. a.0) xs ≡ map (λ a. a.0) ys → length xs ≡ length ys
same_length xs ys e = sym (length-map xs (λ (a : AtomId). a.0)) ∙ ap length e ∙ length-map ys (λ (a : AtomId). a.0)

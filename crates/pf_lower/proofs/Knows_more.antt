-- The table of own functions, one function more.
use Rattle.std.proofs.Common.{◌≡◌, ℕ, zero, suc, ◌+◌, ◌<◌, ◌≤◌, Bool, true, false, cond, List, [], ◌∷◌, ◌++◌, length}
use Rattle.std.proofs.Common.{take, drop, get_or, Option, Some, None, refl, sym, ap, ◌∙◌, arith, rules, tests}
use Rattle.std.specs.Prelude.{position, nat_eq, ◌&&◌, if◌then◌else◌, map, slice_get}
use Rattle.std.specs.List.{position_from}
use Rattle.std.specs.Ordering.{is_eq}
use Rattle.std.proofs.lemmas.List.{take_more}
use Rattle.std.proofs.lemmas.Iterator.Adapters.{position_from-zero}
use Rattle.std.proofs.lemmas.Bool.Decides.{nat_tests}
use Rattle.pf_syntax.specs.SyntaxTree.{NodeTable, Head}
use Rattle.pf_syntax.specs.SyntaxTreeOver.{head_over, heads_over}
use Rattle.pf_syntax.specs.declared.expr.Head.{Head as HeadNode}
use Rattle.pf_syntax.specs.declared.expr.ExprFunction.{ExprFunction}
use Rattle.pf_rules.specs.Static.{own_in, is_named_by_head}
use Rattle.pf_lower.specs.Knows.{key_order, same_key}
use Rattle.pf_lower.specs.Heads.{first_of}
use Rattle.pf_rules.proofs.Counts.{parameters_length}

-- ---- one key entered

-- two keys are equal in the order where they are the same
pub same_in_order : (a b c d : ℕ) → is_eq (key_order (a, b) (c, d)) ≡ same_key (a, b) (c, d)
same_in_order a b c d = search (rules, tests)

pub same_is : (a b c d : ℕ) → nat_eq a c && nat_eq b d ≡ true → (a ≡ c) × (b ≡ d)
same_is a b c d h = (grind (arith, nat_tests), grind (arith, nat_tests))

pub entered : (o new : Option ℕ) (test : Bool) (n : ℕ) → new ≡ cond test (Some n) o → (test ≡ true → o ≡ None)
    → new ≡ first_of o (if test then Some n else None)
entered o new true n e h = e ∙ sym (ap (λ x. first_of x (Some n)) (h refl))
entered None new false n e h = e
entered (Some x) new false n e h = e

-- ---- the first of more functions

from_more : {X : Type 0} (p : X → Bool) (i : ℕ) (xs : List X) (x : X)
    → position_from p i (xs ++ x ∷ []) ≡ first_of (position_from p i xs) (if p x then Some (i + length xs) else None)
from_more p i [] x = by (p x) (omega arith)
  where
    by : (b : Bool) → i ≡ i + 0 → cond b (Some i) None ≡ (if b then Some (i + 0) else None)
    by true e = ap (λ n. Some n) e
    by false e = refl
from_more p i (y ∷ xs) x = by (p y) (from_more p (i + 1) xs x) (omega arith)
  where
    by : (b : Bool) → position_from p (i + 1) (xs ++ x ∷ []) ≡ first_of (position_from p (i + 1) xs)
        (if p x then Some ((i + 1) + length xs) else None)
        → (i + 1) + length xs ≡ i + suc (length xs)
        → cond b (Some i) (position_from p (i + 1) (xs ++ x ∷ []))
        ≡ first_of (cond b (Some i) (position_from p (i + 1) xs)) (if p x then Some (i + suc (length xs)) else None)
    by true h e = refl
    by false h e = h ∙ ap (λ n. first_of (position_from p (i + 1) xs) (if p x then Some n else None)) e

position_more : {X : Type 0} (p : X → Bool) (xs : List X) (x : X)
    → position p (xs ++ x ∷ []) ≡ first_of (position p xs) (if p x then Some (length xs) else None)
position_more p xs x =
    position_from-zero p (xs ++ x ∷ []) ∙ from_more p 0 xs x
    ∙ ap (λ o. first_of o (if p x then Some (0 + length xs) else None)) (sym (position_from-zero p xs))
    ∙ ap (λ n. first_of (position p xs) (if p x then Some n else None)) (omega arith)

get_or-map : {X Y : Type 0} (g : X → Y) (xs : List X) (k : ℕ) (d : X) → get_or (map g xs) k (g d) ≡ g (get_or xs k d)
get_or-map g [] zero d = refl
get_or-map g [] (suc k) d = refl
get_or-map g (x ∷ xs) zero d = refl
get_or-map g (x ∷ xs) (suc k) d = get_or-map g xs k d

pub length_mapped : {X Y : Type 0} (g : X → Y) (xs : List X) → length (map g xs) ≡ length xs
length_mapped g [] = refl
length_mapped g (x ∷ xs) = ap (λ n. suc n) (length_mapped g xs)

length-taken : {X : Type 0} (xs : List X) (k : ℕ) → k ≤ length xs → length (take k xs) ≡ k
length-taken xs zero h = refl
length-taken [] (suc k) h = absurd (omega arith)
length-taken (x ∷ xs) (suc k) h = let e = length-taken xs k (omega arith) in omega arith

-- the functions so far, and the next one
pub next_function : (b : NodeTable) (ws : List ExprFunction) (fs : List (List Head)) (k : ℕ) (x : ExprFunction)
    → map (heads_over b) ws ≡ fs → k < length ws → x ≡ get_or ws k x
    → take (k + 1) fs ≡ take k fs ++ heads_over b x ∷ []
next_function b ws fs k x e lt at =
    let more = take_more (map (heads_over b) ws) k (heads_over b x) (omega (arith, length_mapped (heads_over b) ws)) in
    let item = get_or-map (heads_over b) ws k x in
    ap (take (k + 1)) (sym e) ∙ more ∙ ap (λ y. take k (map (heads_over b) ws) ++ y ∷ [])
    (item ∙ ap (heads_over b) (sym at)) ∙ ap (λ l. take k l ++ heads_over b x ∷ []) e

pub knows_more : (b : NodeTable) (ws : List ExprFunction) (fs : List (List Head)) (k : ℕ) (x : ExprFunction) (f a : ℕ)
    (old new : Option ℕ) → map (heads_over b) ws ≡ fs → k < length ws → x ≡ get_or ws k x
    → old ≡ own_in (take k fs) f a → new ≡ first_of old (if is_named_by_head f a (heads_over b x) then Some k else None)
    → new ≡ own_in (take (k + 1) fs) f a
knows_more b ws fs k x f a old new e lt at h n =
    let long : length (take k fs) ≡ k = length-taken fs k
    (omega (arith, ap length e, length_mapped (heads_over b) ws)) in
    n ∙ ap (λ o. first_of o (if is_named_by_head f a (heads_over b x) then Some k else None)) h
    ∙ ap (λ m. first_of (own_in (take k fs) f a) (if is_named_by_head f a (heads_over b x) then Some m else None))
    (sym long)
    ∙ sym (position_more (is_named_by_head f a) (take k fs) (heads_over b x))
    ∙ ap (λ l. own_in l f a) (sym (next_function b ws fs k x e lt at))

-- ---- a function's name

pub named_first : (b : NodeTable) (f a : ℕ) (hs : List HeadNode) (h : HeadNode) → Some h ≡ slice_get hs 0
    → same_key (h.ident.name.0, length h.parameters.items) (f, a) ≡ is_named_by_head f a (map (head_over b) hs)
named_first b f a [] h e = cc
named_first b f a (x ∷ hs) h e =
    let same : h ≡ x = cc in
    ap (λ y. same_key (y.ident.name.0, length y.parameters.items) (f, a)) same
    ∙ ap (λ n. nat_eq x.ident.name.0 f && nat_eq n a) (sym (parameters_length b x.parameters.items))

pub unnamed : (b : NodeTable) (f a : ℕ) (hs : List HeadNode) → None ≡ slice_get hs 0
    → false ≡ is_named_by_head f a (map (head_over b) hs)
unnamed b f a [] e = refl
unnamed b f a (x ∷ hs) e = cc

pub first_is : {X : Type 0} (xs : List X) (x : X) → Some x ≡ slice_get xs 0 → xs ≡ x ∷ drop 1 xs
first_is [] x e = cc
first_is (y ∷ xs) x e = let same : x ≡ y = cc in ap (λ z. z ∷ xs) (sym same)

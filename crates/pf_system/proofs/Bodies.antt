-- The bodies of a core.
use Rattle.std.proofs.Common.{◌≡◌, ℕ, zero, suc, ◌<◌, List, [], ◌∷◌, ◌++◌, refl, sym, ap, ◌∙◌, arith, length, map}
use Rattle.std.proofs.Common.{get_or, slice_set}
use Rattle.pf_model.specs.Configuration.{Process, Core, of, with_process, process_at}
use Rattle.pf_ties.specs.Laws.{process_ties, ties_of}
use Rattle.pf_system.specs.Bodies.{process_body, bodies_of}
use Rattle.std.proofs.lemmas.List.{length-map}

-- ---- lists

pub set_map : {A B : Type 0} (f : A → B) (a : ℕ) (xs : List A) (x : A)
    → map f (slice_set xs a x) ≡ slice_set (map f xs) a (f x)
set_map f a [] x = refl
set_map f zero (y ∷ xs) x = refl
set_map f (suc a) (y ∷ xs) x = ap (λ z. f y ∷ z) (set_map f a xs x)

pub map_more : {A B : Type 0} (f : A → B) (xs : List A) (x : A) → map f (xs ++ x ∷ []) ≡ map f xs ++ f x ∷ []
map_more f [] x = refl
map_more f (y ∷ xs) x = ap (λ z. f y ∷ z) (map_more f xs x)

pub set_length : {A : Type 0} (a : ℕ) (xs : List A) (x : A) → length (slice_set xs a x) ≡ length xs
set_length a [] x = refl
set_length zero (y ∷ xs) x = refl
set_length (suc a) (y ∷ xs) x = ap suc (set_length a xs x)

pub set_twice : {A : Type 0} (a : ℕ) (xs : List A) (x y : A) → slice_set (slice_set xs a x) a y ≡ slice_set xs a y
set_twice a [] x y = refl
set_twice zero (z ∷ xs) x y = refl
set_twice (suc a) (z ∷ xs) x y = ap (λ k. z ∷ k) (set_twice a xs x y)

pub more_length : {A : Type 0} (xs : List A) (x : A) → length (xs ++ x ∷ []) ≡ suc (length xs)
more_length [] x = refl
more_length (y ∷ xs) x = ap suc (more_length xs x)

pub set_front : {A : Type 0} (a : ℕ) (xs ys : List A) (x : A) → a < length xs
    → slice_set (xs ++ ys) a x ≡ slice_set xs a x ++ ys
set_front a [] ys x l = absurd (omega arith)
set_front zero (y ∷ xs) ys x l = refl
set_front (suc a) (y ∷ xs) ys x l = ap (λ k. y ∷ k) (set_front a xs ys x (omega arith))

-- ---- one process

set_same : {A : Type 0} (f : Process → A) (a : ℕ) (ps : List Process) (x : A) → x ≡ f (process_at a ps)
    → slice_set (map f ps) a x ≡ map f ps
set_same f a [] x e = refl
set_same f zero (p ∷ ps) x e = ap (λ z. z ∷ map f ps) e
set_same f (suc a) (p ∷ ps) x e = ap (λ z. f p ∷ z) (set_same f a ps x e)

pub bodies_changed : (c : Core) (a : ℕ) (p : Process)
    → bodies_of (with_process c a p) ≡ slice_set (bodies_of c) a (process_body p)
bodies_changed c a p = set_map process_body a c.processes p

pub bodies_same : (c : Core) (a : ℕ) (p : Process) → process_body p ≡ process_body (of c a)
    → bodies_of (with_process c a p) ≡ bodies_of c
bodies_same c a p e = bodies_changed c a p ∙ set_same process_body a c.processes (process_body p) e

pub length_of : (c : Core) → length c.processes ≡ length (bodies_of c)
length_of c = sym (length-map c.processes process_body)

pub ties_length : (c : Core) → length (ties_of c).processes ≡ length c.processes
ties_length c = length-map c.processes process_ties

-- the body of one process among all
pub body_of_one : (i : ℕ) (ps : List Process)
    → get_or (map process_body ps) i (process_body (process_at i ps)) ≡ process_body (process_at i ps)
body_of_one i [] = refl
body_of_one zero (p ∷ ps) = refl
body_of_one (suc i) (p ∷ ps) = body_of_one i ps

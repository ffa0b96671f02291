-- The atom of a name in a table that has no name twice.
use Rattle.std.proofs.Common.{◌≡◌, ℕ, zero, suc, ◌<◌, Bool, true, false, List, [], ◌∷◌, length, Option, Some, None}
use Rattle.std.proofs.Common.{refl, sym, ap, ◌∙◌, arith}
use Rattle.std.specs.Prelude.{slice_get, option_map, if◌then◌else◌, ◌||◌}
use Rattle.std.specs.List.{list_any}
use Rattle.std.specs.Str.{bytes_eq}
use Rattle.std.proofs.lemmas.Slice.Eq.{bytes_eq-Decides}
use Rattle.pf_terms.specs.Atoms.{name_of}
use Rattle.pf_terms.specs.Order.{Distinguishes}
use Rattle.pf_termtext.specs.Reading.{atom_of}

-- the names after the first are distinct as well
after_apart : (n : List ℕ) (names : List (List ℕ)) → Distinguishes (name_of (n ∷ names)) (length (n ∷ names))
    → Distinguishes (name_of names) (length names)
after_apart n names apart a b within_a within_b same = let next : suc a ≡ suc b = apart (suc a) (suc b) (omega arith)
    (omega arith) same in omega (arith, next)

-- where an atom has this name, it is the one
pub atom_found : (names : List (List ℕ)) (a : ℕ) → Distinguishes (name_of names) (length names) → a < length names
    → atom_of names (name_of names a) ≡ Some a
atom_found [] a apart within = absurd (omega arith)
atom_found (n ∷ names) zero apart within = rw ((bytes_eq-Decides n n).1 refl) refl
atom_found (n ∷ names) (suc a) apart within =
    by (bytes_eq (name_of names a) n) refl (atom_found names a (after_apart n names apart) (omega arith))
  where
    by : (t : Bool) → bytes_eq (name_of names a) n ≡ t → atom_of names (name_of names a) ≡ Some a
        → (if t then Some 0 else option_map suc (atom_of names (name_of names a))) ≡ Some (suc a)
    by true e found =
        let same : name_of names a ≡ n = (bytes_eq-Decides (name_of names a) n).0 e in
        let first : suc a ≡ 0 = apart (suc a) 0 within (omega arith) same in
        absurd (omega (arith, first))
    by false e found = rw found refl

-- an atom of this name is in the table
pub atom_is_there : (names : List (List ℕ)) (name : List ℕ) (a : ℕ) → atom_of names name ≡ Some a
    → (a < length names) × (name_of names a ≡ name)
atom_is_there [] name a e = absurd cc
atom_is_there (n ∷ names) name a e = by (bytes_eq name n) refl (atom_of names name) refl (atom_is_there names name) e
  where
    by : (t : Bool) → bytes_eq name n ≡ t → (o : Option ℕ) → atom_of names name ≡ o
        → ((b : ℕ) → atom_of names name ≡ Some b → (b < length names) × (name_of names b ≡ name))
        → (if t then Some 0 else option_map suc o) ≡ Some a → (a < length (n ∷ names)) × (name_of (n ∷ names) a ≡ name)
    by true is o found later made =
        let first : 0 ≡ a = cc in
        rw (← first) (omega arith, sym ((bytes_eq-Decides name n).0 is))
    by false is None found later made = absurd cc
    by false is (Some b) found later made =
        let next : suc b ≡ a = cc in
        let is_there = later b found in
        rw (← next) (omega (arith, is_there.0), is_there.1)

-- a name at an index of the table has its atom there
pub atom_at : (names : List (List ℕ)) (name : List ℕ) (a : ℕ) → Distinguishes (name_of names) (length names)
    → slice_get names a ≡ Some name → atom_of names name ≡ Some a
atom_at names name a apart e =
    let offset = placed names a e in
    ap (atom_of names) (sym offset.1) ∙ atom_found names a apart offset.0
  where
    placed : (names : List (List ℕ)) (a : ℕ) → slice_get names a ≡ Some name
        → (a < length names) × (name_of names a ≡ name)
    placed [] a e = absurd cc
    placed (n ∷ names) zero e = (omega arith, cc)
    placed (n ∷ names) (suc a) e = let later = placed names a e in (omega (arith, later.0), later.1)

-- a name that the table lacks has no atom
pub atom_absent : (names : List (List ℕ)) (name : List ℕ) → list_any (bytes_eq name) names ≡ false
    → atom_of names name ≡ None
atom_absent [] name e = refl
atom_absent (n ∷ names) name e = by (bytes_eq name n) (list_any (bytes_eq name) names) refl refl e
    (atom_absent names name)
  where
    by : (t u : Bool) → bytes_eq name n ≡ t → list_any (bytes_eq name) names ≡ u → (t || u) ≡ false
        → (list_any (bytes_eq name) names ≡ false → atom_of names name ≡ None) → atom_of (n ∷ names) name ≡ None
    by true u is all e later = absurd cc
    by false true is all e later = absurd cc
    by false false is all e later = rw (is, later all) refl

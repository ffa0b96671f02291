-- The number of a name in a table that grows.
use Rattle.std.proofs.Common.{◌≡◌, ℕ, zero, suc, ◌<◌, List, [], ◌∷◌, ◌++◌, length, Bool, true, false, Some, refl, sym}
use Rattle.std.proofs.Common.{ap, ◌∙◌, arith}
use Rattle.std.specs.Prelude.{slice_get, if◌then◌else◌}
use Rattle.std.specs.List.{list_any}
use Rattle.std.specs.Str.{bytes_eq}
use Rattle.std.proofs.lemmas.Slice.Eq.{bytes_eq-Decides}
use Rattle.pf_terms.specs.Atoms.{with_name, names_entered, name_of}
use Rattle.pf_terms.specs.Order.{Distinguishes}
use Rattle.pf_tokens.specs.NumberedTokens.{number_in}

-- the name is in the names, first at this index
abbrev pub FirstAt : List (List ℕ) → List ℕ → ℕ → Type 0
FirstAt names name i = (number_in names name ≡ i) × (slice_get names i ≡ Some name)

by_test : (b : Bool) (name n : List ℕ) (ns : List (List ℕ)) → bytes_eq name n ≡ b
    → number_in (n ∷ ns) name ≡ (if b then 0 else suc (number_in ns name))
by_test true name n ns e = rw e refl
by_test false name n ns e = rw e (omega arith)

-- where a name is there at all, it is at its number
found_at : (b : Bool) (name n : List ℕ) (ns : List (List ℕ)) → bytes_eq name n ≡ b
    → ((j : ℕ) → slice_get ns j ≡ Some name → slice_get ns (number_in ns name) ≡ Some name)
    → (i : ℕ) → slice_get (n ∷ ns) i ≡ Some name → slice_get (n ∷ ns) (number_in (n ∷ ns) name) ≡ Some name
found_at true name n ns h again i e =
    let same : name ≡ n = (bytes_eq-Decides name n).0 h in
    ap (slice_get (n ∷ ns)) (by_test true name n ns h) ∙ ap (λ x. Some x) (sym same)
found_at false name n ns h again zero e =
    let same : name ≡ n = cc in
    let yes = (bytes_eq-Decides name n).1 same in
    absurd (cc)
found_at false name n ns h again (suc i) e = ap (slice_get (n ∷ ns)) (by_test false name n ns h) ∙ again i e

found : (names : List (List ℕ)) (name : List ℕ) (i : ℕ) → slice_get names i ≡ Some name
    → slice_get names (number_in names name) ≡ Some name
found [] name i e = absurd (cc)
found (n ∷ ns) name i e = found_at (bytes_eq name n) name n ns refl (λ j f. found ns name j f) i e

inside : (names : List (List ℕ)) (name : List ℕ) (i : ℕ) → slice_get names i ≡ Some name → i < length names
inside [] name i e = absurd (cc)
inside (n ∷ ns) name zero e = omega arith
inside (n ∷ ns) name (suc i) e = let h = inside ns name i e in omega arith

named_by : (names : List (List ℕ)) (name : List ℕ) (i : ℕ) → slice_get names i ≡ Some name → name_of names i ≡ name
named_by [] name i e = absurd (cc)
named_by (n ∷ ns) name zero e = cc
named_by (n ∷ ns) name (suc i) e = named_by ns name i e

-- in a table without doubles, the index of a name is its number
pub first_there : (names : List (List ℕ)) (name : List ℕ) (i : ℕ) → Distinguishes (name_of names) (length names)
    → slice_get names i ≡ Some name → FirstAt names name i
first_there names name i apart e =
    let f = found names name i e in (
      apart (number_in names name) i (inside names name (number_in names name) f) (inside names name i e)
          (named_by names name (number_in names name) f ∙ sym (named_by names name i e)),
      e,
    )

-- more names at the end change neither
get_left : (names more : List (List ℕ)) (name : List ℕ) (i : ℕ) → slice_get names i ≡ Some name
    → slice_get (names ++ more) i ≡ Some name
get_left [] more name i e = absurd (cc)
get_left (n ∷ ns) more name zero e = e
get_left (n ∷ ns) more name (suc i) e = get_left ns more name i e

number_at : (b : Bool) (name n : List ℕ) (ns more : List (List ℕ)) → bytes_eq name n ≡ b
    → ((j : ℕ) → slice_get ns j ≡ Some name → number_in (ns ++ more) name ≡ number_in ns name)
    → (i : ℕ) → slice_get (n ∷ ns) i ≡ Some name → number_in ((n ∷ ns) ++ more) name ≡ number_in (n ∷ ns) name
number_at true name n ns more h again i e = by_test true name n (ns ++ more) h ∙ sym (by_test true name n ns h)
number_at false name n ns more h again zero e =
    let same : name ≡ n = cc in
    let yes = (bytes_eq-Decides name n).1 same in
    absurd (cc)
number_at false name n ns more h again (suc i) e = by_test false name n (ns ++ more) h ∙ ap suc (again i e)
    ∙ sym (by_test false name n ns h)

number_left : (names more : List (List ℕ)) (name : List ℕ) (i : ℕ) → slice_get names i ≡ Some name
    → number_in (names ++ more) name ≡ number_in names name
number_left [] more name i e = absurd (cc)
number_left (n ∷ ns) more name i e = number_at (bytes_eq name n) name n ns more refl
    (λ j f. number_left ns more name j f) i e

appended : (names more : List (List ℕ)) (name : List ℕ) (i : ℕ) → FirstAt names name i → FirstAt (names ++ more) name i
appended names more name i h = (number_left names more name i h.1 ∙ h.0, get_left names more name i h.1)

grown_by : (b : Bool) (names : List (List ℕ)) (other name : List ℕ) (i : ℕ) → FirstAt names name i
    → FirstAt (if b then names else names ++ other ∷ []) name i
grown_by true names other name i h = h
grown_by false names other name i h = appended names (other ∷ []) name i h

pub stays_first : (more names : List (List ℕ)) (name : List ℕ) (i : ℕ) → FirstAt names name i
    → FirstAt (names_entered names more) name i
stays_first [] names name i h = h
stays_first (x ∷ more) names name i h = stays_first more (with_name names x) name i
    (grown_by (list_any (bytes_eq x) names) names x name i h)

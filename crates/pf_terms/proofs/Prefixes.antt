-- Names of a table that are entered one after another.
use Rattle.std.proofs.Common.{◌≡◌, ℕ, suc, ◌+◌, ◌<◌, List, [], ◌∷◌, ◌++◌, length, take, Bool, true, false, refl, sym}
use Rattle.std.proofs.Common.{ap, ◌∙◌, arith}
use Rattle.std.specs.Prelude.{if◌then◌else◌, ◌||◌}
use Rattle.std.specs.List.{list_any}
use Rattle.std.specs.Str.{bytes_eq}
use Rattle.std.proofs.lemmas.List.{get_or-take, length-take-le, take_more}
use Rattle.std.proofs.lemmas.Slice.Eq.{bytes_eq-Decides}
use Rattle.pf_terms.specs.Atoms.{with_name, name_of}
use Rattle.pf_terms.specs.Order.{Distinguishes}

-- a name that is at no index isn't among them
lacks : (names : List (List ℕ)) (name : List ℕ) → ((i : ℕ) → i < length names → ¬ (name_of names i ≡ name))
    → list_any (bytes_eq name) names ≡ false
lacks [] name h = refl
lacks (n ∷ ns) name h = by (bytes_eq name n) refl (lacks ns name (λ i k. h (suc i) (omega arith)))
  where
    by : (b : Bool) → bytes_eq name n ≡ b → list_any (bytes_eq name) ns ≡ false
        → b || list_any (bytes_eq name) ns ≡ false
    by true e k = absurd (h 0 (omega arith) (sym ((bytes_eq-Decides name n).0 e)))
    by false e k = k

-- the next name of a table goes after those before it
pub next_name : (names : List (List ℕ)) (i : ℕ) → Distinguishes (name_of names) (length names) → i < length names
    → with_name (take i names) (name_of names i) ≡ take (i + 1) names
next_name names i apart h =
    let long : length (take i names) ≡ i = length-take-le i names (omega arith) in
    let new = lacks (take i names) (name_of names i) (λ j k e.
    let within : j < i = omega arith in
    let same : j ≡ i = apart j i (omega arith) h (sym (get_or-take i names j [] within) ∙ e) in
    omega arith) in
    ap (λ b. if b then take i names else take i names ++ name_of names i ∷ []) new
    ∙ sym (take_more names i [] h)

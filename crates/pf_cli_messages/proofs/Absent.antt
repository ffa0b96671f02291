-- Names that a table has, and those that it lacks.
use Rattle.std.proofs.Common.{◌≡◌, ℕ, zero, suc, List, [], ◌∷◌, Bool, true, false, None, Some, refl, sym, ap}
use Rattle.std.specs.Prelude.{slice_get, ◌||◌, if◌then◌else◌}
use Rattle.std.specs.List.{list_any}
use Rattle.std.specs.Str.{bytes_eq}
use Rattle.std.proofs.lemmas.Slice.Eq.{bytes_eq-Decides}
use Rattle.pf_tokens.specs.TokenKinds.{atom}
use Rattle.pf_cli_messages.specs.Lacked.{lacked_name}

either : (a b : Bool) → b ≡ true → (a || b) ≡ true
either true b h = refl
either false b h = h

found_in : (names : List (List ℕ)) (text : List ℕ) (i : ℕ) → slice_get names i ≡ Some text
    → list_any (bytes_eq text) names ≡ true
found_in [] text i e = absurd (cc)
found_in (n ∷ ns) text zero e =
    let same : text ≡ n = cc in
    ap (λ b. b || list_any (bytes_eq text) ns) ((bytes_eq-Decides text n).1 same)
found_in (n ∷ ns) text (suc i) e = either (bytes_eq text n) (list_any (bytes_eq text) ns) (found_in ns text i e)

-- a name that is in the table isn't lacked
pub not_lacked : (names : List (List ℕ)) (text : List ℕ) (i : ℕ) → slice_get names i ≡ Some text
    → None ≡ lacked_name names (atom text)
not_lacked names text i e = sym (ap (λ (b : Bool). if b then None else Some text) (found_in names text i e))

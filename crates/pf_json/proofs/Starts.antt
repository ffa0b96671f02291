-- Where words begin last in a text.
use Rattle.std.proofs.Common.{◌≡◌, ◌<◌, ℕ, Bool, zero, suc, ◌+◌, List, [], ◌∷◌, Option, Some, None, length, drop}
use Rattle.std.proofs.Common.{get_or, ap, sym, ◌∙◌, arith, zero-add}
use Rattle.std.proofs.Math.Seq.{drop-cons}
use Rattle.std.specs.Prelude.{option_map, nat_eq, if◌then◌else◌}
use Rattle.std.specs.List.{starts_with}
use Rattle.pf_json.specs.Facts.{or_else}
use Rattle.pf_json.specs.Names.{last_start, start_here}

-- where they begin last after some bytes, they begin last in all
pub later : (w t : List ℕ) (k n : ℕ) → last_start w (drop k t) ≡ Some n → last_start w t ≡ Some (k + n)
later w [] zero n e = absurd cc
later w [] (suc k) n e = absurd cc
later w (b ∷ bs) zero n e = e ∙ ap Some (sym (zero-add n))
later w (b ∷ bs) (suc k) n e =
    ap (λ (o : Option ℕ). or_else (option_map (λ m. suc m) o) (start_here w (b ∷ bs))) (later w bs k n e)
    ∙ ap Some (omega arith)

-- where they begin nowhere after a byte, they begin there or nowhere
pub here : (w t : List ℕ) (k m : ℕ) → k < length t → m ≡ suc k → last_start w (drop m t) ≡ None
    → last_start w (drop k t) ≡ start_here w (drop k t)
here w t k m l next e =
    let parts = drop-cons t k 0 l in
    ap (last_start w) parts
    ∙ (ap (λ (o : Option ℕ). or_else (option_map (λ m. suc m) o) (start_here w (get_or t k 0 ∷ drop (suc k) t)))
    (ap (λ (n : ℕ). last_start w (drop n t)) (sym next) ∙ e) ∙ ap (start_here w) (sym parts))

-- they begin at a byte if the text from there on begins with them
pub begins : (w t rest : List ℕ) (k m : ℕ) (b : Bool) → k < length t → m ≡ suc k → last_start w (drop m t) ≡ None
    → rest ≡ drop k t → b ≡ starts_with nat_eq rest w
    → last_start w (drop k t) ≡ (if b then Some 0 else None)
begins w t rest k m b l next e same found =
    here w t k m l next e ∙ ap (λ (c : Bool). if c then Some 0 else None)
    (sym (found ∙ ap (λ (s : List ℕ). starts_with nat_eq s w) same))

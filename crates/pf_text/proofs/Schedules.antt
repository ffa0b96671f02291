-- The text of a schedule.
use Rattle.std.proofs.Common.{◌≡◌, ℕ, List, [], ◌∷◌, ◌++◌, ap, ◌∙◌, append_assoc, append-nil}
use Rattle.std.specs.Prelude.{codes, flat_map}
use Rattle.std.specs.Fmt.{decimal}
use Rattle.pf_text.specs.Schedules.{numbers_text}

abbrev pub after_commas : List ℕ → List ℕ
after_commas ms = flat_map (λ n. codes "," ++ decimal n) ms

-- a number, and others each after a comma
pub by_commas : (n : ℕ) (ms : List ℕ) → decimal n ++ after_commas ms ≡ numbers_text n ms
by_commas n [] = append-nil (decimal n)
by_commas n (m ∷ ms) =
    let parted : decimal n ++ after_commas (m ∷ ms) ≡ decimal n ++ (codes "," ++ (decimal m ++ after_commas ms)) =
    ap (λ (t : List ℕ). decimal n ++ t) (append_assoc (codes ",") (decimal m) (after_commas ms)) in
    let reported : decimal n ++ (codes "," ++ numbers_text m ms) ≡ numbers_text n (m ∷ ms) = simp append_assoc in
    parted ∙ ap (λ (t : List ℕ). decimal n ++ (codes "," ++ t)) (by_commas m ms) ∙ reported

-- How many processes begin and end in a report.
use Rattle.std.proofs.Common.{◌≡◌, ◌+◌, ℕ, Bool, List, [], ◌∷◌, map, cond, refl, sym}
use Rattle.std.specs.List.{count_by, fold}
use Rattle.pf_model.specs.Labels.{Label}
use Rattle.pf_model.specs.Reports.{label_of}
use Rattle.pf_model.specs.declared.report.Event.{Event}
use Rattle.pf_property.specs.Views.{labels_of}

folds : {X Y : Type 0} (h : ℕ → Y → ℕ) (g : X → Y) (n : ℕ) (xs : List X)
    → fold h n (map g xs) ≡ fold (λ k x. h k (g x)) n xs
folds h g n [] = refl
folds h g n (x ∷ xs) = folds h g (h n (g x)) xs

-- events that show such labels
pub counted : (so : Label → Bool) (es : List Event) → count_by (λ (e : Event). so (label_of e.label)) es
    ≡ count_by so (labels_of es)
counted so es = sym (folds (λ n l. n + cond (so l) 1 0) (λ (e : Event). label_of e.label) 0 es)

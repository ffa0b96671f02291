-- The stars of rows are those of their events.
use Rattle.std.proofs.Common.{◌≡◌, ◌<◌, ◌+◌, ◌∙◌, ℕ, Bool, true, false, ap, get_or, length, map, refl, sym, take}
use Rattle.std.proofs.Common.{List, [], ◌∷◌, ◌++◌}
use Rattle.std.specs.Prelude.{Option, Some, flat_map, if◌then◌else◌, option_map, slice_get}
use Rattle.std.proofs.lemmas.List.{map-append, map_more, take-map}
use Rattle.std.proofs.lemmas.List.Folds.{flat_map-map}
use Rattle.std.proofs.lemmas.Option.{slice_get-get_or, slice_get-map}
use Rattle.pf_model.specs.declared.report.Event.{Event}
use Rattle.pf_model.specs.Meaning as meaning
use Rattle.pf_model.specs.Reports.{view_of_event}
use Rattle.pf_chart.specs.Rows.{star_labels_of}
use Rattle.pf_chart.specs.Stars.{after, after_event, is_starred, star_at, star_labels, star_of}
use Rattle.pf_chart.specs.declared.rows.EventRow.{EventRow}
use Rattle.pf_chart.specs.declared.stars.Runner.{Runner}
use Rattle.pf_chart.specs.declared.stars.Runner.TheVariants as runner

-- ---- who ran last

after_append : (r : Runner) (es : List meaning.Event) (e : meaning.Event)
    → after r (es ++ e ∷ []) ≡ after_event (after r es) e.actor e.label
after_append r [] e = refl
after_append r (x ∷ es) e = after_append (after_event r x.actor x.label) es e

-- after one event more
pub after_more : (es : List Event) (i : ℕ) (e : Event) (r s : Runner) → i < length es → e ≡ get_or es i e
    → r ≡ after runner.Nobody (map view_of_event (take i es))
    → s ≡ after_event r (view_of_event e).actor (view_of_event e).label
    → s ≡ after runner.Nobody (map view_of_event (take (i + 1) es))
after_more es i e r s low read is next =
    let so_far = map view_of_event (take i es) in
    let v = view_of_event e in
    let more : map view_of_event (take (i + 1) es) ≡ so_far ++ v ∷ [] =
    map_more view_of_event es i e low ∙ ap (λ (x : Event). so_far ++ view_of_event x ∷ []) (sym read) in
    next ∙ ap (λ (q : Runner). after_event q v.actor v.label) is ∙ sym (after_append runner.Nobody so_far v)
    ∙ ap (after runner.Nobody) (sym more)

-- ---- rows

-- a row has the star of its event
pub starred : (es : List Event) (i : ℕ) (e : Event) (r : Runner) (has : Bool) → i < length es → e ≡ get_or es i e
    → r ≡ after runner.Nobody (map view_of_event (take i es)) → has ≡ is_starred r (view_of_event e)
    → star_labels has (view_of_event e) ≡ star_at (map view_of_event es) i
starred es i e r has low read is star =
    let got : slice_get (map view_of_event es) i ≡ Some (view_of_event e) =
    slice_get-map view_of_event es i ∙ ap (option_map view_of_event) (slice_get-get_or es i e low)
    ∙ ap (λ (x : Event). Some (view_of_event x)) (sym read) in
    let run : after runner.Nobody (take i (map view_of_event es)) ≡ r =
    ap (after runner.Nobody) (take-map view_of_event i es) ∙ sym is in
    ap (λ (b : Bool). star_labels b (view_of_event e)) star
    ∙ sym (ap (λ (q : Runner). star_of q (slice_get (map view_of_event es) i)) run ∙ ap (star_of r) got)

-- two ways to read rows agree on one row more, if there is one
pub agree_on_more : {X : Type 0} (f g : EventRow → X) (xs ys : List EventRow) (row : EventRow) (has : Bool)
    → ys ≡ xs ++ (if has then row ∷ [] else []) → map f xs ≡ map g xs → f row ≡ g row → map f ys ≡ map g ys
agree_on_more f g xs ys row true put so_far one =
    ap (map f) put ∙ map-append f xs (row ∷ []) ∙ ap (λ t. t ++ f row ∷ []) so_far
    ∙ ap (λ x. map g xs ++ x ∷ []) one ∙ sym (map-append g xs (row ∷ [])) ∙ ap (map g) (sym put)
agree_on_more f g xs ys row false put so_far one =
    ap (map f) put ∙ map-append f xs [] ∙ ap (λ t. t ++ []) so_far ∙ sym (map-append g xs []) ∙ ap (map g) (sym put)

-- the labels of rows of a run are the stars of their events
pub stars_of : (es : List meaning.Event) (rows : List EventRow) (numbers : List ℕ)
    → map star_labels_of rows ≡ map (λ (r : EventRow). star_at es r.index) rows
    → map (λ (r : EventRow). r.index) rows ≡ numbers
    → flat_map star_labels_of rows ≡ flat_map (star_at es) numbers
stars_of es rows numbers stars are =
    sym (flat_map-map (λ (ls : List (List ℕ)). ls) star_labels_of rows)
    ∙ ap (flat_map (λ (ls : List (List ℕ)). ls)) stars
    ∙ flat_map-map (λ (ls : List (List ℕ)). ls) (λ (r : EventRow). star_at es r.index) rows
    ∙ sym (flat_map-map (star_at es) (λ (r : EventRow). r.index) rows)
    ∙ ap (flat_map (star_at es)) are

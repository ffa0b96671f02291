-- What events show, and whether one of them rules a property out.
use Rattle.std.proofs.Common.{◌≡◌, Bool, true, false, ◌||◌, List, [], ◌∷◌, ◌++◌, refl, ap, ◌∙◌}
use Rattle.std.specs.Prelude.{map}
use Rattle.pf_model.specs.Labels.{Label}
use Rattle.pf_model.specs.Meaning as meaning
use Rattle.pf_model.specs.Properties.{Property, some_label}
use Rattle.pf_model.specs.Reports.{view_of_event, label_of}
use Rattle.pf_model.specs.Runs.{Transition}
use Rattle.pf_model.specs.declared.report.Event.{Event}
use Rattle.pf_property.specs.Judging.{rules_out}
use Rattle.pf_property.specs.Views.{labels_in, labels_of}

-- ---- whether a label rules out

abbrev pub ruled_out : Property → List Event → Bool
ruled_out p es = some_label (rules_out p) (labels_of es)

or_false : (b : Bool) → (b || false) ≡ b
or_false true = refl
or_false false = refl

or_assoc : (a b c : Bool) → (a || (b || c)) ≡ ((a || b) || c)
or_assoc true b c = refl
or_assoc false b c = refl

-- one event more
pub one_event_more : (so : Label → Bool) (es : List meaning.Event) (e : meaning.Event)
    → some_label so (labels_in (es ++ e ∷ [])) ≡ (some_label so (labels_in es) || so e.label)
one_event_more so [] e = or_false (so e.label)
one_event_more so (d ∷ es) e =
    ap (λ b. so d.label || b) (one_event_more so es e) ∙ or_assoc (so d.label)
    (some_label so (labels_in es)) (so e.label)

-- ---- what the events of a run show is what its transitions do

pub of_events : (es : List Event) → labels_in (map view_of_event es) ≡ labels_of es
of_events [] = refl
of_events (e ∷ es) = ap (λ (ls : List Label). label_of e.label ∷ ls) (of_events es)

of_transitions : (ts : List Transition) → labels_in (map meaning.event_of_transition ts) ≡ map (λ t. t.label) ts
of_transitions [] = refl
of_transitions (t ∷ ts) = ap (λ (ls : List Label). t.label ∷ ls) (of_transitions ts)

pub labels_of_run : (es : List meaning.Event) (ts : List Transition) → es ≡ map meaning.event_of_transition ts
    → labels_in es ≡ map (λ t. t.label) ts
labels_of_run es ts e = ap labels_in e ∙ of_transitions ts

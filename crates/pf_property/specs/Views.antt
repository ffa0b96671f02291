-- What a property and the events of a run stand for.
use Rattle.std.specs.Prelude.{List, map}
use Rattle.pf_model.specs.Labels.{Label}
use Rattle.pf_model.specs.Meaning as meaning
use Rattle.pf_model.specs.Properties as spec
use Rattle.pf_model.specs.Reports.{label_of}
use Rattle.pf_model.specs.declared.report.Event.{Event}
use Rattle.pf_property.specs.declared.property.Property.{Property}
use Rattle.pf_property.specs.declared.property.Property.TheVariants as p

abbrev pub property_of : Property → spec.Property
property_of p.Returns = spec.returns
property_of p.True = spec.returns_true
property_of p.NoCrash = spec.no_crash
property_of p.NoDeadlock = spec.no_deadlock
property_of p.WithinLimit = spec.within_limit
property_of (p.Never pattern) = spec.never pattern

-- what the events show, in order
abbrev pub labels_of : List Event → List Label
labels_of es = map (λ e. label_of e.label) es

-- the same of events of the meaning
abbrev pub labels_in : List meaning.Event → List Label
labels_in es = map (λ e. e.label) es

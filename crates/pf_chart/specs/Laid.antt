-- What was laid out of the events of a run.
use Rattle.std.specs.Prelude.{ℕ, Bool, List, Option, Some, None, length, map}
use Rattle.std.specs.List.Sorted.{IsNonDecreasingBy}
use Rattle.pf_model.specs.Channels.{Signal}
use Rattle.pf_model.specs.Labels.{Label, Suffix, delivers, exits, links, monitors, sends, spawns, spawns_watched}
use Rattle.pf_model.specs.Labels.{unlinks}
use Rattle.pf_model.specs.Meaning.{Event}
use Rattle.pf_chart.specs.Origins.{process_of}
use Rattle.pf_chart.specs.Signals.{AreArrows, IsManner}
use Rattle.pf_chart.specs.Traffic.{AreWaiting, IsDelivered, Sends, kind_of, reach_of, unreported, way_of}
use Rattle.pf_chart.specs.declared.arrows.Arrow.{Arrow}
use Rattle.pf_chart.specs.declared.layout.Layout.{Layout}
use Rattle.pf_chart.specs.declared.traffic.Traffic.{Traffic}

-- who else takes part in a turn that has this label
abbrev pub other_in : Label → Option ℕ
other_in (sends p v) = Some p
other_in (exits p r) = Some p
other_in (spawns linked p) = Some p
other_in (spawns_watched p reference) = Some p
other_in (links p) = Some p
other_in (unlinks p) = Some p
other_in (monitors reference p) = Some p
other_in l = None

-- the signal that an event of this label delivers, with its suffix
abbrev pub delivery_in : Label → Option (Signal × Suffix)
delivery_in (delivers signal x) = Some (signal, x)
delivery_in l = None

-- a signal that is delivered between two columns ends, and then the receiver sends what it does
abbrev pub IsCarried : (event from to : ℕ) → Option (Signal × Suffix) → (old new : Traffic) → Type 0
IsCarried n a b None s u = Sends n b s u
IsCarried n a b (Some d) s u =
    (t : Traffic) × IsDelivered (way_of a b (kind_of d.0)) (unreported n a b (kind_of d.0) (reach_of d.1 n)) s t
    × Sends n b t u

-- the signals of the first events of a run are laid out
pub record IsLaid (es : List Event) (count : ℕ) (l : Layout) : Type 0 where
  pub by_pid : IsNonDecreasingBy (λ p. p.pid) (map process_of l.columns.items)
  pub wait : AreWaiting l.traffic
  pub arrows : AreArrows es (map process_of l.columns.items) count l.traffic.arrows.items

-- those of the whole run are, in a compact chart or in another
pub record IsLayout (es : List Event) (compact : Bool) (l : Layout) : Type 0 where
  pub by_pid : IsNonDecreasingBy (λ p. p.pid) (map process_of l.columns.items)
  pub signals : List Arrow
  pub are : AreArrows es (map process_of l.columns.items) (length es) signals
  pub manner : IsManner es compact signals l.traffic.arrows.items

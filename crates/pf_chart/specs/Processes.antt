-- The processes of a run.
use Rattle.std.specs.Prelude.{ℕ, suc, List, [], ◌∷◌, ◌++◌, Option, Some, None, option_to_list}
use Rattle.pf_model.specs.Labels.{Label, spawns, spawns_watched}
use Rattle.pf_model.specs.Meaning.{Event}
use Rattle.pf_model.specs.declared.report.Actor.{Actor}
use Rattle.pf_model.specs.declared.report.Actor.TheVariants as actors

-- a process of the run: its pid, and by whom and in which event it was spawned; the root by none
pub record Process : Type 0 where
  pub pid : ℕ
  pub spawned : Option (ℕ × ℕ)

-- who is spawned in an event of this label
abbrev pub child_in : Label → Option ℕ
child_in (spawns linked p) = Some p
child_in (spawns_watched p reference) = Some p
child_in l = None

-- the process that is spawned by this actor, in the event of this number
abbrev pub spawned_by : Actor → (child : Option ℕ) → (event : ℕ) → Option Process
spawned_by (actors.Process a) (Some p) n = Some (record { pid = p; spawned = Some (a, n) })
spawned_by x child n = None

-- those that these events spawn, of which the first has this number
abbrev pub spawned_from : (event : ℕ) → List Event → List Process
spawned_from n [] = []
spawned_from n (e ∷ es) = option_to_list (spawned_by e.actor (child_in e.label) n) ++ spawned_from (suc n) es

-- the processes of a run: the root, and those that its events spawn
abbrev pub processes_of : List Event → List Process
processes_of es = record { pid = 0; spawned = None } ∷ spawned_from 0 es

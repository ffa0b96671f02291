-- How many processes still wait at the end of a run though its root returned.
use Rattle.std.specs.Prelude.{◌≡◌, ℕ, zero, suc, ◌+◌, ◌-◌, Bool, true, false, if◌then◌else◌, List, map, length}
use Rattle.std.specs.Prelude.{count_by}
use Rattle.pf_model.specs.Labels.{Label, spawns, spawns_watched, ends, delivers, ending_with}
use Rattle.pf_model.specs.Configuration.{Configuration, is_alive}
use Rattle.pf_model.specs.Choosers.{Chooser}
use Rattle.pf_model.specs.Meaning.{Job, MeansBy, Report}
use Rattle.pf_model.specs.Module.{Module}
use Rattle.pf_model.specs.Properties.{Outcome, is_finished}
use Rattle.pf_model.specs.Runs.{Goes, Transition, is_waiting, pids_in_state, start}
use Rattle.pf_property.specs.Views.{labels_in}

-- a process begins; one that is refused shows that its spawn raises, and nothing begins
abbrev pub is_begin : Label → Bool
is_begin (spawns linked p) = true
is_begin (spawns_watched p r) = true
is_begin l = false

-- a process ends, of its own or by an exit signal
abbrev pub is_end : Label → Bool
is_end (ends r) = true
is_end (delivers s (ending_with r)) = true
is_end l = false

-- how many processes there are after what a run shows: the root and those that began, without those that ended
abbrev pub living : List Label → ℕ
living ls = suc (count_by is_begin ls) - count_by is_end ls

-- they are those that still wait where the root returned, since then nobody may go; of any other end none are reported
abbrev pub waiting_at : Outcome → List Label → ℕ
waiting_at o ls = if is_finished o then living ls else 0

-- how many processes still wait at the end of the run of a report though its root returned
abbrev pub waiting_in : Report → ℕ
waiting_in r = waiting_at r.outcome (labels_in r.events)

-- ---- the laws of these counts

-- at any point of a run, and whatever chooses, as many processes live as what it showed leaves
abbrev pub LivingIsRight : (S : Type 0) → Type 0
LivingIsRight S =
    (m : Module) (choose : Chooser S) (s : S) (n root edition : ℕ) (ts : List Transition) (d : Configuration)
    (k : ℕ) (t : S)
    → Goes m choose s n (start root edition) ts d k t
    → count_by (λ p. is_alive p.state) d.core.processes + count_by is_end (map (λ u. u.label) ts)
    ≡ suc (count_by is_begin (map (λ u. u.label) ts))

-- at the end of a run whose root returned as many processes wait as are reported
abbrev pub WaitingIsRight : (S : Type 0) → Type 0
WaitingIsRight S =
    (choose : Chooser S) (s : S) (j : Job) (r : Report) (h : MeansBy choose s j r)
    → waiting_in r ≡ (if is_finished r.outcome then length (pids_in_state is_waiting zero h.last.core.processes) else 0)

-- Roots whose seeds are hunted part by part.
use Rattle.std.specs.Prelude.{◌≡◌, ◌≤◌, ◌<◌, ℕ, Bool, true, ◌&&◌, nat_lt, is_some, if◌then◌else◌, List, Option, Some}
use Rattle.std.specs.Prelude.{None, Ok}
use Rattle.pf_model.specs.Meaning.{Report}
use Rattle.pf_sched.specs.Asked.{Asks}
use Rattle.pf_verdicts.specs.Further.{AreProperties}
use Rattle.pf_hunt.specs.Hunts.{FirstFailing}
use Rattle.pf_hunt.specs.Views.{failures_of, further_of}
use Rattle.pf_hunt.specs.Notices.{Notice, SearchNotices}
use Rattle.pf_cli.specs.Args.{HuntArgs, view_of_hunt_args}
use Rattle.pf_hunt_suite.specs.Ends.{IsLeastOfRoot, RootEnds, request_for}
use Rattle.pf_hunt_suite.specs.declared.end.RootEnd.{RootEnd}
use Rattle.pf_hunt_suite.specs.declared.hunt.RootHunt.{RootHunt}
use Rattle.pf_hunt_suite.specs.declared.stage.OpenRoot.{OpenRoot}
use Rattle.pf_hunt_suite.specs.declared.stage.RootStage.{RootStage}
use Rattle.pf_hunt_suite.specs.declared.stage.RootStage.TheVariants.{Open, Over}

-- what the hunt of a root is asked for
abbrev pub asked_of : RootHunt → HuntArgs
asked_of h = view_of_hunt_args h.args.now

-- the hunt of a root ends so
abbrev pub Ends : RootHunt → RootEnd → Type 0
Ends h e = RootEnds (asked_of h) h.root.now h.«module».now e

-- a root whose hunt is at a seed: it is one of its seeds, and no run by those before it fails
pub record IsOpen (h : RootHunt) (o : OpenRoot) : Type 0 where
  pub hunted : o.hunted ≡ h
  pub asked : Asks h.«module».now (asked_of h).edition (request_for (asked_of h) h.root.now) (Ok o.hunt.job)
  pub strategy : o.hunt.strategy ≡ (asked_of h).strategy
  pub properties : AreProperties h.«module».now.code.atoms (asked_of h).further (further_of o.hunt)
  pub leaks : o.hunt.leaks ≡ (asked_of h).leaks
  pub from : (asked_of h).seeds.0 ≤ o.next
  pub left : o.next < (asked_of h).seeds.1
  pub none : IsLeastOfRoot (asked_of h) (further_of o.hunt) o.hunt.job o.next None

-- IsStageOf h s: the hunt of a root is so far, or it is over
pub data IsStageOf (h : RootHunt) : RootStage → Type 0 where
  goes_on : (o : OpenRoot) → IsOpen h o → IsStageOf h (Open o)
  over : (e : RootEnd) → Ends h e → IsStageOf h (Over e)

-- a part of the hunt of a root leads to this stage
abbrev pub Leads : OpenRoot → RootStage → Type 0
Leads o s = (h : RootHunt) → IsOpen h o → IsStageOf h s

-- it does if of the seeds from the next to before an end the least that fails is this one, or there is none
abbrev pub LeadsBySeeds : OpenRoot → (end : ℕ) → Option (ℕ × Report) → RootStage → Type 0
LeadsBySeeds o end x s =
    (h : RootHunt) → IsOpen h o → FirstFailing (failures_of o.hunt) o.hunt.strategy o.hunt.job.asked o.next end x
    → o.next < end → end ≤ (asked_of h).seeds.1 → IsStageOf h s

-- the hunt of a root ends so, if its time is over and it has had a seed
abbrev pub EndsStopped : OpenRoot → RootEnd → Type 0
EndsStopped o e =
    (h : RootHunt) → IsOpen h o → is_some (asked_of h).time ≡ true → (asked_of h).seeds.0 < o.next → Ends h e

-- the seed from which an open root goes on
abbrev pub next_of : RootStage → Option ℕ
next_of (Open o) = Some o.next
next_of (Over e) = None

-- the end of a part that goes to before this seed, if that is past the next and before the end of all; else to that end
abbrev pub part_end : OpenRoot → (to : ℕ) → ℕ
part_end o to = if nat_lt o.next to && nat_lt to o.hunted.args.now.end then to else o.hunted.args.now.end

-- of the seeds of an open root from the next to before an end some are hunted, and an observer receives these notices
abbrev pub PartNotices : OpenRoot → (may_stop : Bool) → (end : ℕ) → List Notice → Type 0
PartNotices o may_stop end ns =
    (c : ℕ) × (x : Option (ℕ × Report)) × FirstFailing (failures_of o.hunt) o.hunt.strategy o.hunt.job.asked o.next c x
    × SearchNotices o.hunt.strategy o.hunt.job.asked may_stop o.next end c x ns

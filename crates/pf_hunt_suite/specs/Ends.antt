-- The result of the hunt of a root.
use Rattle.std.specs.Prelude.{◌≡◌, ◌<◌, ℕ, ◌-◌, true, is_some, List, Option, Some, None, Ok, Err}
use Rattle.pf_errors.specs.declared.code.Code.{Code}
use Rattle.pf_errors.specs.declared.code.Code.TheVariants.{NoProperty}
use Rattle.pf_model.specs.Meaning.{Report}
use Rattle.pf_check.specs.Module.{ReadModule}
use Rattle.pf_request.specs.Request.{Request}
use Rattle.pf_request.specs.Job.{Job}
use Rattle.pf_sched.specs.Asked.{Asks}
use Rattle.pf_model.specs.Properties.{Property}
use Rattle.pf_verdicts.specs.Causes.{cause_of}
use Rattle.pf_verdicts.specs.Further.{AreNone, AreProperties}
use Rattle.pf_hunt.specs.Hunts.{Failures, FirstFailing}
use Rattle.pf_cli.specs.Args.{HuntArgs}
use Rattle.pf_hunt_suite.specs.declared.end.RootEnd.{RootEnd}
use Rattle.pf_hunt_suite.specs.declared.end.RootEnd.TheVariants.{Fails, NoFailure, Stopped, Refused}

-- what fails a run besides the property of the request, by these further ones
abbrev pub failures_by : HuntArgs → List Property → Failures
failures_by h ps = record { further = ps; leaks = h.leaks }

-- what is asked for of each root: the request of the hunt, from it on
abbrev pub request_for : HuntArgs → (root : List ℕ) → Request
request_for h root = record h.request { root = root }

-- of the seeds of a hunt from its first to before an end the least by which a job fails, or one of these further
-- properties, where leaks may be failures too, with the report of its run; or none
abbrev pub IsLeastOfRoot : HuntArgs → List Property → Job → (end : ℕ) → Option (ℕ × Report) → Type 0
IsLeastOfRoot h ps j end = FirstFailing (failures_by h ps) h.strategy j.asked h.seeds.0 end

-- JobEnds h ps j e: the hunt over the seeds of a job ends so
pub data JobEnds (h : HuntArgs) (ps : List Property) (j : Job) : RootEnd → Type 0 where
  -- the run by this seed fails, for this, and by none before
  fails : (s : ℕ) (r : Report) → IsLeastOfRoot h ps j h.seeds.1 (Some (s, r)) → JobEnds h ps j (Fails s (cause_of ps r))
  -- no run fails
  none_fails : IsLeastOfRoot h ps j h.seeds.1 None → JobEnds h ps j (NoFailure (h.seeds.1 - h.seeds.0))
  -- nor any of the runs that there was time for, of which there is one
  stopped : (c : ℕ) → is_some h.time ≡ true → h.seeds.0 < c → c < h.seeds.1 → IsLeastOfRoot h ps j c None
      → JobEnds h ps j (Stopped (c - h.seeds.0))

-- RootEnds h root m e: the hunt of this root of a module ends so
pub data RootEnds (h : HuntArgs) (root : List ℕ) (m : ReadModule) : RootEnd → Type 0 where
  -- what is asked for is refused
  refused : (code : Code) → Asks m h.edition (request_for h root) (Err code) → RootEnds h root m (Refused code)
  -- or a further text is no property
  no_property : (j : Job) → Asks m h.edition (request_for h root) (Ok j) → AreNone m.code.atoms h.further
      → RootEnds h root m (Refused NoProperty)
  -- its job is hunted, with the further properties
  hunted : (j : Job) (ps : List Property) (e : RootEnd) → Asks m h.edition (request_for h root) (Ok j)
      → AreProperties m.code.atoms h.further ps → JobEnds h ps j e → RootEnds h root m e

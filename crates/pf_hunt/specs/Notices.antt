-- Notices: what the observer of a hunt receives, and what it answers.
use Rattle.std.specs.Prelude.{◌≡◌, ◌<◌, ◌≤◌, ◌-◌, ℕ, Bool, true, false, List, [], ◌∷◌, ◌++◌, Option, Some, None}
use Rattle.pf_model.specs.Meaning.{Job, Report}
use Rattle.pf_strategy.specs.declared.strategy.Strategy.{Strategy}
use Rattle.pf_hunt.specs.Hunts.{FirstLeaking, Tallies, looked_to}
use Rattle.pf_hunt.specs.Rows.{OutcomeRow, failures_in}
use Rattle.pf_hunt.specs.declared.pace.Pace.{Pace}
use Rattle.pf_hunt.specs.declared.pace.Pace.TheVariants.{Longer, Same, Stop}

-- so many seeds were run so far, of which so many failed, and the observer answered how the hunt goes on; or this seed
-- is the least that leaks, by so many processes
pub data Notice : Type 0 where
  seeds_run : (done failures : ℕ) → (answer : Pace) → Notice
  leaked : (seed processes : ℕ) → Notice

-- an observer received these notices, after all that it had received before
abbrev pub Hears : {T : Type 0} (Heard : T → List Notice → Type 0) → T → List Notice → T → Type 0
Hears Heard old more new = (before : List Notice) → Heard old before → Heard new (before ++ more)

-- it received notices that are so
abbrev pub HearsSome : {T : Type 0} (Heard : T → List Notice → Type 0) → T → (so : List Notice → Type 0) → T → Type 0
HearsSome Heard old so new = (more : List Notice) × so more × Hears Heard old more new

-- ---- how far a hunt got

-- whether an answer ends a hunt that has seeds left
abbrev pub stops : (may_stop : Bool) → (answer : Pace) → Bool
stops may_stop Stop = may_stop
stops may_stop Longer = false
stops may_stop Same = false

-- HuntGoesOn has may_stop a b c notices: of the seeds from a to before b those to before c were run, block by block.
-- After each block the observer was notified of how many were run in all and that the hunt has so many failures, and no
-- answer ended the hunt
pub data HuntGoesOn (has : (c failures : ℕ) → Type 0) (may_stop : Bool) (a b : ℕ) : (c : ℕ) → List Notice → Type 0 where
  begins : HuntGoesOn has may_stop a b a []
  and_block : (c d n : ℕ) (p : Pace) (ns : List Notice) → HuntGoesOn has may_stop a b c ns → c < d → d ≤ b → has d n
      → (d < b → stops may_stop p ≡ false)
      → HuntGoesOn has may_stop a b d (ns ++ seeds_run (d - a) n p ∷ [])

-- EndsHunt has may_stop a b c notices: so the hunt ended before c: at its end, or after the block at which the observer
-- answered that it stops
pub data EndsHunt (has : (c failures : ℕ) → Type 0) (may_stop : Bool) (a b : ℕ) : (c : ℕ) → List Notice → Type 0 where
  at_end : (c : ℕ) (ns : List Notice) → HuntGoesOn has may_stop a b c ns → b ≤ c → EndsHunt has may_stop a b b ns
  stopped : (c d n : ℕ) (p : Pace) (ns : List Notice) → HuntGoesOn has may_stop a b c ns → c < d → d < b → has d n
      → stops may_stop p ≡ true
      → EndsHunt has may_stop a b d (ns ++ seeds_run (d - a) n p ∷ [])

-- ---- the least seed that fails

abbrev pub has_none : (c failures : ℕ) → Type 0
has_none c n = n ≡ 0

-- Searches may_stop a b c x notices: so a hunt for the least seed that fails went to before c and found x: none; or
-- one, which ends it after its block
pub data Searches (may_stop : Bool) (a b : ℕ) : (c : ℕ) → Option (ℕ × Report) → List Notice → Type 0 where
  found_none : (c : ℕ) (ns : List Notice) → EndsHunt has_none may_stop a b c ns → Searches may_stop a b c None ns
  found : (c d s : ℕ) (r : Report) (p : Pace) (ns : List Notice) → HuntGoesOn has_none may_stop a b c ns → c ≤ s
      → s < d → d ≤ b
      → Searches may_stop a b b (Some (s, r)) (ns ++ seeds_run (d - a) 1 p ∷ [])

-- the notice of a leak, if there is one
abbrev pub leak_notice : Option (ℕ × ℕ) → List Notice
leak_notice None = []
leak_notice (Some l) = leaked l.0 l.1 ∷ []

-- all notices of such a hunt: how far it got, and then the least leak of the seeds that were looked at
abbrev pub SearchNotices : Strategy → Job → (may_stop : Bool) → (a b c : ℕ) → Option (ℕ × Report) → List Notice → Type 0
SearchNotices w j may_stop a b c x ns =
    (blocks : List Notice) × (l : Option (ℕ × ℕ)) × Searches may_stop a b c x blocks × FirstLeaking w j a
    (looked_to c x) l × (ns ≡ blocks ++ leak_notice l)

-- ---- each outcome

-- of the runs by the seeds from a to before c so many fail their property
abbrev pub HasFailures : Strategy → Job → (a c failures : ℕ) → Type 0
HasFailures w j a c n = (rows : List OutcomeRow) × Tallies w j a c rows × (n ≡ failures_in rows)

-- all notices of a hunt for each outcome: how far it got, and then the least leak
abbrev pub TallyNotices : Strategy → Job → (may_stop : Bool) → (a b c : ℕ) → List Notice → Type 0
TallyNotices w j may_stop a b c ns =
    (blocks : List Notice) × (l : Option (ℕ × ℕ)) × EndsHunt (HasFailures w j a) may_stop a b c blocks
    × FirstLeaking w j a c l × (ns ≡ blocks ++ leak_notice l)

-- ---- cut off

-- the notices of a hunt that memory cut off: how far it got
abbrev pub CutNotices : (has : (c failures : ℕ) → Type 0) → (may_stop : Bool) → (a b : ℕ) → List Notice → Type 0
CutNotices has may_stop a b ns = (c : ℕ) × HuntGoesOn has may_stop a b c ns

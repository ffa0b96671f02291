-- What a client waits for.
use Rattle.std.specs.Prelude.{⊤, Bool, true, false, not, ◌&&◌, Option, Some, None}
use Rattle.pf_desks.specs.declared.stage.TrialStage.{TrialStage}
use Rattle.pf_desks.specs.declared.stage.TrialStage.TheVariants.{Queued, Running, Done}

-- the trial is queued or running
abbrev pub is_undone : Option TrialStage → Bool
is_undone None = false
is_undone (Some Queued) = true
is_undone (Some Running) = true
is_undone (Some Done) = false

-- a client waits while its trial is queued or running and the farm goes on
abbrev pub must_wait : Option TrialStage → (stops : Bool) → Bool
must_wait s stops = not stops && is_undone s

-- the trial is done, or isn't held
abbrev pub IsTrialOver : Option TrialStage → Type 0
IsTrialOver None = ⊤
IsTrialOver (Some Queued) = ⊥
IsTrialOver (Some Running) = ⊥
IsTrialOver (Some Done) = ⊤

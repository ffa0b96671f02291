-- Where allocations fail in a world.
use Rattle.std.specs.Prelude.{◌≡◌, IsSome, List, [], ◌∷◌, Option, Some, None, slice_get, slice_set}
use Rattle.std.specs.Option.{option_flatten, option_map}
use Rattle.pf_desks.specs.declared.mark.FileMark.TheVariants.{Memory}
use Rattle.pf_desks.specs.Calls.{HasRoom}
use Rattle.pf_desks.specs.Desks.{desk_at}
use Rattle.pf_world.specs.World.{RunProfile, over, ClaimedRun, World}
use Rattle.pf_world.specs.Chores.{Response}
use Rattle.pf_request.specs.declared.step.Chore.{Chore}
use Rattle.pf_request.specs.declared.step.Chore.TheVariants.{Claim, Slice, Park}
use Rattle.pf_world.specs.Steps.{WorldStep, client_calls, worker_does, effect_of, take_step}

-- claims, slices and parkings may take memory; all other chores look, move or give up what is there
abbrev pub MayTakeMemory : Chore → Type 0
MayTakeMemory Claim = Unit {0}
MayTakeMemory (Slice n) = Unit {0}
MayTakeMemory Park = Unit {0}
MayTakeMemory k = ⊥

-- an allocation may fail in a call for which the log has room, and in a chore that can be done and may take memory
abbrev pub MayBeRefused : RunProfile → World → WorldStep → Type 0
MayBeRefused p s (client_calls q c) = HasRoom (desk_at q s.desks)
MayBeRefused p s (worker_does w q t k) = MayTakeMemory k × IsSome (effect_of p s w q t k)

-- a run in which an allocation failed is over
abbrev pub out_of_memory : ClaimedRun → ClaimedRun
out_of_memory r = record r { progress = over Memory }

-- the world after a step in which an allocation failed: a run that was sliced is over, and all else is as it was
abbrev pub refused_in : World → WorldStep → World
refused_in s (worker_does w q t (Slice n)) =
    record s { hands = slice_set s.hands w (option_map out_of_memory (option_flatten (slice_get s.hands w))) }
refused_in s x = s

-- RespondsTo p s x a s': in a world a step is answered so, and leads to a world; if an allocation failed, nothing
-- is answered
abbrev pub RespondsTo : RunProfile → World → WorldStep → Option Response → World → Type 0
RespondsTo p s x (Some a) s' = ◌≡◌ {A = World × Response} (take_step p s x) (s', a)
RespondsTo p s x None s' = MayBeRefused p s x × (s' ≡ refused_in s x)

-- RespondsInTurn p s xs ans s': in a world some steps are answered in turn, and lead to a world
abbrev pub RespondsInTurn : RunProfile → World → List WorldStep → List (Option Response) → World → Type 0
RespondsInTurn p s [] [] s' = s' ≡ s
RespondsInTurn p s [] (a ∷ ans) s' = ⊥
RespondsInTurn p s (x ∷ xs) [] s' = ⊥
RespondsInTurn p s (x ∷ xs) (a ∷ ans) s' = (k : World) × RespondsTo p s x a k × RespondsInTurn p k xs ans s'

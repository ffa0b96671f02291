-- The steps of a world: what clients and workers do, one after the other, and what is answered.
use Rattle.std.specs.Prelude.{ℕ, Bool, false, ◌==◌, if◌then◌else◌, List, [], ◌∷◌, Option, Some, None, slice_get}
use Rattle.std.specs.Prelude.{slice_set}
use Rattle.pf_request.specs.Calls.{Call}
use Rattle.pf_desks.specs.Desks.{Desks, Answer, not_now, client, desk_at, worked, step}
use Rattle.pf_world.specs.World.{RunProfile, Hand, Deque, World, new_world}
use Rattle.pf_world.specs.Chores.{Response, answer, Effect, chore_effect}
use Rattle.pf_request.specs.declared.step.Chore.{Chore}
use Rattle.pf_request.specs.declared.step.Chore.TheVariants.{Steal}

-- a client of a project makes a call, or a worker does a chore about the trial of a project's ticket
pub data WorldStep : Type 0 where
  client_calls : (project : ℕ) → Call → WorldStep
  worker_does : (worker project ticket : ℕ) → Chore → WorldStep

-- ---- chores in a world

-- whose deque a worker looks at: another's if it steals, else its own
abbrev pub deque_owner : (worker : ℕ) → Chore → ℕ
deque_owner w (Steal v) = v
deque_owner w k = w

-- nobody steals from itself
abbrev pub is_theft_of_own : (worker : ℕ) → Chore → Bool
is_theft_of_own w (Steal v) = v == w
is_theft_of_own w k = false

-- what a chore leaves, if there are such workers and it can be done
abbrev pub effect_among : RunProfile → Desks → (project ticket : ℕ) → Chore → Option Hand → Option Deque → Option Effect
effect_among p ds q t k (Some h) (Some rs) = chore_effect p q t k (desk_at q ds) h rs
effect_among p ds q t k h rs = None

-- what a worker's chore leaves, if it can be done in a world
abbrev pub effect_of : RunProfile → World → (worker project ticket : ℕ) → Chore → Option Effect
effect_of p s w q t k =
    if is_theft_of_own w k
    then None
    else effect_among p s.desks q t k (slice_get s.hands w) (slice_get s.deques (deque_owner w k))

-- the deques, with that of one worker if it changes
abbrev pub with_deque : (owner : ℕ) → Option Deque → List Deque → List Deque
with_deque v (Some rs) ks = slice_set ks v rs
with_deque v None ks = ks

-- the world after a worker's chore; a chore that can't be done leaves all as it was
abbrev pub with_effect : World → (worker owner project : ℕ) → Option Effect → World × Response
with_effect s w v q (Some e) = (
  record {
    desks = (worked q s.desks e.desk).0;
    hands = slice_set s.hands w e.hand;
    deques =
        with_deque v e.deque s.deques;
  },
  e.response,
)
with_effect s w v q None = (s, answer not_now)

-- ---- steps

-- the result by desks alone, in a world whose workers do nothing
abbrev pub by_desks : World → Desks × Answer → World × Response
by_desks s x = (record s { desks = x.0 }, answer x.1)

-- a call is answered by its project's desk, and a worker's chore is done, or stray, or can't be done now
abbrev pub take_step : RunProfile → World → WorldStep → World × Response
take_step p s (client_calls q c) = by_desks s (step p.profile s.desks (client q c))
take_step p s (worker_does w q t k) = with_effect s w (deque_owner w k) q (effect_of p s w q t k)

-- what is answered to some steps, one after the other
abbrev pub responses : RunProfile → World → List WorldStep → List Response
responses p s [] = []
responses p s (x ∷ xs) = (take_step p s x).1 ∷ responses p (take_step p s x).0 xs

-- what is answered to all steps, in a new world of n workers
abbrev pub all_responses : RunProfile → (workers : ℕ) → List WorldStep → List Response
all_responses p n xs = responses p (new_world n) xs

-- Priorities: of those who may go the one with the highest goes. Each keeps its priority while it may go, and draws a
-- new one after each time that it went. Whoever may go is known by a key, and all are in the order of their keys.
use Rattle.std.specs.Prelude.{ℕ, suc, nat_eq, nat_lt, if◌then◌else◌, List, [], ◌∷◌}
use Rattle.std.specs.List.{remove}
use Rattle.rand_core.specs.Pcg32Seed.{pcg32_seed}
use Rattle.rand_pcg.specs.Pcg.{pcg32_of_seed}
use Rattle.rand_pcg.specs.Lcg.{Lcg}
use Rattle.pf_strategy.specs.declared.priorities.HeldPriority.{HeldPriority}
use Rattle.pf_strategy.specs.declared.priorities.Priorities.{Priorities}

-- the priority of a key
abbrev pub held : (key priority : ℕ) → HeldPriority
held k p = record { key = k; priority = p }

-- what is known between two choices: the generator of the priorities, and those that are held
pub record PriorityState (G : Type 0) : Type 0 where
  pub generator : G
  pub held : List HeldPriority

-- those that are held from this key on
abbrev pub from_key : ℕ → List HeldPriority → List HeldPriority
from_key k [] = []
from_key k (h ∷ hs) = if nat_lt h.key k then from_key k hs else h ∷ hs

-- what one who may go is given: its priority, the generator after it, and those that others hold after it
pub record Given (G : Type 0) : Type 0 where
  pub priority : ℕ
  pub generator : G
  pub rest : List HeldPriority

-- a word that is drawn
abbrev pub drawn : {G : Type 0} → ℕ × G → List HeldPriority → Given G
drawn d hs = record { priority = d.0; generator = d.1; rest = hs }

-- one is before others
abbrev pub with_front : {G : Type 0} → HeldPriority → PriorityState G → PriorityState G
with_front h s = record { generator = s.generator; held = h ∷ s.held }

-- the index of the first of the highest priorities: from index i on, where the highest so far is at index `best`
abbrev pub highest_from : (i best highest : ℕ) → List HeldPriority → ℕ
highest_from i best p [] = best
highest_from i best p (h ∷ hs) = if nat_lt p h.priority then highest_from (suc i) i h.priority hs
    else highest_from (suc i) best p hs

abbrev pub highest : List HeldPriority → ℕ
highest hs = highest_from 0 0 0 hs

-- the one who goes holds no priority afterwards
abbrev pub without_highest : {G : Type 0} → PriorityState G → PriorityState G
without_highest s = record s { held = remove s.held (highest s.held) }

module _ {G : Type 0} (step : G → ℕ × G) where
  -- the priority that it holds, if the first that is held is its own; else the next word
  abbrev pub given_from : (key : ℕ) → G → List HeldPriority → Given G
  given_from k g [] = drawn (step g) []
  given_from k g (h ∷ hs) = if nat_eq h.key k then (record { priority = h.priority; generator = g; rest = hs })
      else drawn (step g) (h ∷ hs)

  abbrev pub given : (key : ℕ) → G → List HeldPriority → Given G
  given k g hs = given_from k g (from_key k hs)

  -- all who may go with their priorities; what others held is gone
  abbrev pub all_given : (keys : List ℕ) → G → List HeldPriority → PriorityState G
  all_given [] g hs = record { generator = g; held = [] }
  all_given (k ∷ ks) g hs = with_front (held k (given k g hs).priority)
      (all_given ks (given k g hs).generator (given k g hs).rest)

  -- among those of these keys: the index of the one who goes, and what is known then
  abbrev pub choice : PriorityState G → List ℕ → ℕ × PriorityState G
  choice s ks = let all = all_given ks s.generator s.held in (highest all.held, without_highest all)

-- what is known before the first choice by a seed
abbrev pub first : ℕ → PriorityState Lcg
first seed = record { generator = pcg32_of_seed (pcg32_seed 16 seed); held = [] }

-- what the code's own priorities stand for: the one who went last holds none
abbrev pub state_of : Priorities → PriorityState Lcg
state_of p = record { generator = p.generator; held = remove p.held.items p.gone }

-- the same where nobody's priority is spent
abbrev pub all_held : Priorities → PriorityState Lcg
all_held p = record { generator = p.generator; held = p.held.items }

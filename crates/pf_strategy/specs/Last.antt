-- The last process: it is chosen, and a signal of its own to itself, only where nobody else may go.
use Rattle.std.specs.Prelude.{ℕ, zero, suc, ◌+◌, ◌==◌, ◌&&◌, not, Bool, true, false, if◌then◌else◌, nat_lt, List}
use Rattle.std.specs.Prelude.{[], ◌∷◌, ◌++◌, Option, Some, None, filter, length, map}
use Rattle.pf_model.specs.Choosers.{Chooser}

-- a process is another than the last
abbrev pub is_other : (last pid : ℕ) → Bool
is_other p a = not (a == p)

-- a channel is another than that from the last process to itself
abbrev pub is_other_channel : (last : ℕ) → (channel : ℕ × ℕ) → Bool
is_other_channel p h = not (h.0 == p && h.1 == p)

-- whether each of those who may go is another, processes first
abbrev pub are_others : (last : ℕ) → (pids : List ℕ) → (channels : List (ℕ × ℕ)) → List Bool
are_others p pids channels = map (is_other p) pids ++ map (is_other_channel p) channels

-- the place of number i, from 0 on, of those that are marked
abbrev pub place : (i : ℕ) → (marks : List Bool) → ℕ
place i [] = zero
place i (false ∷ bs) = suc (place i bs)
place zero (true ∷ bs) = zero
place (suc i) (true ∷ bs) = suc (place i bs)

module _ {S : Type 0} (last : ℕ) (choose : Chooser S) where
  -- the choice among the others, by its place among all
  abbrev pub choose_other : Chooser S
  choose_other s pids channels =
      let c = choose s (filter (is_other last) pids) (filter (is_other_channel last) channels) in
      (place c.0 (are_others last pids channels), c.1)

  -- it chooses among the others, and where there are none among all
  abbrev pub keep_last : Chooser S
  keep_last s pids channels =
      if nat_lt 0 (length (filter (is_other last) pids) + length (filter (is_other_channel last) channels))
      then choose_other s pids channels else choose s pids channels

-- the chooser that keeps a process last, where one is named
abbrev pub keep_named : {S : Type 0} → (last : Option ℕ) → Chooser S → Chooser S
keep_named None choose = choose
keep_named (Some p) choose = keep_last p choose

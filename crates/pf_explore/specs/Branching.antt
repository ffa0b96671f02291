-- Which schedule comes after a run: the one that leaves the run as late as it can, by a later choice in one's place.
use Rattle.std.specs.Prelude.{◌≡◌, ℕ, zero, suc, ◌+◌, ◌-◌, ◌==◌, nat_lt, Bool, false, ◌||◌, ◌&&◌, if◌then◌else◌}
use Rattle.std.specs.Prelude.{List, []}
use Rattle.std.specs.Prelude.{◌∷◌, ◌++◌, map, take, Some, None, MatchOption}
use Rattle.pf_strategy.specs.declared.noted.ChoicePoint.{ChoicePoint}
use Rattle.pf_explore.specs.declared.branch.Seen.{Seen}
use Rattle.pf_explore.specs.declared.branch.Next.{Next}

-- after the one that was chosen there is another who might be
abbrev pub may_branch : ChoicePoint → Bool
may_branch e = nat_lt e.choice (e.count - 1)

-- no choice, with so many deviations left
abbrev pub none_seen : ℕ → Seen
none_seen room = record { room = room; branch = None; left_out = false }

-- one choice more, of this index
abbrev pub seen : Seen → ℕ → ChoicePoint → Seen
seen s i e =
    record {
      room = if e.choice == 0 then s.room else s.room - 1;
      branch =
          if may_branch e then (if s.room == 0 then s.branch else Some (i, e.choice + 1)) else s.branch;
      left_out = s.left_out || (may_branch e && s.room == 0);
    }

-- these choices more, the first of this index
abbrev pub seen_all : Seen → ℕ → List ChoicePoint → Seen
seen_all s i [] = s
seen_all s i (e ∷ es) = seen_all (seen s i e) (suc i) es

-- the choices before one, and then another
abbrev pub deviating : List ChoicePoint → (index choice : ℕ) → List ℕ
deviating es i n = take i (map (λ e. e.choice) es) ++ n ∷ []

-- the schedule after a run by these choices among those that deviate at most so often: by the last branch, if there is
-- one; and whether one is left out
abbrev pub IsNext : (most : ℕ) → List ChoicePoint → Next → Type 0
IsNext most es next =
    (next.left_out ≡ (seen_all (none_seen most) zero es).left_out)
    × MatchOption next.schedule ((seen_all (none_seen most) zero es).branch ≡ None)
    (λ ns. (b : ℕ × ℕ) × ((seen_all (none_seen most) zero es).branch ≡ Some b) × (ns.items ≡ deviating es b.0 b.1))

-- Searches: which schedule is run next, what an answer makes of a search, and what it finds.
use Rattle.std.specs.Prelude.{◌≡◌, ℕ, zero, suc, Bool, true, false, if◌then◌else◌, List, [], ◌∷◌, Option, Some, None}
use Rattle.pf_model.specs.Shrinking.{candidates, Found, found, search, shrunk}
use Rattle.pf_model.specs.Laws.{IsSmaller}

-- a search, with n runs after that of the next schedule: before the run of the given schedule; within a search from a
-- schedule that fails, before the run of a candidate, with others left after it; or at its end, with what it found
pub data Hunting : Type 0 where
  begins : (further : ℕ) (schedule : List ℕ) → Hunting
  searches : (further : ℕ) (schedule candidate : List ℕ) (others : List (List ℕ)) → Hunting
  ended : Option Found → Hunting

-- a search from a schedule that fails, with these candidates of it left and n runs
abbrev pub searching : (runs : ℕ) (schedule : List ℕ) (left : List (List ℕ)) → Hunting
searching k ns [] = ended (Some (found ns true))
searching zero ns (c ∷ cs) = ended (Some (found ns false))
searching (suc k) ns (c ∷ cs) = searches k ns c cs

-- the schedule that is to be run next
abbrev pub next_of : Hunting → Option (List ℕ)
next_of (begins k ns) = Some ns
next_of (searches k ns c cs) = Some c
next_of (ended f) = None

-- after the answer whether it fails
abbrev pub after_answer : (fails : Bool) → Hunting → Hunting
after_answer b (begins k ns) = if b then searching k ns (candidates ns) else ended None
after_answer b (searches k ns c cs) = if b then searching k c (candidates c) else searching k ns cs
after_answer b (ended f) = ended f

-- what has been found
abbrev pub found_of : Hunting → Option Found
found_of (begins k ns) = None
found_of (searches k ns c cs) = None
found_of (ended f) = f

-- a candidate that is to be run is shorter than the schedule that it may take the place of, or as long with a smaller
-- sum
abbrev pub NextIsSmaller : Hunting → Type 0
NextIsSmaller (begins k ns) = Unit {0}
NextIsSmaller (searches k ns c cs) = IsSmaller c ns
NextIsSmaller (ended f) = Unit {0}

-- what a search finds in the end, where this function says which schedules fail
abbrev pub search_result : (List ℕ → Bool) → Hunting → Option Found
search_result fails (begins k ns) = shrunk fails (suc k) ns
search_result fails (searches k ns c cs) = Some (search fails (suc k) ns (c ∷ cs))
search_result fails (ended f) = f

-- an answer is that of this function
abbrev pub IsAnswerOf : (List ℕ → Bool) → (fails : Bool) → Hunting → Type 0
IsAnswerOf fails b h = (ns : List ℕ) → next_of h ≡ Some ns → fails ns ≡ b

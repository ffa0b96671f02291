-- The schedules that are run, in their order.
use Rattle.std.specs.Prelude.{◌≡◌, ◌↔◌, ℕ, zero, suc, Bool, if◌then◌else◌, List, [], ◌∷◌, Some, None}
use Rattle.pf_model.specs.Shrinking.{candidates}
use Rattle.pf_shrink.specs.Hunts.{Hunting, begins, searches, ended, next_of, after_answer}

-- the candidates that a search runs until it ends
abbrev pub tried_of_search : (List ℕ → Bool) → (runs : ℕ) → List (List ℕ) → List (List ℕ)
tried_of_search fails zero cs = []
tried_of_search fails (suc k) [] = []
tried_of_search fails (suc k) (c ∷ cs) = c ∷ (if fails c then tried_of_search fails k (candidates c)
    else tried_of_search fails k cs)

-- the schedules that the shrinking of one runs: the given one first, then candidates until it ends
abbrev pub tried : (List ℕ → Bool) → (runs : ℕ) → List ℕ → List (List ℕ)
tried fails zero ns = []
tried fails (suc k) ns = ns ∷ (if fails ns then tried_of_search fails k (candidates ns) else [])

-- those that a search runs from here on
abbrev pub tried_from : (List ℕ → Bool) → Hunting → List (List ℕ)
tried_from fails (begins k ns) = tried fails (suc k) ns
tried_from fails (searches k ns c cs) = tried_of_search fails (suc k) (c ∷ cs)
tried_from fails (ended f) = []

-- the next of a search is the first of them, and a true answer leaves the others; there are none exactly where there is
-- no next
pub record TriesInOrder (fails : List ℕ → Bool) (h : Hunting) : Type 0 where
  pub first : (ns : List ℕ) → next_of h ≡ Some ns
      → tried_from fails h ≡ ns ∷ tried_from fails (after_answer (fails ns) h)
  pub none : (next_of h ≡ None) ↔ (tried_from fails h ≡ [])

-- What the history of a desk says of claims.
use Rattle.std.specs.Prelude.{◌≡◌, ℕ, ◌==◌, Bool, false, List, [], ◌∷◌, ◌++◌}
use Rattle.pf_request.specs.Calls.{drop_trial}
use Rattle.pf_desks.specs.Desk.{Entry, called, claimed, filed, handed_back, given_up}
use Rattle.pf_farm_laws.specs.Tally.{tally}

-- the trial of a ticket was claimed
abbrev pub is_claim : ℕ → Entry → Bool
is_claim t (called c r) = false
is_claim t (claimed u) = u == t
is_claim t (filed u m) = false
is_claim t (handed_back u) = false

-- the result of the trial of a ticket was filed
abbrev pub is_file : ℕ → Entry → Bool
is_file t (called c r) = false
is_file t (claimed u) = false
is_file t (filed u m) = u == t
is_file t (handed_back u) = false

-- the trial of a ticket was handed back
abbrev pub is_hand_back : ℕ → Entry → Bool
is_hand_back t (called c r) = false
is_hand_back t (claimed u) = false
is_hand_back t (filed u m) = false
is_hand_back t (handed_back u) = u == t

-- the tickets whose trials were claimed, in order
abbrev pub claims_noted : List Entry → List ℕ
claims_noted [] = []
claims_noted (called c r ∷ es) = claims_noted es
claims_noted (claimed t ∷ es) = t ∷ claims_noted es
claims_noted (filed t m ∷ es) = claims_noted es
claims_noted (handed_back t ∷ es) = claims_noted es

-- the trial of a ticket was dropped, after all its claims
abbrev pub IsDropped : ℕ → List Entry → Type 0
IsDropped t es =
    (before : List Entry) × (after : List Entry)
    × (es ≡ before ++ called (drop_trial t) given_up ∷ after) × (tally (is_claim t) after ≡ 0)

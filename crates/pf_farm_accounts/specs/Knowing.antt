-- What the holders of a register know, and how they learn it.
use Rattle.std.specs.Prelude.{ℕ, ◌+◌, ◌≡◌, Bool, true, false, List, [], ◌∷◌, ◌++◌, length, Option, None, Some}
use mathlib.Core.Option.{some}
use lib.ListN.{get_elem?}
use Rattle.pf_farm_accounts.specs.declared.knowledge.Knowledge.{Knowledge}
use Rattle.pf_farm_accounts.specs.Places.{weigh, weigh_below, StartsWith}

module _ {T : Type 0} where
  abbrev pub knowledge : Bool → List T → List ℕ → List ℕ → List T → Knowledge T
  knowledge is_register entries returned borne seen =
      record { is_register = is_register; entries = entries; returned = returned; borne = borne; seen = seen }

  -- what a register knows that has no entry
  abbrev pub first_knowledge : Knowledge T
  first_knowledge = knowledge true [] [] [] []

  -- what a token knows that bears nothing and has seen nothing
  abbrev pub no_knowledge : Knowledge T
  no_knowledge = knowledge false [] [] [] []

  -- ---- steps

  -- an entry is entered, at the next place
  abbrev pub with_entry : Knowledge T → Option T → Knowledge T
  with_entry v None = v
  with_entry v (Some x) = knowledge v.is_register (v.entries ++ x ∷ []) v.returned
      (v.borne ++ length v.entries ∷ []) v.seen

  -- a token is lent to the register
  abbrev pub lent : Knowledge T → Knowledge T → Knowledge T
  lent v token = knowledge v.is_register v.entries v.returned (token.borne ++ v.borne) token.seen

  -- a token comes back for good
  abbrev pub returned : Knowledge T → Knowledge T → Knowledge T
  returned v token = knowledge v.is_register v.entries (v.returned ++ token.borne) v.borne token.seen

  -- a token is handed out: what is left to the register, and what goes with the token
  abbrev pub without_places : Knowledge T → Knowledge T
  without_places v = knowledge v.is_register v.entries v.returned [] []

  abbrev pub with_all_seen : Knowledge T → Knowledge T
  with_all_seen v = knowledge false [] [] v.borne v.entries

  -- ---- the rule

  -- what the places weigh that a holder bears, or has back
  abbrev pub weight : (ℕ → ℕ) → Knowledge T → ℕ
  weight h v = weigh h v.returned + weigh h v.borne

  abbrev pub total : (Knowledge T → ℕ) → List (Knowledge T) → ℕ
  total f [] = 0
  total f (v ∷ vs) = f v + total f vs

  -- one holder at most is the register and knows the entries, and what anybody saw is how they begin
  abbrev pub Knows : (register : ℕ) → List T → ℕ → Knowledge T → Type 0
  Knows register entries holder v =
      (v.is_register ≡ true → (holder ≡ register) × (v.entries ≡ entries)) × StartsWith entries v.seen

  -- each place of an entry is borne once
  abbrev pub IsBorneOnce : List (Unit {0}) → List (Knowledge T) → Type 0
  IsBorneOnce items holders =
      (register : ℕ) × (entries : List T)
      × ((h : ℕ → ℕ) → total (weight h) holders ≡ weigh_below h (length entries))
      × ((holder : ℕ) (v : Knowledge T) → get_elem? holders holder ≡ some v → Knows register entries holder v)

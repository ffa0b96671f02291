-- What was pushed is what was popped and what was stolen, each in its order, and then what the deque holds.
use Rattle.std.specs.Prelude.{ℕ, zero, suc, ◌≡◌, ◌⊎◌, Bool, true, false, List, [], ◌∷◌, ◌++◌, map, Option, Some, None}
use mathlib.Core.Option.{some}
use lib.ListN.{get_elem?}
use Rattle.pf_farm_accounts.specs.declared.deque_part.HolderPart.{HolderPart}

module _ {T : Type 0} where
  -- each item of these went left or right, in order: so both are what they were, each as often
  abbrev pub IsDealt : (items left right : List T) → Type 0
  IsDealt [] left right = (left ≡ []) × (right ≡ [])
  IsDealt (x ∷ xs) left right =
      ((rest : List T) × (left ≡ x ∷ rest) × IsDealt xs rest right)
      ⊎ ((rest : List T) × (right ≡ x ∷ rest) × IsDealt xs left rest)

  -- ---- what a deque holds

  abbrev pub marks : ℕ → List (Option T)
  marks zero = []
  marks (suc n) = None ∷ marks n

  -- items, and after them marks, which are its owner's alone
  abbrev pub entries : List T → ℕ → List (Option T)
  entries items n = map Some items ++ marks n

  -- ---- what its owner learns

  -- the deque was found empty: all that was pushed was popped or stolen, and where the owner is the thief too, this was
  -- stolen
  abbrev pub IsFoundEmpty : (steals : Bool) → (pushed popped own : List T) → Type 0
  IsFoundEmpty steals pushed popped own = (stolen : List T) × IsDealt pushed popped stolen × (steals ≡ true
      → stolen ≡ own)

  -- this item was the first: all that was pushed before it was popped or stolen
  abbrev pub IsFirst : (steals : Bool) → (pushed popped own : List T) → T → Type 0
  IsFirst steals pushed popped own x =
      (before : List T) × (after : List T) × (stolen : List T) × (pushed ≡ before ++ x ∷ after)
      × IsDealt before popped stolen × (steals ≡ true → stolen ≡ own)

  -- ---- parts

  -- both ends, of a deque through which nothing went yet
  abbrev pub first_part : HolderPart T
  first_part = record {
    owns = true;
    steals = true;
    sealed = false;
    drained = true;
    pushed = [];
    popped =
        [];
    stolen = [];
  }

  abbrev pub no_part : HolderPart T
  no_part = record {
    owns = false;
    steals = false;
    sealed = false;
    drained = false;
    pushed = [];
    popped =
        [];
    stolen = [];
  }

  abbrev pub thief_part : List T → HolderPart T
  thief_part stolen = record no_part { steals = true; stolen = stolen }

  -- what is left to the owner where another steals
  abbrev pub owner_part : HolderPart T → HolderPart T
  owner_part v = record v { steals = false; stolen = [] }

  -- the owner's part with the thief's
  abbrev pub both_parts : HolderPart T → HolderPart T → HolderPart T
  both_parts v w = record v { steals = true; stolen = w.stolen }

  -- ---- steps

  -- an item is pushed, so the deque isn't drained; or a mark, and no item is pushed from then on
  abbrev pub HasPushed : HolderPart T → List (Option T) → HolderPart T → Type 0
  HasPushed v [] w = w ≡ v
  HasPushed v (None ∷ xs) w = w ≡ record v { sealed = true }
  HasPushed v (Some x ∷ xs) w = w ≡ record v { drained = false; pushed = v.pushed ++ x ∷ [] }

  -- the first item is popped; or a mark, and the deque is drained
  abbrev pub HasPopped : HolderPart T → List (Option T) → HolderPart T → Type 0
  HasPopped v [] w = w ≡ v
  HasPopped v (None ∷ xs) w = (w ≡ record v { drained = true }) × IsFoundEmpty v.steals v.pushed v.popped v.stolen
  HasPopped v (Some x ∷ xs) w = (w ≡ record v { popped = v.popped ++ x ∷ [] })
      × IsFirst v.steals v.pushed v.popped v.stolen x

  abbrev pub FindsNothing : HolderPart T → Type 0
  FindsNothing v = IsFoundEmpty v.steals v.pushed v.popped v.stolen

  -- the first item is stolen; or a mark, which changes nothing
  abbrev pub HasStolen : HolderPart T → List (Option T) → HolderPart T → Type 0
  HasStolen v [] w = w ≡ v
  HasStolen v (None ∷ xs) w = w ≡ v
  HasStolen v (Some x ∷ xs) w = w ≡ record v { stolen = v.stolen ++ x ∷ [] }

  -- whoever has both ends of a drained deque knows that all was popped or stolen
  abbrev pub IsSpent : HolderPart T → List (Option T) → Type 0
  IsSpent v items = v.drained ≡ true → IsDealt v.pushed v.popped v.stolen

  -- ---- the rule

  -- one holder at most owns: it knows what was pushed and popped, and that no mark is there unless it sealed the deque,
  -- and no item if that is drained. One at most steals, and knows what was stolen
  abbrev pub Knows : (owner thief : ℕ) → (pushed popped stolen held : List T) → (count : ℕ) → (holder : ℕ)
      → HolderPart T → Type 0
  Knows owner thief pushed popped stolen held count holder v =
      (v.owns ≡ true → (holder ≡ owner) × (v.pushed ≡ pushed) × (v.popped ≡ popped) × (v.sealed ≡ false → count ≡ 0)
      × (v.drained ≡ true → held ≡ []))
      × (v.steals ≡ true → (holder ≡ thief) × (v.stolen ≡ stolen))

  -- what was pushed is what was popped or stolen, in order, and then what is held
  abbrev pub IsInOrder : List (Option T) → List (HolderPart T) → Type 0
  IsInOrder items holders =
      (owner : ℕ) × (thief : ℕ) × (pushed : List T) × (popped : List T) × (stolen : List T) × (taken : List T)
      × (held : List T) × (count : ℕ)
      × (items ≡ entries held count)
      × (pushed ≡ taken ++ held)
      × IsDealt taken popped stolen
      × ((holder : ℕ) (v : HolderPart T) → get_elem? holders holder ≡ some v
      → Knows owner thief pushed popped stolen held count holder v)

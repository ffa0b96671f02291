-- What contracts see of the two ends of a deque.
use Rattle.std.specs.Prelude.{◌≡◌, ℕ, Bool, true, false, List, [], ◌∷◌, ◌++◌, Option, Some, None}
use Rattle.std.specs.Global.{Global}
use Rattle.pf_farm_accounts.specs.DequeParts as parts

-- which deque
abbrev pub DequePlace : Type 0
DequePlace = (ℕ × ℕ) × Global

-- the owner's end: of which deque, whether that has no thief, what was pushed and what was popped, and whether it is
-- known to be drained
pub record OwnerView (T : Type 0) : Type 0 where
  pub deque : DequePlace
  pub is_alone : Bool
  pub pushed : List T
  pub popped : List T
  pub drained : Bool

-- the thief's end: of which deque, and what was stolen
pub record ThiefView (T : Type 0) : Type 0 where
  pub deque : DequePlace
  pub stolen : List T

module _ {T : Type 0} where
  -- the ends of a deque through which nothing went yet
  abbrev pub new_owner : DequePlace → (is_alone : Bool) → OwnerView T
  new_owner deque is_alone = record { deque = deque; is_alone = is_alone; pushed = []; popped = []; drained = true }

  abbrev pub new_thief : DequePlace → ThiefView T
  new_thief deque = record { deque = deque; stolen = [] }

  abbrev pub with_pushed : OwnerView T → T → OwnerView T
  with_pushed o x = record o { pushed = o.pushed ++ x ∷ []; drained = false }

  abbrev pub with_popped : OwnerView T → T → OwnerView T
  with_popped o x = record o { popped = o.popped ++ x ∷ [] }

  -- all that was pushed before this item was popped or stolen, and where there is no thief, popped
  abbrev pub TakesFirst : OwnerView T → T → Type 0
  TakesFirst o x = parts.IsFirst o.is_alone o.pushed o.popped [] x

  -- all that was pushed was popped or stolen, and where there is no thief, popped
  abbrev pub FoundEmpty : OwnerView T → Type 0
  FoundEmpty o = parts.IsFoundEmpty o.is_alone o.pushed o.popped []

  -- this is the thief of this owner's deque; or that has none, and there is none
  abbrev pub IsThiefOf : Option (ThiefView T) → OwnerView T → Type 0
  IsThiefOf None o = o.is_alone ≡ true
  IsThiefOf (Some t) o = t.deque ≡ o.deque

  -- what a thief stole, if there is one
  abbrev pub stolen_by : Option (ThiefView T) → List T
  stolen_by None = []
  stolen_by (Some t) = t.stolen

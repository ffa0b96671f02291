-- The places of nodes.
use Rattle.std.specs.Prelude.{◌≡◌, ◌≢◌, ℕ, ◌<◌, Bool, ◌==◌, if◌then◌else◌, List, [], Option, Some, None, IsSome}
use Rattle.std.specs.Prelude.{length, take, map, filter, count_by, option_map, slice_get, slice_index_or}
use Rattle.pf_syntax.specs.Module.{Checked}
use Rattle.pf_positions.specs.Signs.{sign_number}
use Rattle.pf_positions.specs.Spots.{spots_of}
use Rattle.pf_positions.specs.Added.{spot_seen}
use Rattle.pf_positions.specs.Written.{AreSignsOf}
use Rattle.pf_positions.specs.declared.sign.Sign.{Sign}
use Rattle.pf_positions.specs.declared.spot.Spot.{Spot}
use Rattle.pf_positions.specs.declared.written.WrittenSign.{WrittenSign}
use Rattle.pf_positions.specs.declared.places.Position.{Position}

-- whether a sign has this number
abbrev pub has_number : ℕ → Sign → Bool
has_number n s = sign_number s == n

-- how many spots have the sign of this number
abbrev pub spots_with_sign : ℕ → List Spot → ℕ
spots_with_sign n spots = count_by (λ s. has_number n s.sign) spots

-- the lines on which this sign is written, in order
abbrev pub sign_lines : ℕ → List WrittenSign → List ℕ
sign_lines n ws = map (λ w. w.line) (filter (λ w. has_number n w.sign) ws)

-- the same, where the sign is written as often as there are spots of it; else none is reported
abbrev pub reported_lines : ℕ → List Spot → List WrittenSign → List ℕ
reported_lines n spots ws = if length (sign_lines n ws) == spots_with_sign n spots then sign_lines n ws else []

-- the line of the spot after these: its sign is written there, after as many of its kind as there are spots of it
-- before
abbrev pub line_after : (spots : List Spot) (ws : List WrittenSign) (before : List Spot) → Sign → Option ℕ
line_after spots ws before s = slice_get (reported_lines (sign_number s) spots ws)
    (spots_with_sign (sign_number s) before)

-- the number of the node that a spot is the sign of
abbrev pub spot_node : Spot → Option ℕ
spot_node s = option_map (λ n. n.0) s.node

-- each spot of this node after this index has another sign
abbrev pub IsLast : List Spot → (i n : ℕ) → Sign → Type 0
IsLast spots i n sign = (j : ℕ) (s : Spot) → i < j → slice_get spots j ≡ Some s → spot_node s ≡ Some n
    → s.sign ≢ sign

-- a place is that of the spot of this index, which is the last sign of this node
pub record IsPlaceAt (spots : List Spot) (ws : List WrittenSign) (i n : ℕ) (p : Position) : Type 0 where
  pub spot : Spot
  pub is_there : slice_get spots i ≡ Some spot
  pub node : spot_node spot ≡ Some n
  pub last : IsLast spots i n spot.sign
  pub place : p ≡ record { function = spot.function; line = line_after spots ws (take i spots) spot.sign }

-- the place of a node, if there is one
abbrev pub place_in : List (Option Position) → ℕ → Option Position
place_in places n = slice_index_or places n None

-- a node has its place if it has a spot, and the place is that of the last of its signs
pub record AreAmong (spots : List Spot) (ws : List WrittenSign) (places : List (Option Position)) : Type 0 where
  pub each : (n : ℕ) (p : Position) → place_in places n ≡ Some p → (i : ℕ) × IsPlaceAt spots ws i n p
  pub all : (i n : ℕ) (s : Spot) → slice_get spots i ≡ Some s → spot_node s ≡ Some n → IsSome (place_in places n)

-- the same, of the signs below this number alone
pub record AreAmongBelow (number : ℕ) (spots : List Spot) (ws : List WrittenSign)
    (places : List (Option Position)) : Type 0 where
  pub each : (n : ℕ) (p : Position) → place_in places n ≡ Some p → (i : ℕ) × IsPlaceAt spots ws i n p
  pub all : (i n : ℕ) (s : Spot) → slice_get spots i ≡ Some s → sign_number s.sign < number → spot_node s ≡ Some n
      → IsSome (place_in places n)

-- the places of the nodes of a module that was read from this source, by numbers
pub record ArePlaces (m : Checked) (source : List ℕ) (places : List (Option Position)) : Type 0 where
  pub spots : List Spot
  pub are_spots : map (spot_seen m.tables) spots ≡ spots_of m
  pub written : List WrittenSign
  pub are_written : AreSignsOf source written
  pub are_among : AreAmong spots written places

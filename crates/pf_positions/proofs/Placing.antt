-- Places that are set, sign by sign and spot by spot.
use Rattle.std.proofs.Common.{◌≡◌, ◌<◌, ◌≤◌, ◌+◌, ℕ, Bool, true, false, List, [], Option, Some, None, refl, sym, ap}
use Rattle.std.proofs.Common.{◌∙◌, subst, length, take, inl, inr, arith}
use Rattle.std.specs.Prelude.{IsSome, slice_get, ◌==◌, if◌then◌else◌}
use Rattle.std.proofs.lemmas.Bool.{cases_lt, cases_eq}
use Rattle.std.proofs.lemmas.Bool.Decides.{nat_tests}
use Rattle.std.proofs.lemmas.Option.{none-some, same_Some, slice_get_within}
use Rattle.pf_positions.specs.declared.sign.Sign.{Sign}
use Rattle.pf_positions.specs.declared.sign.Sign.TheVariants.{Receive, Case, If, AndAlso, OrElse, Send, Match, Name}
use Rattle.pf_positions.specs.declared.sign.Sign.TheVariants.{Brace, Plus, Minus, Times, Quotient, Remainder, Append}
use Rattle.pf_positions.specs.declared.sign.Sign.TheVariants.{Equal, Unequal, Less, AtMost, Greater, AtLeast, Unwritten}
use Rattle.pf_positions.specs.declared.spot.Spot.{Spot}
use Rattle.pf_positions.specs.declared.written.WrittenSign.{WrittenSign}
use Rattle.pf_positions.specs.declared.places.Position.{Position}
use Rattle.pf_positions.specs.Signs.{sign_number}
use Rattle.pf_positions.specs.Placed.{AreAmong, AreAmongBelow, spots_with_sign, has_number, line_after}
use Rattle.pf_positions.specs.Placed.{spot_node, place_in, reported_lines}

-- a place is that of the spot of this index, which is the last sign of this node but for those of a number from an
-- index on
pub record IsPlaceSoFar (number : ℕ) (spots : List Spot) (ws : List WrittenSign) (index i n : ℕ)
    (p : Position) : Type 0 where
  pub spot : Spot
  pub is_there : slice_get spots i ≡ Some spot
  pub node : spot_node spot ≡ Some n
  pub last : (j : ℕ) (s : Spot) → i < j → slice_get spots j ≡ Some s → spot_node s ≡ Some n → s.sign ≡ spot.sign
      → (index ≤ j) × (has_number number s.sign ≡ true)
  pub place : p ≡ record { function = spot.function; line = line_after spots ws (take i spots) spot.sign }

-- the places of the signs below a number, and of the spots before an index that have the sign of this number
pub record SoFar (number : ℕ) (spots : List Spot) (ws : List WrittenSign) (index : ℕ)
    (places : List (Option Position)) : Type 0 where
  pub each : (n : ℕ) (p : Position) → place_in places n ≡ Some p
      → (i : ℕ) × IsPlaceSoFar number spots ws index i n p
  pub below : (i n : ℕ) (s : Spot) → slice_get spots i ≡ Some s → sign_number s.sign < number → spot_node s ≡ Some n
      → IsSome (place_in places n)
  pub here : (i n : ℕ) (s : Spot) → i < index → slice_get spots i ≡ Some s → sign_number s.sign ≡ number
      → spot_node s ≡ Some n → IsSome (place_in places n)

-- ---- the whole

no_place : (n : ℕ) (p : Position) → place_in [] n ≡ Some p → ⊥
no_place n p e = cc

pub none_yet : (spots : List Spot) (ws : List WrittenSign) (places : List (Option Position)) → places ≡ []
    → AreAmongBelow 0 spots ws places
none_yet spots ws places e = record {
  each = λ n p h. absurd (no_place n p (ap (λ ps. place_in ps n) (sym e) ∙ h));
  all = λ i n s h lt k. absurd (omega arith);
}

below_all : (s : Sign) → sign_number s < 22
below_all Receive = omega arith
below_all Case = omega arith
below_all If = omega arith
below_all AndAlso = omega arith
below_all OrElse = omega arith
below_all Send = omega arith
below_all Match = omega arith
below_all Name = omega arith
below_all Brace = omega arith
below_all Plus = omega arith
below_all Minus = omega arith
below_all Times = omega arith
below_all Quotient = omega arith
below_all Remainder = omega arith
below_all Append = omega arith
below_all Equal = omega arith
below_all Unequal = omega arith
below_all Less = omega arith
below_all AtMost = omega arith
below_all Greater = omega arith
below_all AtLeast = omega arith
below_all Unwritten = omega arith

pub all_signs : (number : ℕ) (spots : List Spot) (ws : List WrittenSign) (places : List (Option Position)) → 22 ≤ number
    → AreAmongBelow number spots ws places
    → AreAmong spots ws places
all_signs number spots ws places le a = record {
  each = a.each;
  all = λ i n s h k. let b = below_all s.sign in a.all i n s h (omega arith) k;
}

-- ---- one sign

pub begun : (number : ℕ) (spots : List Spot) (ws : List WrittenSign) (places : List (Option Position))
    → AreAmongBelow number spots ws places
    → SoFar number spots ws 0 places
begun number spots ws places a = record {
  each = λ n p h. let x = a.each n p h in
      let at = x.1 in (
        x.0,
        record {
          spot = at.spot;
          is_there = at.is_there;
          node = at.node;
          last = λ j s lt h k e. absurd (at.last j s lt h k e);
          place = at.place;
        },
      );
  below = a.all;
  here = λ i n s lt h e k. absurd (omega arith);
}

pub ended : (number : ℕ) (spots : List Spot) (ws : List WrittenSign) (index : ℕ) (places : List (Option Position))
    → length spots ≤ index
    → SoFar number spots ws index places → AreAmongBelow (number + 1) spots ws places
ended number spots ws index places le a = record {
  each = λ n p h. let x = a.each n p h in
      let at = x.1 in (
        x.0,
        record {
          spot = at.spot;
          is_there = at.is_there;
          node = at.node;
          last = λ j s lt h k e. (let later = at.last j s lt h k e in
              let within = slice_get_within spots j s h in
              absurd (omega (arith, later.0, within)));
          place = at.place;
        },
      );
  all = λ i n s h lt k. elim (cases_lt (sign_number s.sign) number) [
    | inl below ↦ a.below i n s h below k
    | inr above ↦ (let within = slice_get_within spots i s h in a.here i n s (omega arith) h (omega arith) k)
  ];
}

-- ---- one spot

-- a place stays that of the last sign so far, where the next spot isn't one of this number and of this node
one_further : (number : ℕ) (spots : List Spot) (ws : List WrittenSign) (index i n : ℕ) (p : Position) (s : Spot)
    → slice_get spots index ≡ Some s → (spot_node s ≡ Some n → has_number number s.sign ≡ true → ⊥)
    → IsPlaceSoFar number spots ws index i n p → IsPlaceSoFar number spots ws (index + 1) i n p
one_further number spots ws index i n p s at isnt a = record {
  spot = a.spot;
  is_there = a.is_there;
  node = a.node;
  last = λ j u lt h k e. (let later = a.last j u lt h k e in elim (cases_lt index j) [
    | inl following ↦ (omega arith, later.1)
    | inr before ↦ (let same : j ≡ index = omega (arith, later.0) in
        let is : u ≡ s = same_Some u s (sym h ∙ ap (slice_get spots) same ∙ at) in
        absurd (isnt (ap spot_node (sym is) ∙ k) (ap (λ (x : Spot). has_number number x.sign) (sym is) ∙ later.1)))
  ]);
  place = a.place;
}

-- it has another sign
pub other_sign : (number : ℕ) (spots : List Spot) (ws : List WrittenSign) (index : ℕ)
    (places : List (Option Position)) (s : Spot)
    → slice_get spots index ≡ Some s → has_number number s.sign ≡ false → SoFar number spots ws index places
    → SoFar number spots ws (index + 1) places
other_sign number spots ws index places s at other a = record {
  each = λ n p h. let x = a.each n p h in
      (x.0, one_further number spots ws index x.0 n p s at (λ k e. absurd (cc (e, other))) x.1);
  below = a.below;
  here = λ i n u lt h e k. elim (cases_lt i index) [
    | inl before ↦ a.here i n u before h e k
    | inr following ↦ (let same : i ≡ index = omega arith in
        let is : u ≡ s = same_Some u s (sym h ∙ ap (slice_get spots) same ∙ at) in
        let num : sign_number s.sign ≡ number = ap (λ (x : Spot). sign_number x.sign) (sym is) ∙ e in
        absurd (grind (arith, nat_tests, other, num)))
  ];
}

-- it is the sign of no node
pub no_node : (number : ℕ) (spots : List Spot) (ws : List WrittenSign) (index : ℕ)
    (places : List (Option Position)) (s : Spot)
    → slice_get spots index ≡ Some s → spot_node s ≡ None → SoFar number spots ws index places
    → SoFar number spots ws (index + 1) places
no_node number spots ws index places s at none a = record {
  each = λ n p h. let x = a.each n p h in
      (x.0, one_further number spots ws index x.0 n p s at (λ k e. none-some n (sym none ∙ k)) x.1);
  below = a.below;
  here = λ i n u lt h e k. elim (cases_lt i index) [
    | inl before ↦ a.here i n u before h e k
    | inr following ↦ (let same : i ≡ index = omega arith in
        let is : u ≡ s = same_Some u s (sym h ∙ ap (slice_get spots) same ∙ at) in
        absurd (none-some n (sym none ∙ ap spot_node (sym is) ∙ k)))
  ];
}

-- a place was set, and the others are as they were
abbrev IsPut : (before after : List (Option Position)) (node : ℕ) → Position → Type 0
IsPut before after node place = (n : ℕ) → place_in after n ≡ if n == node then Some place else place_in before n

some_kept : (before after : List (Option Position)) (node : ℕ) (place : Position) → IsPut before after node place
    → (n : ℕ) → IsSome (place_in before n)
    → IsSome (place_in after n)
some_kept before after node place put n some = kept (n == node) (place_in before n) (place_in after n) (put n) some
  where
    kept : (b : Bool) (x y : Option Position) → y ≡ (if b then Some place else x) → IsSome x → IsSome y
    kept true x y e h = subst IsSome (sym e) refl
    kept false x y e h = subst IsSome (sym e) h

pub put_here : (number : ℕ) (spots : List Spot) (ws : List WrittenSign) (index : ℕ)
    (before after : List (Option Position)) (s : Spot) (node : ℕ) (place : Position)
    → slice_get spots index ≡ Some s → has_number number s.sign ≡ true → spot_node s ≡ Some node
    → place ≡ record { function = s.function; line = line_after spots ws (take index spots) s.sign }
    → IsPut before after node place → SoFar number spots ws index before → SoFar number spots ws (index + 1) after
put_here number spots ws index before after s node place at has is_node is_place put a = record {
  each = λ n p h. elim (cases_eq n node) [
    | inl same ↦ (let here : place_in after n ≡ Some place = put n ∙ grind (arith, nat_tests, same) in
        let is : p ≡ place = same_Some p place (sym h ∙ here) in (
          index,
          record {
            spot = s;
            is_there = at;
            node = is_node ∙ ap Some (sym same);
            last = λ j u lt h k e. (omega arith, ap (has_number number) e ∙ has);
            place = is ∙ is_place;
          },
        ))
    | inr other ↦ (let there : place_in after n ≡ place_in before n = put n ∙ grind (arith, nat_tests, other) in
        let x = a.each n p (sym there ∙ h) in (
          x.0,
          one_further number spots ws index x.0 n p s at
              (λ k e. other (same_Some n node (sym k ∙ is_node))) x.1,
        ))
  ];
  below = λ i n u h lt k. some_kept before after node place put n (a.below i n u h lt k);
  here = λ i n u lt h e k. elim (cases_lt i index) [
    | inl earlier ↦ some_kept before after node place put n (a.here i n u earlier h e k)
    | inr following ↦ (let same : i ≡ index = omega arith in
        let is : u ≡ s = same_Some u s (sym h ∙ ap (slice_get spots) same ∙ at) in
        let there : n ≡ node = same_Some n node (sym k ∙ ap spot_node is ∙ is_node) in
        let here : place_in after n ≡ Some place = put n ∙ grind (arith, nat_tests, there) in
        subst IsSome (sym here) refl)
  ];
}

-- ---- lines

-- a spot that is nowhere
abbrev pub no_spot : Spot
no_spot = record { sign = Receive; function = record { 0 = 0 }; node = None }

-- the line of this rank is that of the spot
pub line_is : (number : ℕ) (spots : List Spot) (ws : List WrittenSign) (i : ℕ) (s : Sign) (shown lines : List ℕ)
    (rank : ℕ) (line : Option ℕ)
    → has_number number s ≡ true → shown ≡ lines → lines ≡ reported_lines number spots ws
    → rank ≡ spots_with_sign number (take i spots) → line ≡ slice_get shown rank
    → line ≡ line_after spots ws (take i spots) s
line_is number spots ws i s shown lines rank line has same are ranked read =
    let is : number ≡ sign_number s = grind (arith, nat_tests, has) in
    read
    ∙ ap (λ (ls : List ℕ). slice_get ls rank) (same ∙ are)
    ∙ ap (slice_get (reported_lines number spots ws)) ranked
    ∙ ap (λ (n : ℕ). slice_get (reported_lines n spots ws) (spots_with_sign n (take i spots))) is

-- Seats that are taken in, one by one from the last.
use Rattle.std.proofs.Common.{◌≡◌, ℕ, ◌<◌, List, [], ◌∷◌, ◌++◌, length, true, true≢false, Option, Some, None, is_some}
use Rattle.std.proofs.Common.{unwrap_or, refl, sym, ap, ◌∙◌, subst, arith}
use Rattle.pf_farm_accounts.specs.DequeParts.{IsDealt}
use Rattle.pf_farm_accounts.specs.DequeViews.{DequePlace, OwnerView, ThiefView, IsThiefOf, stolen_by}
use Rattle.pf_farm.specs.Seats.{WorkSeatView, thief_deque, IsIdle, AllIdle, IsChain, IsRing, Spends}

pub chain_last : (from to : Option DequePlace) (ss : List WorkSeatView) (w : WorkSeatView)
    → IsChain from (ss ++ w ∷ []) to → IsChain from ss (Some w.own.deque) × (thief_deque w.next ≡ to)
chain_last from to [] w h = (sym h.0, h.1)
chain_last from to (s ∷ ss) w h = let rest = chain_last (thief_deque s.next) to ss w h.1 in ((h.0, rest.0), rest.1)

pub chain_push : (from to : Option DequePlace) (ss : List WorkSeatView) (w : WorkSeatView) → IsChain from ss to
    → Some w.own.deque ≡ to → IsChain from (ss ++ w ∷ []) (thief_deque w.next)
chain_push from to [] w h own = (own ∙ sym h, refl)
chain_push from to (s ∷ ss) w h own = (h.0, chain_push (thief_deque s.next) to ss w h.1 own)

pub idle_last : (ss : List WorkSeatView) (w : WorkSeatView) → AllIdle (ss ++ w ∷ []) → AllIdle ss × IsIdle w
idle_last [] w h = (tt, h.0)
idle_last (s ∷ ss) w h = let rest = idle_last ss w h.1 in ((h.0, rest.0), rest.1)

pub idle_push : (ss : List WorkSeatView) (w : WorkSeatView) → AllIdle ss → IsIdle w → AllIdle (ss ++ w ∷ [])
idle_push [] w h idle = (idle, tt)
idle_push (s ∷ ss) w h idle = (h.0, idle_push ss w h.1 idle)

-- ---- rings

-- a chain of two seats at least that comes back to where it began
pub ring_back : (from : Option DequePlace) (ss : List WorkSeatView) (w : WorkSeatView) → 0 < length ss
    → IsChain from (ss ++ w ∷ []) from → IsRing (ss ++ w ∷ [])
ring_back from [] w some h = absurd (omega (arith, some))
ring_back from (s ∷ []) w some h = (from, h)
ring_back from (s ∷ t ∷ ss) w some h = (from, h)

chain_of : (s : WorkSeatView) (ss : List WorkSeatView) (w : WorkSeatView) → IsRing ((s ∷ ss) ++ w ∷ [])
    → (from : Option DequePlace) × IsChain from ((s ∷ ss) ++ w ∷ []) from
chain_of s [] w h = h
chain_of s (t ∷ ss) w h = h

-- the ring of these seats and one more, the two ends of which are these
abbrev pub IsOpen : List WorkSeatView → OwnerView ℕ → Option (ThiefView ℕ) → Type 0
IsOpen [] owner thief = IsThiefOf thief owner
IsOpen (s ∷ ss) owner thief = IsChain (thief_deque thief) (s ∷ ss) (Some owner.deque)

pub thief_of : (thief : Option (ThiefView ℕ)) (owner : OwnerView ℕ) → thief_deque thief ≡ Some owner.deque
    → IsThiefOf thief owner
thief_of None owner e = absurd (true≢false (sym (ap is_some e)))
thief_of (Some t) owner e = ap (λ p. unwrap_or p owner.deque) e

open_by : (ss : List WorkSeatView) (owner : OwnerView ℕ) (thief : Option (ThiefView ℕ))
    → IsChain (thief_deque thief) ss (Some owner.deque) → IsOpen ss owner thief
open_by [] owner thief h = thief_of thief owner h
open_by (s ∷ ss) owner thief h = h

chain_open : (ss : List WorkSeatView) (w : WorkSeatView) (owner : OwnerView ℕ) (thief : Option (ThiefView ℕ))
    → IsOpen (ss ++ w ∷ []) owner thief → IsChain (thief_deque thief) (ss ++ w ∷ []) (Some owner.deque)
chain_open [] w owner thief h = h
chain_open (s ∷ ss) w owner thief h = h

-- the last seat of a ring is taken in
pub opens : (ss : List WorkSeatView) (w : WorkSeatView) → IsRing (ss ++ w ∷ []) → IsOpen ss w.own w.next
opens [] w h = subst (λ n. IsThiefOf n w.own) (sym h.0) h.1
opens (s ∷ ss) w h =
    let ring = chain_of s ss w h in
    let ch = chain_last ring.0 ring.0 (s ∷ ss) w ring.1 in
    subst (λ p. IsChain p (s ∷ ss) (Some w.own.deque)) (sym ch.1) ch.0

-- the seat before is taken in, and it is the thief
pub steals_from : (ss : List WorkSeatView) (w : WorkSeatView) (owner : OwnerView ℕ) (thief : Option (ThiefView ℕ))
    → IsOpen (ss ++ w ∷ []) owner thief → IsThiefOf w.next owner
steals_from ss w owner thief h = thief_of w.next owner
    (chain_last (thief_deque thief) (Some owner.deque) ss w (chain_open ss w owner thief h)).1

pub opens_more : (ss : List WorkSeatView) (w : WorkSeatView) (owner : OwnerView ℕ) (thief : Option (ThiefView ℕ))
    → IsOpen (ss ++ w ∷ []) owner thief → IsOpen ss w.own thief
opens_more ss w owner thief h = open_by ss w.own thief
    (chain_last (thief_deque thief) (Some owner.deque) ss w (chain_open ss w owner thief h)).0

-- ---- what was pushed

pub spends : (s t : WorkSeatView) (owner : OwnerView ℕ) (next : Option (ThiefView ℕ)) → owner ≡ t.own → next ≡ s.next
    → IsDealt owner.pushed owner.popped (stolen_by next) → Spends s t
spends s t owner next is from dealt =
    let P : OwnerView ℕ × Option (ThiefView ℕ) → Type 0 = λ x. IsDealt x.0.pushed x.0.popped (stolen_by x.1) in
    subst P (λ i. (is i, from i)) dealt

-- Seats whose workers have worked side by side.
use Rattle.std.proofs.Common.{◌≡◌, ℕ, zero, suc, ◌<◌, false, List, [], ◌∷◌, length, get_or, true≢false, Option, Some}
use Rattle.std.proofs.Common.{None, is_some, refl, sym, ap, ◌∙◌, subst, arith}
use Rattle.pf_farm_accounts.specs.DequeViews.{DequePlace, ThiefView}
use Rattle.pf_farm.specs.Seats.{WorkSeatView, SameEnds, thief_deque, IsChain, IsRing, IsIdle, AllIdle, AllFree}

pub free_at : (ss : List WorkSeatView) (i : ℕ) (d : WorkSeatView) → AllFree ss → i < length ss
    → (get_or ss i d).busy ≡ false
free_at [] i d free within = absurd (omega (arith, within))
free_at (s ∷ ss) zero d free within = free.0
free_at (s ∷ ss) (suc i) d free within = free_at ss i d free.1 (omega (arith, within))

pub idle_are_free : (ss : List WorkSeatView) → AllIdle ss → AllFree ss
idle_are_free [] idle = tt
idle_are_free (s ∷ ss) idle = (idle.0.0, idle_are_free ss idle.1)

pub idle_each : (ss : List WorkSeatView) → ((i : ℕ) (d : WorkSeatView) → i < length ss → IsIdle (get_or ss i d))
    → AllIdle ss
idle_each [] each = tt
idle_each (s ∷ ss) each = (each 0 s (omega arith), idle_each ss (λ i d within. each (suc i) d (omega (arith, within))))

abbrev AreSame : List WorkSeatView → List WorkSeatView → Type 0
AreSame ss ts = (i : ℕ) (d : WorkSeatView) → i < length ss → SameEnds (get_or ss i d) (get_or ts i d)

chain_each : (from to : Option DequePlace) (ss ts : List WorkSeatView) → length ts ≡ length ss → AreSame ss ts
    → IsChain from ss to → IsChain from ts to
chain_each from to [] [] len each chain = chain
chain_each from to [] (t ∷ ts) len each chain = absurd (omega (arith, len))
chain_each from to (s ∷ ss) [] len each chain = absurd (omega (arith, len))
chain_each from to (s ∷ ss) (t ∷ ts) len each chain =
    let here = each 0 s (omega arith) in
    let rest = chain_each (thief_deque s.next) to ss ts (omega (arith, len))
    (λ i d within. each (suc i) d (omega (arith, within))) chain.1 in
    (ap Some here.0 ∙ chain.0, subst (λ p. IsChain p ts to) (sym here.2) rest)

no_thief : (t : Option (ThiefView ℕ)) → thief_deque t ≡ None → t ≡ None
no_thief None e = refl
no_thief (Some t) e = absurd (true≢false (ap is_some e))

pub ring_each : (ss ts : List WorkSeatView) → length ts ≡ length ss → AreSame ss ts → IsRing ss → IsRing ts
ring_each ss [] len each ring = tt
ring_each [] (t ∷ ts) len each ring = absurd (omega (arith, len))
ring_each (s ∷ []) (t ∷ t' ∷ ts) len each ring = absurd (omega (arith, len))
ring_each (s ∷ s' ∷ ss) (t ∷ []) len each ring = absurd (omega (arith, len))
ring_each (s ∷ []) (t ∷ []) len each ring =
    let here = each 0 s (omega arith) in
    (no_thief t.next (here.2 ∙ ap thief_deque ring.0), here.1 ∙ ring.1)
ring_each (s ∷ s' ∷ ss) (t ∷ t' ∷ ts) len each ring =
    (ring.0, chain_each ring.0 ring.0 (s ∷ s' ∷ ss) (t ∷ t' ∷ ts) len each ring.1)

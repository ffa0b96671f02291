use Rattle.std.proofs.Common.{rules, ◌≡◌, true, List, [], ◌∷◌, ◌++◌, Option, Some, sym, ap, ◌∙◌, subst, arith}
use Rattle.pf_farm_accounts.specs.DequeViews.{DequePlace}
use Rattle.pf_farm.specs.Seats.{WorkSeatView, thief_deque, IsChain, IsRing, AllIdle}
use Rattle.pf_farm.proofs.Rings.{chain_push, idle_push, ring_back}
use Rattle.pf_farm.proofs.farm.ring_of_seats.Goals as goal

pub loop-i-preserved : goal.loop-i-preserved
loop-i-preserved g c =
    let v = c.loop-i.invariant in
    let w = c.seat.result in
    let from : Option DequePlace = Some c.in_ok-owner.owner.deque in
    let items : c.push.new.self.items ≡ c.loop-i.seats.items ++ w ∷ [] = search rules in
    let is = c.seat.ensures.seat in
    let opens = c.in_ok-own.ensures in
    let chained = chain_push from (Some c.loop-i.owner.deque) c.loop-i.seats.items w v.chain
    (ap (λ (x : WorkSeatView). Some x.own.deque) is) in
    let next : thief_deque w.next ≡ Some c.in_ok-own.own.deque = ap (λ (x : WorkSeatView). thief_deque x.next) is
    ∙ ap (λ t. Some t.deque) opens.1 in
    let P : List WorkSeatView × Option DequePlace → Type 0 = λ x. IsChain from x.0 x.1 in
    let chain : IsChain from c.push.new.self.items (Some c.in_ok-own.own.deque) =
    subst P (λ i. (sym items i, next i)) chained in
    let rest : w.own.drained ≡ true = ap (λ (x : WorkSeatView). x.own.drained) is ∙ ap (λ o. o.drained) v.empty in
    let idle : AllIdle c.push.new.self.items =
    subst AllIdle (sym items) (idle_push c.loop-i.seats.items w v.idle (ap (λ (x : WorkSeatView). x.busy) is, rest))
    in
    record {
      chain = chain;
      empty = opens.0;
      idle = idle;
      len = search rules;
      opened = (omega (arith, v.opened.0, c.seat.ensures.opened.0), c.seat.ensures.opened.1 ∙ v.opened.1);
      ended = (omega (arith, v.ended.0, c.seat.ensures.ended.0), c.seat.ensures.ended.1 ∙ v.ended.1);
    }

pub returns-clause-ring : goal.returns-clause-ring
returns-clause-ring g c =
    let v = c.loop-i.invariant in
    let w = c.seat-2.result in
    let from : Option DequePlace = Some c.in_ok-owner.owner.deque in
    let items : c.push-2.new.self.items ≡ c.loop-i.seats.items ++ w ∷ [] = search rules in
    let is = c.seat-2.ensures.seat in
    let opens = c.in_ok-owner.ensures in
    let chained = chain_push from (Some c.loop-i.owner.deque) c.loop-i.seats.items w v.chain
    (ap (λ (x : WorkSeatView). Some x.own.deque) is) in
    let next : thief_deque w.next ≡ from = ap (λ (x : WorkSeatView). thief_deque x.next) is
    ∙ ap (λ t. Some t.deque) opens.1 in
    subst IsRing (sym items) (ring_back from c.loop-i.seats.items w (search rules)
    (subst (λ p. IsChain from (c.loop-i.seats.items ++ w ∷ []) p) next chained))

pub returns-clause-idle : goal.returns-clause-idle
returns-clause-idle g c =
    let w = c.seat-2.result in
    let is = c.seat-2.ensures.seat in
    let items : c.push-2.new.self.items ≡ c.loop-i.seats.items ++ w ∷ [] = search rules in
    let rest : w.own.drained ≡ true = ap (λ (x : WorkSeatView). x.own.drained) is
    ∙ ap (λ o. o.drained) c.loop-i.invariant.empty in
    subst AllIdle (sym items) (idle_push c.loop-i.seats.items w c.loop-i.invariant.idle
    (ap (λ (x : WorkSeatView). x.busy) is, rest))

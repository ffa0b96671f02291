use Rattle.std.proofs.Common.{◌≡◌, ◌+◌, List, [], ◌∷◌, ◌++◌, length, vec_len, Option, sym, ap, ◌∙◌, subst, arith}
use Rattle.std.proofs.Common.{append_assoc}
use Rattle.pf_farm_accounts.specs.DequeViews.{OwnerView, ThiefView, IsThiefOf, stolen_by}
use Rattle.pf_farm_accounts.proofs.DequeSteps.{dealt_length}
use Rattle.pf_farm.specs.Seats.{WorkSeatView, IsRing, AllIdle}
use Rattle.pf_farm.proofs.Rings.{IsOpen, idle_last, opens, opens_more, steals_from, spends}
use Rattle.pf_farm.proofs.farm.gather.Goals as goal

pub take_in-owner-requires : goal.take_in-owner-requires
take_in-owner-requires g c =
    let items : c.args.seats.items ≡ c.pop.new.self.items ++ c.in-Some.last ∷ [] = c.in-Some.ensures.items in
    (idle_last c.pop.new.self.items c.in-Some.last (subst AllIdle items c.requires.idle)).1.0

pub seats-init : goal.seats-init
seats-init g c =
    let w = c.in-Some.last in
    let ws = c.pop.new.self.items in
    let items : c.args.seats.items ≡ ws ++ w ∷ [] = c.in-Some.ensures.items in
    let less : vec_len c.pop.new.self + 1 ≡ vec_len c.args.seats = c.in-Some.ensures.cases in
    let ends = c.take_in-owner.ensures.ends in
    let idle = idle_last ws w (subst AllIdle items c.requires.idle) in
    let P : OwnerView _ × Option (ThiefView _) → Type 0 = λ x. IsOpen ws x.0 x.1 in
    record {
      ring = subst P (sym ends) (opens ws w (subst IsRing items c.requires.ring));
      idle = idle.0;
      drained = ap (λ x. x.0.drained) ends ∙ idle.1.1;
      opened = omega (arith, less, c.take_in-owner.ensures.opened);
      ended = omega (arith, less, c.take_in-owner.ensures.ended);
      amount = omega (
        arith,
        c.take_in-owner.ensures.amounts,
        ap (λ x. length x.0.pushed) ends,
        ap (λ x. length x.0.popped) ends,
        ap (λ x. length (stolen_by x.1)) ends,
      );
      last = (w, ws, items, ap (λ x. x.1) ends);
      spent = (w, [], ap (λ x. x.0) ends, items, tt);
    }

pub take_in-own-requires : goal.take_in-own-requires
take_in-own-requires g c =
    let items : c.seats.seats.items ≡ c.pop-in-seats.new.self.items ++ c.in-Some-pop.seat ∷ [] =
    c.in-Some-pop.ensures.items in
    (idle_last c.pop-in-seats.new.self.items c.in-Some-pop.seat (subst AllIdle items c.seats.invariant.idle)).1.0

pub close-requires-clause-thief : goal.close-requires-clause-thief
close-requires-clause-thief g c =
    let v = c.seats.invariant in
    let s = c.in-Some-pop.seat in
    let ws = c.pop-in-seats.new.self.items in
    let items : c.seats.seats.items ≡ ws ++ s ∷ [] = c.in-Some-pop.ensures.items in
    let P : Option (ThiefView _) → Type 0 = λ x. IsThiefOf x c.seats.owner in
    subst P (sym (ap (λ x. x.1) c.take_in-own.ensures.ends))
    (steals_from ws s c.seats.owner c.take_in-owner.result.1
    (subst (λ l. IsOpen l c.seats.owner c.take_in-owner.result.1) items v.ring))

pub seats-preserved : goal.seats-preserved
seats-preserved g c =
    let v = c.seats.invariant in
    let s = c.in-Some-pop.seat in
    let ws = c.pop-in-seats.new.self.items in
    let items : c.seats.seats.items ≡ ws ++ s ∷ [] = c.in-Some-pop.ensures.items in
    let less : vec_len c.pop-in-seats.new.self + 1 ≡ vec_len c.seats.seats = c.in-Some-pop.ensures.cases in
    let ends = c.take_in-own.ensures.ends in
    let idle = idle_last ws s (subst AllIdle items v.idle) in
    let next : c.take_in-own.result.1 ≡ s.next = ap (λ x. x.1) ends in
    let dealt = c.close.ensures in
    let t : WorkSeatView = v.spent.0 in
    let done : List WorkSeatView = v.spent.1 in
    record {
      ring = subst (λ o. IsOpen ws o c.take_in-owner.result.1) (sym (ap (λ x. x.0) ends))
          (opens_more ws s c.seats.owner c.take_in-owner.result.1
          (subst (λ l. IsOpen l c.seats.owner c.take_in-owner.result.1) items v.ring));
      idle = idle.0;
      drained = ap (λ x. x.0.drained) ends ∙ idle.1.1;
      opened = omega (arith, v.opened, less, c.take_in-own.ensures.opened);
      ended = omega (arith, v.ended, less, c.take_in-own.ensures.ended);
      amount = omega (
        arith,
        v.amount,
        c.take_in-own.ensures.amounts,
        dealt_length _ _ _ dealt,
        ap (λ x. length x.0.pushed) ends,
        ap (λ x. length x.0.popped) ends,
        ap (λ x. length (stolen_by x.1)) ends,
      );
      last = v.last;
      spent = (
        s,
        t ∷ done,
        ap (λ x. x.0) ends,
        v.spent.3 ∙ ap (λ l. l ++ t ∷ done) items ∙ append_assoc ws (s ∷ [])
            (t ∷ done),
        (spends s t c.seats.owner c.take_in-own.result.1 v.spent.2 next dealt, v.spent.4),
      );
    }

pub returns-in-Some-clause-even : goal.returns-in-Some-clause-even
returns-in-Some-clause-even g c = omega (arith, c.seats.invariant.amount, dealt_length _ _ _ c.close-in-Some.ensures)

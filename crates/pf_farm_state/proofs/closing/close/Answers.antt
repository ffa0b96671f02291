use Rattle.std.proofs.Common.{◌≡◌, ◌+◌, List, [], ◌∷◌, ◌++◌, length, map, sym, ap, ◌∙◌, subst, append_assoc, arith}
use Rattle.std.proofs.lemmas.List.{map-append, length_push}
use Rattle.std.specs.Vec.Iter.{into_iter_items}
use Rattle.pf_book.specs.Profile.{ForRight}
use Rattle.pf_farm_accounts.specs.Places.{AreAmong}
use Rattle.pf_farm_accounts.specs.Receipts.{gathering_of}
use Rattle.pf_farm_state.specs.declared.client.ClosedSeat.{ClosedSeat}
use Rattle.pf_farm_state.specs.declared.look.TrialLook.{TrialLook}
use Rattle.pf_farm_state.specs.Clients.{ClientView, all_receipts, closed_as, AreFull}
use Rattle.pf_farm_state.proofs.Closed.{all_more, full_more}
use Rattle.pf_farm_state.proofs.Grown.{among_more, AllAmong}
use Rattle.pf_farm_state.proofs.closing.close.Goals as goal

pub loop-client-preserved : goal.loop-client-preserved
loop-client-preserved g c =
    let at = c.loop-client in
    let v = at.invariant in
    let w = c.args.book.now in
    let log = c.args.gathering.now.log in
    let first = c.args.gathering.now.parts in
    let s : ClosedSeat = c.close_one.result in
    let x : ClientView = c.in-Some.client in
    let items : c.push_reserved.new.self.items ≡ at.closed.items ++ s ∷ [] = c.push_reserved.ensures.items in
    let steps : into_iter_items at.client-iterator ≡ x ∷ into_iter_items c.next.new.self = c.in-Some.ensures.steps.0 in
    let receipts : all_receipts at.closed.items ++ s.reported.receipts.items
    ≡ all_receipts c.push_reserved.new.self.items =
    sym (ap all_receipts items ∙ all_more at.closed.items s) in
    let parts : first + length at.yielded + 1 ≡ first + length (at.yielded ++ x ∷ []) =
    omega (arith, length_push at.yielded x) in
    record {
      seats = ap (map closed_as) items ∙ map-append closed_as at.closed.items (s ∷ [])
          ∙ (λ i. v.seats i ++ c.close_one.ensures.seat i ∷ []);
      rest = v.rest ∙ ap (λ l. at.yielded ++ l) steps
          ∙ sym (append_assoc at.yielded (x ∷ []) (into_iter_items c.next.new.self));
      gathered = c.close_one.ensures.gathered
          ∙ ap (λ k. gathering_of k.log (k.receipts ++ s.reported.receipts.items) (k.parts + 1)) v.gathered
          ∙ (λ i. gathering_of log (receipts i) (parts i));
      full = subst (λ l. ForRight (λ p. AreFull l w)) (sym items)
          (λ p right. full_more at.closed.items s w (v.full p right) (c.close_one.ensures.full p right));
      among = subst (λ (l : List ClosedSeat). AllAmong l c.args.looks.now) (sym items)
          (among_more at.closed.items s c.args.looks.now v.among
          (subst (λ (l : List TrialLook). AreAmong s.looks l) v.same c.close_one.ensures.among));
      same = c.close_one.ensures.same ∙ v.same;
      room = omega (
        arith,
        v.room,
        length_push at.yielded x,
        ap (λ l. length l) steps,
        c.push_reserved.ensures.capacity,
      );
    }

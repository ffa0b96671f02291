use Rattle.std.proofs.Common.{◌≡◌, ◌∷◌, [], ◌++◌, length, map, sym, ap, ◌∙◌, subst, arith, append-nil, append_assoc}
use Rattle.std.proofs.Common.{length-append}
use Rattle.std.specs.Vec.Iter.{into_iter_items}
use Rattle.std.proofs.lemmas.List.{map-append}
use Rattle.pf_clients.specs.Farms.{answers_of}
use Rattle.pf_clients.proofs.Pairs.{nothing_left}
use Rattle.pf_clients.proofs.run.parted.Goals as goal

pub clients-preserved : goal.clients-preserved
clients-preserved g c =
    let l = c.clients in
    let x = c.in-Some.client in
    let left = into_iter_items c.next.new.self in
    let steps : into_iter_items l.client-iterator ≡ x ∷ left = c.in-Some.ensures.steps.0 in
    let more = length-append l.yielded (x ∷ []) in
    record {
      seats = c.push_reserved.ensures.items ∙ ap (λ t. t ++ x.seat ∷ []) l.invariant.seats
          ∙ sym (map-append (λ k. k.seat) l.yielded (x ∷ []));
      answers = c.push_reserved-in-clients.ensures.items ∙ ap (λ t. t ++ answers_of x.reported x.ended ∷ [])
          l.invariant.answers
          ∙ sym (map-append (λ k. answers_of k.reported k.ended) l.yielded (x ∷ []));
      replies = c.push_reserved-in-clients-2.ensures.items ∙ ap (λ t. t ++ x.replies ∷ []) l.invariant.replies
          ∙ sym (map-append (λ k. k.replies) l.yielded (x ∷ []));
      seats_len = omega (arith, c.push_reserved.ensures.len, l.invariant.seats_len, more);
      answers_len = omega (arith, c.push_reserved-in-clients.ensures.len, l.invariant.answers_len, more);
      replies_len = omega (arith, c.push_reserved-in-clients-2.ensures.len, l.invariant.replies_len, more);
      rest = l.invariant.rest ∙ ap (λ t. l.yielded ++ t) steps ∙ sym (append_assoc l.yielded (x ∷ []) left);
      rest_len = omega (arith, l.invariant.rest_len, ap (λ t. length t) steps, more);
      seats_room = omega (arith, c.push_reserved.ensures.capacity, l.invariant.seats_room);
      answers_room = omega (arith, c.push_reserved-in-clients.ensures.capacity, l.invariant.answers_room);
      replies_room = omega (arith, c.push_reserved-in-clients-2.ensures.capacity, l.invariant.replies_room);
    }

pub returns-clause-seats : goal.returns-clause-seats
returns-clause-seats g c =
    let l = c.clients in
    let left : length (into_iter_items l.client-iterator) ≡ 0 = sym l.client-iterator.rest.ok.0
    ∙ c.in-None.ensures.steps.0 in
    let all = l.invariant.rest ∙ ap (λ t. l.yielded ++ t) (nothing_left (into_iter_items l.client-iterator) left)
    ∙ append-nil l.yielded in
    l.invariant.seats ∙ sym (ap (λ t. map (λ k. k.seat) t) all)

pub returns-clause-answers : goal.returns-clause-answers
returns-clause-answers g c =
    let l = c.clients in
    let left : length (into_iter_items l.client-iterator) ≡ 0 = sym l.client-iterator.rest.ok.0
    ∙ c.in-None.ensures.steps.0 in
    let all = l.invariant.rest ∙ ap (λ t. l.yielded ++ t) (nothing_left (into_iter_items l.client-iterator) left)
    ∙ append-nil l.yielded in
    l.invariant.answers ∙ sym (ap (λ t. map (λ k. answers_of k.reported k.ended) t) all)

pub returns-clause-replies : goal.returns-clause-replies
returns-clause-replies g c =
    let l = c.clients in
    let left : length (into_iter_items l.client-iterator) ≡ 0 = sym l.client-iterator.rest.ok.0
    ∙ c.in-None.ensures.steps.0 in
    let all = l.invariant.rest ∙ ap (λ t. l.yielded ++ t) (nothing_left (into_iter_items l.client-iterator) left)
    ∙ append-nil l.yielded in
    l.invariant.replies ∙ sym (ap (λ t. map (λ k. k.replies) t) all)

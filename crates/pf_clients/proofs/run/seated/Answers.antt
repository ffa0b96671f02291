use Rattle.std.proofs.Common.{rules, ◌≡◌, ℕ, ◌+◌, ◌∷◌, [], ◌++◌, None, Some, length, refl, sym, ap, ◌∙◌, subst, arith}
use Rattle.std.proofs.Common.{append-nil, append_assoc, length-append}
use Rattle.std.specs.Vec.Iter.{into_iter_items}
use Rattle.pf_farm_state.specs.Clients.{empty_client}
use Rattle.pf_farm.specs.Farms.{opened_farm}
use Rattle.pf_clients.specs.declared.client.Client.{Client}
use Rattle.pf_clients.specs.declared.end.FileEnd.TheVariants.{Answered}
use Rattle.pf_clients.specs.Pairs.{EachTwo}
use Rattle.pf_clients.proofs.Pairs.{nothing_left, two_more}
use Rattle.pf_clients.proofs.Served.{all_new}
use Rattle.pf_clients.proofs.run.seated.Goals as goal

pub sources-init : goal.sources-init
sources-init g c =
    let P : ℕ → g.row.S.Denot → Client g.row.N.Denot g.row.S.Denot g.row.V.Denot → Type 0 =
    λ k x y. (y.seat ≡ empty_client k) × (y.source ≡ Some x) × (y.replies ≡ None) × (y.reported.items ≡ []) in
    record {
      seated = subst (λ cs. EachTwo P 1 [] cs) (sym c.new-clients.ensures.items) (tt {0});
      clients = c.new-clients.ensures.len;
      rest = sym c.into_iter-source-iterator.ensures.into_iter_gives.0;
      rest_len = search rules;
      project = refl;
      farm = ap (opened_farm c.args.farm.now.workers) c.requires.none;
    }

pub sources-preserved : goal.sources-preserved
sources-preserved g c =
    let P : ℕ → g.row.S.Denot → Client g.row.N.Denot g.row.S.Denot g.row.V.Denot → Type 0 =
    λ k x y. (y.seat ≡ empty_client k) × (y.source ≡ Some x) × (y.replies ≡ None) × (y.reported.items ≡ []) in
    let l = c.sources in
    let x = c.in-Some.source in
    let client : Client g.row.N.Denot g.row.S.Denot g.row.V.Denot = record {
      seat = c.in-Ok.seat;
      source = Some x;
      replies = None;
      reported = c.new.result;
      ended = Answered;
    } in
    let left = into_iter_items c.next.new.self in
    let steps : into_iter_items l.source-iterator ≡ x ∷ left = c.in-Some.ensures.steps.0 in
    let more = length-append l.yielded (x ∷ []) in
    let place : l.project + 1 ≡ 1 + length l.yielded = omega (arith, l.invariant.project) in
    let count : length l.yielded + 1 ≡ length (l.yielded ++ x ∷ []) = omega (arith, more) in
    let one : P (1 + length l.yielded) x client =
    (c.in-Ok.ensures.seat.0 ∙ ap empty_client place, refl, refl, c.new.ensures.items) in
    record {
      seated = subst (λ cs. EachTwo P 1 (l.yielded ++ x ∷ []) cs) (sym c.in_ok-push.ensures.items)
          (two_more P 1 l.yielded l.clients.items x client l.invariant.seated one);
      clients = omega (arith, c.in_ok-push.ensures.len, l.invariant.clients, more);
      rest = l.invariant.rest ∙ ap (λ t. l.yielded ++ t) steps ∙ sym (append_assoc l.yielded (x ∷ []) left);
      rest_len = omega (arith, l.invariant.rest_len, ap (λ t. length t) steps, more);
      project = omega (arith, l.invariant.project, more);
      farm = c.in-Ok.ensures.seat.1 ∙ ap (λ f. opened_farm f.workers (f.given + 1)) l.invariant.farm
          ∙ ap (opened_farm c.args.farm.now.workers) count;
    }

pub returns-clause-seated : goal.returns-clause-seated
returns-clause-seated g c =
    let P : ℕ → g.row.S.Denot → Client g.row.N.Denot g.row.S.Denot g.row.V.Denot → Type 0 =
    λ k x y. (y.seat ≡ empty_client k) × (y.source ≡ Some x) × (y.replies ≡ None) × (y.reported.items ≡ []) in
    let l = c.sources in
    let left : length (into_iter_items l.source-iterator) ≡ 0 = sym l.source-iterator.rest.ok.0
    ∙ c.in-None.ensures.steps.0 in
    let all = l.invariant.rest ∙ ap (λ t. l.yielded ++ t) (nothing_left (into_iter_items l.source-iterator) left)
    ∙ append-nil l.yielded in
    subst (λ xs. EachTwo P 1 xs l.clients.items) (sym all) l.invariant.seated

pub returns-clause-new : goal.returns-clause-new
returns-clause-new g c = let l = c.sources in all_new {F = ℕ} (λ x s. ℕ) (λ x e. ℕ) (λ f. None)
    (λ w. None) (λ k. k.seat) (λ k. k.source) (λ k. k.replies) (λ k. k.reported) (λ k. k.ended) 1 l.yielded
    l.clients.items l.invariant.seated

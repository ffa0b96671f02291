use Rattle.std.proofs.Common.{◌≡◌, ◌+◌, ◌++◌, [], length, None, Some, vec_len}
use Rattle.std.specs.Vec.Iter.{into_iter_items}
use Rattle.pf_farm_state.specs.Clients.{empty_client}
use Rattle.pf_farm.specs.Farms.{opened_farm}
use Rattle.pf_clients.specs.Pairs.{EachTwo}
use Rattle.pf_clients.proofs.run.seated.Given as goal

abbrev pub invariant-sources : goal.invariant-sources
invariant-sources g l = record {
  seated : EachTwo (λ k x c. (c.seat ≡ empty_client k) × (c.source ≡ Some x) × (c.replies ≡ None)
      × (c.reported.items ≡ [])) 1 l.yielded
      l.clients.items;
  clients : vec_len l.clients ≡ length l.yielded;
  rest : l.fn.sources.items ≡ l.yielded ++ into_iter_items l.source-iterator;
  rest_len : length l.yielded + length (into_iter_items l.source-iterator) ≡ vec_len l.fn.sources;
  project : l.project ≡ length l.yielded;
  farm : l.farm ≡ opened_farm l.fn.farm.workers (length l.yielded);
}

use Rattle.std.proofs.Common.{◌≡◌, ◌+◌, ◌≤◌, ◌++◌, length, map, vec_len}
use Rattle.std.specs.Vec.{vec_capacity}
use Rattle.std.specs.Vec.Iter.{into_iter_items}
use Rattle.pf_clients.specs.Farms.{answers_of}
use Rattle.pf_clients.proofs.run.parted.Given as goal

abbrev pub invariant-clients : goal.invariant-clients
invariant-clients g l = record {
  seats : l.seats.items ≡ map (λ c. c.seat) l.yielded;
  answers : l.answers.items ≡ map (λ c. answers_of c.reported c.ended) l.yielded;
  replies : l.writers.items ≡ map (λ c. c.replies) l.yielded;
  seats_len : vec_len l.seats ≡ length l.yielded;
  answers_len : vec_len l.answers ≡ length l.yielded;
  replies_len : vec_len l.writers ≡ length l.yielded;
  rest : l.fn.clients.items ≡ l.yielded ++ into_iter_items l.client-iterator;
  rest_len : length l.yielded + length (into_iter_items l.client-iterator) ≡ vec_len l.fn.clients;
  seats_room : vec_len l.fn.clients ≤ vec_capacity l.seats;
  answers_room : vec_len l.fn.clients ≤ vec_capacity l.answers;
  replies_room : vec_len l.fn.clients ≤ vec_capacity l.writers;
}

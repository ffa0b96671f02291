use Rattle.std.proofs.Common.{rules}
use Rattle.std.proofs.lemmas.List.Sorted.{answers_always}
use Rattle.pf_sorted.proofs.Indices.{searched}
use Rattle.pf_sorted.proofs.set.SortedSet.index_of.Goals as goal

pub returns-clause-found : goal.returns-clause-found
returns-clause-found c =
    let facts = c.binary_search_by_key.ensures in
    let by_key = facts.position (λ item. item) (answers_always _ _ _ (λ f a r g called. search rules)) in
    rw (← c.self.view_is, ← c.deref.ensures.value)
    (searched (λ x. x) c.args.number c.deref.result.now (rw c.deref.ensures.value c.self.invariant) _
    facts.bound by_key)

use Rattle.std.proofs.Common.{rules, sym, subst}
use Rattle.crossbeam_deque.specs.Tasks.{Forks}
use Rattle.crossbeam_deque.specs.Handles.{worker_port, worker_view}
use Rattle.pf_farm_accounts.specs.Knowing.{with_entry, no_knowledge, IsBorneOnce}
use Rattle.pf_farm_accounts.proofs.Moves.{enters, hands_seen, borrows, has_below, starts}
use Rattle.pf_farm_accounts.proofs.register.enter_as.Goals as goal

pub another-requires : goal.another-requires
another-requires g c =
    let deque = c.len_as.new.self in
    subst (λ e. Forks IsBorneOnce (worker_port deque) (worker_view deque) (with_entry (worker_view deque) e)
    no_knowledge) (sym c.requires) (enters (worker_port deque) (worker_view deque) c.args.entry.now (search rules))

pub absorb-requires-clause-rule : goal.absorb-requires-clause-rule
absorb-requires-clause-rule g c = borrows _ _ _ _ (search rules) c.pass.invariant.1

pub len_as-requires : goal.len_as-requires
len_as-requires g c = starts _ _ (search rules)

pub len_as-requires-2 : goal.len_as-requires-2
len_as-requires-2 g c = has_below _ _ (search rules)

pub another-pass-requires : goal.another-pass-requires
another-pass-requires g c = hands_seen _ _ (search rules)

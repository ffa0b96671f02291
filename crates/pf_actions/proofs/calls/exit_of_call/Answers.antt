use Rattle.std.proofs.Common.{◌≡◌, None, arith, subst, sym}
use Rattle.pf_heap.specs.Heap.{word_values}
use Rattle.pf_model.specs.Contraction.{called}
use Rattle.pf_actions.specs.Acts.{exit_by}
use Rattle.pf_actions.proofs.Called.{exits_by_many}
use Rattle.pf_actions.proofs.calls.exit_of_call.Goals as goal

pub returns-in_default-words-2-clause-exit : goal.returns-in_default-words-2-clause-exit
returns-in_default-words-2-clause-exit c own h =
    subst (λ f. None ≡ exit_by (called own f (word_values h c.args.words.now))) (sym c.in-Exit.is)
    (exits_by_many own h c.args.words.now (λ e. absurd (omega (arith, e, c.in_default-words.len_at_least))))

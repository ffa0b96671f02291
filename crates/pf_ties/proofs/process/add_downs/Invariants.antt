use Rattle.std.proofs.Common.{◌≡◌, ◌++◌, take, map}
use Rattle.pf_terms.specs.Term.{value_of}
use Rattle.pf_model.specs.Channels.{down}
use Rattle.pf_ties.specs.Fates.{sent_of}
use Rattle.pf_ties.proofs.process.add_downs.Given as goal

abbrev pub invariant-loop-reference : goal.invariant-loop-reference
invariant-loop-reference l =
    map sent_of l.signals.items ≡ map sent_of l.fn.signals.items ++ map (λ w. (w.1, down w.0 (value_of l.reason)))
    (take l.reference-index l.watchers)

use Rattle.std.proofs.Common.{◌≡◌, ◌++◌, true, take, map}
use Rattle.pf_terms.specs.Term.{value_of}
use Rattle.pf_model.specs.Channels.{exit}
use Rattle.pf_ties.specs.Fates.{sent_of}
use Rattle.pf_ties.proofs.process.add_exits.Given as goal

abbrev pub invariant-loop-link : goal.invariant-loop-link
invariant-loop-link l =
    map sent_of l.signals.items ≡ map sent_of l.fn.signals.items ++ map (λ p. (p, exit true (value_of l.reason)))
    (take l.link-index l.links)

use Rattle.std.proofs.Common.{◌≡◌, ◌≢◌, sym, ap, ◌∙◌}
use Rattle.pf_hunt.specs.Hashes.{outcome_hash}
use Rattle.pf_hunt.proofs.Counting.{distinguished, unequal}
use Rattle.pf_hunt.proofs.hash.HashedOutcome.is.Goals as goal

pub returns-else-self-other : goal.returns-else-self-other
returns-else-self-other c =
    let a = c.args.self.now in
    let b = c.args.other.now in
    let of_a : c.self.inside.hash ≡ outcome_hash a = c.self.invariant ∙ ap outcome_hash c.self.view_is in
    let of_b : c.other.inside.hash ≡ outcome_hash b = c.other.invariant ∙ ap outcome_hash c.other.view_is in
    let differ : outcome_hash a ≢ outcome_hash b = λ e. c.if-self-other.false (of_a ∙ e ∙ sym of_b) in
    unequal _ _ c.if-self-other.false ∙ sym (distinguished a b differ)

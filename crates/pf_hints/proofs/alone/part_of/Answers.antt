use Rattle.std.proofs.Common.{ℕ, length, min, take, drop, ap, ◌∙◌}
use Rattle.pf_hints.proofs.Parts.{cut_out}
use Rattle.pf_hints.proofs.alone.part_of.Goals as goal

pub returns : goal.returns
returns c =
    let source = c.args.source.now in
    let after = c.split_at.result.1.now in
    cut_out source c.args.start c.args.end after c.split_at-2.result.0.now
    (c.split_at.ensures.back ∙ ap (λ (n : ℕ). drop n source) c.min.ensures)
    (c.split_at-2.ensures.front ∙ ap (λ (n : ℕ). take n after)
    (c.min-2.ensures ∙ ap (λ (m : ℕ). min m (length after)) c.saturating_sub.ensures))

use Rattle.std.proofs.Common.{sym, ap, ◌∙◌}
use Rattle.pf_syntax.specs.Module.{pattern_at}
use Rattle.pf_patterns.specs.Sameness.{same_pattern}
use Rattle.pf_patterns.proofs.SamePatterns.{pattern_true, pattern_itself}
use Rattle.pf_patterns.proofs.sameness.same_patterns.Goals as goal

pub returns : goal.returns
returns c =
    let p = pattern_at c.args.a.now.tables c.args.p.0 in
    let q = pattern_at c.args.b.now.tables c.args.q.0 in (
      λ t. pattern_true p q (sym c.same_at.ensures ∙ t),
      λ e. c.same_at.ensures ∙ ap (same_pattern p) (sym e)
          ∙ pattern_itself p,
    )

use Rattle.std.proofs.Common.{ℕ, ◌+◌, ◌∙◌, ap}
use Rattle.pf_positions.specs.Written.{line_at}
use Rattle.pf_positions.proofs.Lines.{line_later}
use Rattle.pf_positions.proofs.written.line_on.Goals as goal

pub returns : goal.returns
returns c =
    let source = c.args.source.now in
    ap (λ (n : ℕ). n + c.line_ends.result) c.requires.line
    ∙ ap (λ (n : ℕ). line_at source c.args.from + n) c.line_ends.ensures
    ∙ line_later source c.args.from c.args.to c.requires.forth

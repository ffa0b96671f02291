use Rattle.std.proofs.Common.{ap, ◌∙◌}
use Rattle.pf_chart.specs.Sheets.{side_at}
use Rattle.pf_chart.proofs.sheet.Sheet.side.Goals as goal

pub returns : goal.returns
returns c = c.side_at.ensures ∙ ap (side_at c.args.self.now.above c.args.self.now.count) c.rows_before.ensures

use Rattle.std.proofs.Common.{[], length}
use Rattle.pf_chart.specs.Pages.{page_in}
use Rattle.pf_chart.specs.Words.{DrawsInChart}
use Rattle.pf_chart.proofs.Lined.{HaveLinesTo}
use Rattle.pf_chart.proofs.strokes.put_arrows.Given as goal

-- what is drawn so far has no label, and the arrows so far have their lines
abbrev pub invariant-loop-arrow : goal.invariant-loop-arrow
invariant-loop-arrow l = record {
  drawn : DrawsInChart [] l.fn.svg l.svg;
  lines : HaveLinesTo (page_in l.sheet) (length l.columns) l.arrow-index l.arrows l.fn.svg l.svg;
}

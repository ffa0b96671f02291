use Rattle.std.proofs.Common.{length, arith}
use Rattle.pf_chart.specs.Pages.{page_in}
use Rattle.pf_svg.proofs.Drawn.{in_turn, nothing}
use Rattle.pf_chart.proofs.Lined.{drawn_grows, lines_all, lines_next}
use Rattle.pf_chart.proofs.strokes.put_arrows.Goals as goal

pub loop-arrow-init : goal.loop-arrow-init
loop-arrow-init c = record { drawn = nothing _; lines = λ i a low at from to here. absurd (omega (arith, low)) }

pub loop-arrow-preserved : goal.loop-arrow-preserved
loop-arrow-preserved c = record {
  drawn = in_turn c.loop-arrow.invariant.drawn c.in_ok-put_signal.ensures.drawn;
  lines = lines_next (page_in c.args.sheet) (length c.args.columns.now) c.loop-arrow.arrow-index c.args.arrows.now _
      c.loop-arrow.invariant.lines c.loop-arrow-test.true
      (drawn_grows _ _ _ c.loop-arrow.invariant.drawn) (drawn_grows _ _ _ c.in_ok-put_signal.ensures.drawn)
      c.in_ok-put_signal.ensures.line;
}

pub returns : goal.returns
returns c = record {
  drawn = c.loop-arrow.invariant.drawn;
  lines = lines_all (page_in c.args.sheet) (length c.args.columns.now) c.loop-arrow.arrow-index c.args.arrows.now
      c.loop-arrow.invariant.lines c.loop-arrow-test.false;
}

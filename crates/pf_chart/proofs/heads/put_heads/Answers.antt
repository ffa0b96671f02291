use Rattle.std.proofs.Common.{◌≡◌, ℕ, ◌∙◌, ap, arith}
use Rattle.pf_chart.specs.Chart.{copies}
use Rattle.pf_chart.specs.Origins.{labels_of_origin}
use Rattle.pf_chart.proofs.Charts.{copies_more}
use Rattle.pf_svg.proofs.Drawn.{in_turn, nothing, renamed}
use Rattle.pf_chart.proofs.heads.put_heads.Goals as goal

pub loop-index-init : goal.loop-index-init
loop-index-init c = nothing _

pub loop-index-preserved : goal.loop-index-preserved
loop-index-preserved c =
    renamed (copies_more c.loop-index.index (labels_of_origin c.args.origin))
    (in_turn c.loop-index.invariant c.in_ok-put_head.ensures)

pub returns : goal.returns
returns c =
    let all : c.loop-index.index ≡ c.head_rows-index-end.result = omega arith in
    renamed (ap (λ (k : ℕ). copies k (labels_of_origin c.args.origin)) (all ∙ c.head_rows-index-end.ensures))
    c.loop-index.invariant

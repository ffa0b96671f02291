use Rattle.std.proofs.Common.{ap, ◌∙◌, ◌++◌, List, ℕ}
use Rattle.std.proofs.lemmas.Result.{on_ok_weaker}
use Rattle.pf_chart.specs.Pages.{page_in}
use Rattle.pf_chart.specs.Sheets.{beginning_of, path_text}
use Rattle.pf_svg.proofs.Drawn.{grouped, in_turn, nothing, to_close}
use Rattle.pf_chart.proofs.Lined.{closed_grows, drawn_grows, grown_on, holds_put, holds_then, opened_grows, then_holds}
use Rattle.pf_chart.proofs.strokes.put_arrow.Goals as goal

pub returns-then-not-is_here : goal.returns-then-not-is_here
returns-then-not-is_here c = record { drawn = nothing _; line = λ here. absurd (cc) }

pub returns : goal.returns
returns c =
    let p = page_in c.args.sheet in
    let a = c.args.arrow.now in
    let from = c.beginning.result in
    let to = c.end.result in
    let line = c.in_ok-put_path.ensures.text
    ∙ ap (λ (t : List ℕ). c.title.new.self ++ t) (ap (λ x. path_text x to) c.beginning.ensures
    ∙ ap (path_text (beginning_of p a)) c.end.ensures) in
    record {
      drawn = on_ok_weaker c.close_group.result
          (λ h. grouped c.in_ok-put_opening.ensures
          (to_close (in_turn c.in_ok-title.ensures c.in_ok-put_path.ensures.drawn) h)) c.close_group.ensures;
      line = on_ok_weaker c.close_group.result
          (λ h here. then_holds (grown_on (opened_grows _ _ _ c.in_ok-put_opening.ensures)
          (drawn_grows _ _ _ c.in_ok-title.ensures))
          (holds_then (holds_put _ _ _ line) (closed_grows _ _ _ h))) c.close_group.ensures;
    }

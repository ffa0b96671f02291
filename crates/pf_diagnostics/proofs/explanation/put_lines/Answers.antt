use Rattle.std.proofs.Common.{◌≡◌, ℕ, take, drop, ap, ◌∙◌}
use Rattle.std.proofs.lemmas.Result.{on_ok_weaker}
use Rattle.std.proofs.lemmas.List.{take_min, drop_min}
use Rattle.pf_diagnostics.proofs.Pieces.{joined}
use Rattle.pf_diagnostics.proofs.explanation.put_lines.Goals as goal

pub returns : goal.returns
returns c =
    let source = c.args.source.now in
    let position = c.args.advice.position in
    let front : c.split_at.result.0.now ≡ take position source = c.split_at.ensures.front
    ∙ ap (λ (n : ℕ). take n source) c.min-position.ensures ∙ take_min position source in
    let after : c.split_at.result.1.now ≡ drop position source =
    c.split_at.ensures.back ∙ ap (λ (n : ℕ). drop n source) c.min-position.ensures ∙ drop_min position source in
    let first = rw front at c.in_ok-put_position.ensures in
    let second = rw (front, after) at c.in_ok-put_line.ensures in
    let third = rw front at c.in_ok-put_caret.ensures in
    let fourth = c.in_ok-put_sentence.ensures in
    on_ok_weaker c.put_rewrite.result (λ last. joined _ _ _ _ _ _ _ _ _ _ _ first second third fourth last)
    c.put_rewrite.ensures

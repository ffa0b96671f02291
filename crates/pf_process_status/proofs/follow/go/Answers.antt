use Rattle.std.proofs.Common.{sym, ◌∙◌}
use Rattle.pf_process_status.proofs.follow.go.Goals as goal

pub returns-in_ok-pass-in-Some : goal.returns-in_ok-pass-in-Some
returns-in_ok-pass-in-Some c d is_there = (
  c.in-Some.actor,
  sym (c.chosen.ensures.chosen d is_there) ∙ c.in-Some.is,
  (c.in_ok-pass-in-Some.field-0, c.in_ok-pass-in-Some.ensures.from_each d is_there),
)

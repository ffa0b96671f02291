use Rattle.std.proofs.Common.{◌≡◌, false, take}
use Rattle.std.specs.List.{list_any}
use Rattle.pf_model.specs.Shrinking.{is_failure}
use Rattle.pf_command.proofs.seeds.some_fails.Given as goal

-- no row before fails
abbrev pub invariant-loop-row : goal.invariant-loop-row
invariant-loop-row l = list_any (λ x. is_failure x.verdict) (take l.row-index l.rows) ≡ false

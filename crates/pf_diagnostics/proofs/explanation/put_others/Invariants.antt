use Rattle.std.proofs.Common.{◌≡◌, ◌++◌, take}
use Rattle.std.specs.Prelude.{[], flat_map}
use Rattle.pf_diagnostics.specs.Explanation.{explanation, line}
use Rattle.pf_diagnostics.proofs.explanation.put_others.Given as goal

-- those so far have gone out
abbrev pub invariant-loop-advice : goal.invariant-loop-advice
invariant-loop-advice l =
    l.out.items ≡ l.fn.out.items ++ flat_map (λ b. line [] ++ explanation l.source b) (take l.advice-index l.others)

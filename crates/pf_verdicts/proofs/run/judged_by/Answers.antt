use Rattle.std.proofs.Common.{◌≡◌, [], rules, tests, map, sym, subst}
use Rattle.std.specs.Prelude.{IfOk}
use Rattle.std.proofs.lemmas.List.{nil_from_length}
use Rattle.pf_property.specs.Views.{property_of}
use Rattle.pf_verdicts.specs.Judging.{JudgesBySeed}
use Rattle.pf_verdicts.proofs.run.judged_by.Goals as goal

pub returns-then-is_empty : goal.returns-then-is_empty
returns-then-is_empty c =
    let qs = c.args.further.now in
    let none : qs ≡ [] = nil_from_length qs (search (rules, tests)) in
    subst (λ ps. IfOk c.judged_alone.result (JudgesBySeed c.args.by.strategy (map property_of ps) c.args.job.now.asked
    c.args.by.seed)) (sym none) c.judged_alone.ensures

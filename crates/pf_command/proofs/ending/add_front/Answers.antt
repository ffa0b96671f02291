use Rattle.std.proofs.Common.{◌++◌}
use Rattle.std.specs.Prelude.{codes, option_map}
use Rattle.std.specs.Fmt.{decimal}
use Rattle.std.proofs.lemmas.Result.{on_err_weaker, on_ok_weaker}
use Rattle.pf_command.specs.Hunts.{failed_text}
use Rattle.pf_command.proofs.Adding.{adds_both, at_fault, front_after, front_longer}
use Rattle.pf_command.proofs.ending.add_front.Goals as goal

pub returns-in_err-add_seed-clause-front : goal.returns-in_err-add_seed-clause-front
returns-in_err-add_seed-clause-front g c =
    let seed = codes "seed " ++ decimal c.args.seed ++ codes "\n" in
    let failed = failed_text (option_map (λ s. s.now) c.args.property) in
    at_fault c.from_residual.result
    (front_longer c.args.waiting.now.items seed failed _ _ c.in_err-add_seed.ensures.front)

pub returns-clause-added : goal.returns-clause-added
returns-clause-added g c =
    let seed = codes "seed " ++ decimal c.args.seed ++ codes "\n" in
    let failed = failed_text (option_map (λ s. s.now) c.args.property) in
    on_ok_weaker c.add_failed.result
    (λ k. adds_both c.args.waiting.now.items seed c.add_seed.new.waiting.items failed
    c.add_failed.new.waiting.items _ _ _
    c.in_ok-add_seed.ensures.added k) c.add_failed.ensures.added

pub returns-clause-front : goal.returns-clause-front
returns-clause-front g c =
    let seed = codes "seed " ++ decimal c.args.seed ++ codes "\n" in
    let failed = failed_text (option_map (λ s. s.now) c.args.property) in
    on_err_weaker c.add_failed.result
    (λ k. front_after c.args.waiting.now.items seed c.add_seed.new.waiting.items failed _ _ _
    c.in_ok-add_seed.ensures.added k) c.add_failed.ensures.front

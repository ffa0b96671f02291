use Rattle.std.proofs.Common.{length, sym, ap, ◌∙◌}
use Rattle.std.specs.Prelude.{slice_get}
use Rattle.pf_system.specs.Steps.{noted_actors}
use Rattle.pf_system.proofs.WhoMayGo.{may_go}
use Rattle.pf_sched.proofs.execution.Execution.pass_next.Goals as goal

pub pass-requires-clause-enabled : goal.pass-requires-clause-enabled
pass-requires-clause-enabled c =
    may_go c.args.self.now.system (noted_actors c.enabled-enabled.result) c.enabled-enabled.ensures.actors
    c.in_ok-index.index c.actor-actor.result
    c.actor-actor.ensures

pub returns : goal.returns
returns c d is_there w s is =
    let chosen = c.in_ok-index.ensures.chooses d (c.enabled-enabled.ensures.both d is_there) w s is in (
      chosen.0,
      record {
        used = c.in_ok-pass.field-0;
        counts = c.len-among.ensures.count ∙ ap length (c.enabled-enabled.ensures.actors d is_there);
        chooses = chosen.1;
        chosen = ap (λ xs. slice_get xs c.in_ok-index.index) (sym (c.enabled-enabled.ensures.actors d is_there))
            ∙ c.actor-actor.ensures;
        passes = c.in_ok-pass.ensures.from_each d is_there;
      },
      chosen.2,
    )

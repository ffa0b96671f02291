use Rattle.std.proofs.Common.{sym, ap, ◌∙◌, take}
use Rattle.std.specs.Prelude.{map}
use Rattle.std.specs.List.{take-map}
use Rattle.pf_static_check.proofs.variable_states.VariableStates.forget.Goals as goal

pub returns-clause-trail : goal.returns-clause-trail
returns-clause-trail c =
    ap (map (λ a. a.0)) c.truncate.ensures.items
    ∙ sym (take-map (λ a. a.0) c.args.start c.set_since.new.self.trail.items)
    ∙ ap (take c.args.start) c.in_ok-set_since.ensures.trail

-- What the code's own explorations stand for.
use Rattle.std.specs.Prelude.{Bool}
use Rattle.pf_request.specs.View.{view_of_request}
use Rattle.pf_explore_answer.specs.Answers.{Exploration}
use Rattle.pf_explore_answer.specs.declared.exploration.Exploration as code

-- at a pace that may stop it, or not
abbrev pub view_of_exploration : (may_stop : Bool) → code.Exploration → Exploration
view_of_exploration may_stop x =
    record {
      request = view_of_request x.request.now;
      edition = x.edition;
      last = x.last;
      budget = x.budget;
      deviations = x.deviations;
      may_stop = may_stop;
    }

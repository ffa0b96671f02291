use Rattle.std.proofs.Common.{inl}
use Rattle.std.specs.Prelude.{option_map}
use Rattle.pf_words.specs.Explorations.{explored}
use Rattle.pf_words.proofs.explore.answer_explored.Goals as goal

pub returns-in-None : goal.returns-in-None
returns-in-None c =
    explored (option_map (λ v. v.items) c.args.explored.found) c.args.explored.text.items c.args.explored.status
    (inl c.in-None.is) c.requires

use Rattle.std.proofs.Common.{◌≡◌, take, map}
use Rattle.std.specs.List.{filter}
use Rattle.pf_hunt_suite.specs.Roots.{is_conventional}
use Rattle.pf_hunt_suite.proofs.roots.conventional.Given as goal

-- those of the names so far
abbrev pub invariant-loop-name : goal.invariant-loop-name
invariant-loop-name l = map (λ name. name.items) l.kept.items
    ≡ filter is_conventional (map (λ name. name.items) (take l.name-index l.names))

-- The values in scope that terms stand for.
use Rattle.std.specs.Prelude.{Bool, if◌then◌else◌, List, map, Option, Some, None}
use Rattle.pf_terms.specs.Term.{value_of}
use Rattle.pf_terms.specs.declared.term.Term.{Term}
use Rattle.pf_patterns.specs.Fit.{ValueScope}

abbrev pub scope_of : List Term → ValueScope
scope_of ts = map value_of ts

-- the scope, where the value fits
abbrev pub scope_if : Bool → List Term → Option ValueScope
scope_if b ts = if b then Some (scope_of ts) else None

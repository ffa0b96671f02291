use Rattle.std.proofs.Common.{◌≡◌, [], take}
use Rattle.std.specs.Prelude.{fold}
use Rattle.pf_syntax.specs.SyntaxTreeOver.{export_of}
use Rattle.pf_hunt_suite.specs.Roots.{name_with_root}
use Rattle.pf_hunt_suite.proofs.roots.roots_of.Given as goal

-- the roots of the entries so far
abbrev pub invariant-loop-export : goal.invariant-loop-export
invariant-loop-export l = l.atoms.items ≡ fold (λ atoms e. name_with_root atoms (export_of e)) []
    (take l.export-index l.exports)

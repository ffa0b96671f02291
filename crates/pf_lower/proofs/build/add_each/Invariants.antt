use Rattle.std.proofs.Common.{◌≡◌, take, []}
use Rattle.pf_rules.specs.Static.{names_of_module}
use Rattle.pf_lower.proofs.Heads_mean.{EachFunction}
use Rattle.pf_lower.proofs.build.add_each.Given as goal

abbrev pub invariant-loop-read : goal.invariant-loop-read
invariant-loop-read l = record {
  name : l.module.name ≡ l.initial.module.name;
  atoms : l.module.atoms ≡ l.initial.module.atoms;
  unbound : l.slots ≡ [];
  functions : EachFunction (names_of_module l.initial.module.atoms l.syntax.functions) l.syntax.exports
      (take l.read-index l.syntax.functions) l.module.functions;
}

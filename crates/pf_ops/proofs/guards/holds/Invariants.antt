use Rattle.std.proofs.Common.{◌≡◌, drop}
use Rattle.pf_terms.specs.Atoms.{name_of}
use Rattle.pf_syntax.specs.Over.{alternatives_over}
use Rattle.pf_patterns.specs.Slots.{activation}
use Rattle.pf_patterns.specs.Substitution.{sub_guard}
use Rattle.pf_ops.specs.Guards.{guard_holds}
use Rattle.pf_ops.proofs.guards.holds.Given as goal

-- the alternatives so far don't hold
abbrev pub invariant-loop-alternative : goal.invariant-loop-alternative
invariant-loop-alternative l =
    guard_holds (name_of l.code.atoms) l.own (sub_guard (activation l.env l.base)
    (alternatives_over l.code.tables (drop l.alternative-index l.alternative-items)))
    ≡ guard_holds (name_of l.code.atoms) l.own
    (sub_guard (activation l.env l.base) (alternatives_over l.code.tables l.alternative-items))

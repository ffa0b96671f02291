use Rattle.std.proofs.Common.{◌≡◌, take}
use Rattle.pf_terms.specs.Term.{values_of}
use Rattle.pf_syntax.specs.Naming.{characters}
use Rattle.pf_lower.proofs.strings.integers.Given as goal

abbrev pub invariant-loop-code : goal.invariant-loop-code
invariant-loop-code l = values_of l.terms.items ≡ characters (take l.code-index l.codes)

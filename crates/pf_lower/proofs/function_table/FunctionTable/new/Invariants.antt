use Rattle.std.proofs.Common.{◌≡◌, ℕ, take}
use Rattle.std.specs.BTreeMap.{get}
use Rattle.pf_rules.specs.Static.{own_in}
use Rattle.pf_lower.specs.Knows.{key_order}
use Rattle.pf_lower.proofs.function_table.FunctionTable.new.Given as goal

abbrev pub invariant-loop-number : goal.invariant-loop-number
invariant-loop-number l = (f arity : ℕ) → get key_order l.table.numbers (f, arity)
    ≡ own_in (take l.number l.syntax.functions) f arity

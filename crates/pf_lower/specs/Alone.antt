-- A pattern by itself: what it becomes, where no variable is bound before it.
use Rattle.std.specs.Prelude.{None}
use Rattle.pf_syntax.specs.ExprPattern.{ExprPattern}
use Rattle.pf_syntax.specs.Pattern.{Pattern}
use Rattle.pf_syntax.specs.Scope.{no_scope}
use Rattle.pf_syntax.specs.Naming.{Names, ExprPatternIs}
use Rattle.pf_rules.specs.Formed.{ExprPatternFormed}

-- atoms keep their numbers, and nothing names a function
abbrev pub only_atoms : Names
only_atoms = record { atom_of = λ a. a; own_of = λ f arity. None; builtin_of = λ f arity. None }

-- the pattern becomes this, where its strings are within the limits
abbrev pub BecomesAlone : ExprPattern → Pattern → Type 0
BecomesAlone q y = ExprPatternFormed q → ExprPatternIs only_atoms no_scope q y

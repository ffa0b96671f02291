-- What the tests of a guard are worth where they are.
use Rattle.std.specs.Prelude.{Bool, Option, option_and_then}
use Rattle.pf_terms.specs.Value.{Value, Values}
use Rattle.pf_terms.specs.Atoms.{name_of}
use Rattle.pf_syntax.specs.Tree.{Tree, Trees}
use Rattle.pf_syntax.specs.Module.{Tables}
use Rattle.pf_patterns.specs.Slots.{activation}
use Rattle.pf_patterns.specs.Substitution.{sub, sub_trees}
use Rattle.pf_ops.specs.Guards.{worth, all_worth, all_true, unless_decided, truth_of}
use Rattle.pf_ops.specs.declared.guards.Surroundings.{Surroundings}

-- the numbers of the module around a test
abbrev pub tables_in : Surroundings → Tables
tables_in s = s.code.now.tables

-- the value of a tree, over the variables in scope
abbrev pub worth_in : Surroundings → Tree → Option Value
worth_in s t = worth (name_of s.code.now.atoms) s.own (sub (activation s.env.now s.base) t)

-- that of two trees, the left one where its truth decides, else the right one
abbrev pub decided_in : Surroundings → Bool → Tree → Tree → Option Value
decided_in s b t u = option_and_then (λ v. unless_decided b v (truth_of v) (worth_in s u)) (worth_in s t)

-- the values of trees, where each has one
abbrev pub all_worth_in : Surroundings → Trees → Option Values
all_worth_in s ts = all_worth (name_of s.code.now.atoms) s.own (sub_trees (activation s.env.now s.base) ts)

-- whether every test gives `true`
abbrev pub all_true_in : Surroundings → Trees → Bool
all_true_in s ts = all_true (name_of s.code.now.atoms) s.own (sub_trees (activation s.env.now s.base) ts)

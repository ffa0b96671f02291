-- The parts of a node come before it: in the tables as they are when it is added.
use Rattle.std.specs.Prelude.{◌<◌, List, [], ◌∷◌, length}
use Rattle.std.specs.List.{All}
use Rattle.pf_syntax.specs.Module.{Tables}
use Rattle.pf_syntax.specs.declared.node.PatternId.{PatternId}
use Rattle.pf_syntax.specs.declared.node.Operand.{Operand}
use Rattle.pf_syntax.specs.declared.node.Operand.TheVariants as part
use Rattle.pf_syntax.specs.declared.node.PatternNode.{PatternNode}
use Rattle.pf_syntax.specs.declared.node.PatternNode.TheVariants as asks
use Rattle.pf_syntax.specs.declared.node.Guard.{Guard}
use Rattle.pf_syntax.specs.declared.node.Clause.{Clause}
use Rattle.pf_syntax.specs.declared.node.Node.{Node}
use Rattle.pf_syntax.specs.declared.node.Node.TheVariants as does
use Rattle.pf_syntax.specs.declared.node.FunctionClause.{FunctionClause}
use Rattle.pf_syntax.specs.declared.node.Function.{Function}

-- the pattern of this number is in the tables
abbrev pub PatternRepresents : Tables → PatternId → Type 0
PatternRepresents t p = p.0 < length t.patterns

-- what an operand names is in the tables
abbrev pub OperandRepresents : Tables → Operand → Type 0
OperandRepresents t (part.Literal l) = l.0 < length t.literals
OperandRepresents t (part.Node n) = n.0 < length t.trees
OperandRepresents t _ = Unit {0}

-- the tests of a guard are in the tables
abbrev pub GuardRepresents : Tables → Guard → Type 0
GuardRepresents t g = All (λ a. All (OperandRepresents t) a.tests.items) g.alternatives.items

-- the pattern, the tests and the body of a clause are in the tables
abbrev pub ClauseRepresents : Tables → Clause → Type 0
ClauseRepresents t c = PatternRepresents t c.pattern × GuardRepresents t c.guard × OperandRepresents t c.body

-- the parts of a pattern are in the tables
abbrev pub PatternPartsAreThere : Tables → PatternNode → Type 0
PatternPartsAreThere t (asks.Literal l) = l.0 < length t.literals
PatternPartsAreThere t (asks.Tuple ps) = All (PatternRepresents t) ps.items
PatternPartsAreThere t (asks.Cons p q) = PatternRepresents t p × PatternRepresents t q
PatternPartsAreThere t _ = Unit {0}

-- the parts of a node are in the tables
abbrev pub PartsAreThere : Tables → Node → Type 0
PartsAreThere t (does.Tuple ps) = All (OperandRepresents t) ps.items
PartsAreThere t (does.Cons a b) = OperandRepresents t a × OperandRepresents t b
PartsAreThere t (does.Binary o a b) = OperandRepresents t a × OperandRepresents t b
PartsAreThere t (does.Negate a) = OperandRepresents t a
PartsAreThere t (does.AndAlso a b) = OperandRepresents t a × OperandRepresents t b
PartsAreThere t (does.OrElse a b) = OperandRepresents t a × OperandRepresents t b
PartsAreThere t (does.Call f ps) = All (OperandRepresents t) ps.items
PartsAreThere t (does.Builtin f ps) = All (OperandRepresents t) ps.items
PartsAreThere t (does.Match ps a) = All (PatternRepresents t) ps.items × OperandRepresents t a
PartsAreThere t (does.Bind ps a r) = All (PatternRepresents t) ps.items × OperandRepresents t a × OperandRepresents t r
PartsAreThere t (does.Case a cs) = OperandRepresents t a × All (ClauseRepresents t) cs.items
PartsAreThere t (does.If cs) = All (ClauseRepresents t) cs.items
PartsAreThere t (does.Receive cs) = All (ClauseRepresents t) cs.items
PartsAreThere t (does.Send a b) = OperandRepresents t a × OperandRepresents t b

-- the patterns, the tests and the body of a function's clause are in the tables
abbrev pub FunctionClauseRepresents : Tables → FunctionClause → Type 0
FunctionClauseRepresents t c = All (PatternRepresents t) c.parameters.items × GuardRepresents t c.guard
    × OperandRepresents t c.body

-- the parts of a function are in the tables
abbrev pub FunctionRepresents : Tables → Function → Type 0
FunctionRepresents t f = All (FunctionClauseRepresents t) f.clauses.items

-- each of these is in what those before it made, one step each
abbrev pub InTurn : {T X : Type 0} → (T → X → Type 0) → (T → X → T) → T → List X → Type 0
InTurn is_there step t [] = Unit {0}
InTurn is_there step t (x ∷ xs) = is_there t x × InTurn is_there step (step t x) xs

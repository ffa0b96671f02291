-- What the nodes of a module stand for, over its tables.
use Rattle.std.specs.Prelude.{List, [], ◌∷◌, ◌++◌, map}
use Rattle.pf_terms.specs.Value.{Value, int, atom, list, none}
use Rattle.pf_syntax.specs.Pattern.{Pattern, Patterns, any, new, slot, known, tuple_of, cons_of, never, no_patterns}
use Rattle.pf_syntax.specs.Pattern.{pattern}
use Rattle.pf_syntax.specs.Tree.{Tree, Trees, Clauses, Guard, lit, var, tuple, cons, op, neg, and_also, or_else, call}
use Rattle.pf_syntax.specs.Tree.{builtin, match, bind, case, if_expression, receive, send, no_trees, tree, no_clauses}
use Rattle.pf_syntax.specs.Tree.{clause, no_alternatives, alternative, no_guard, Function, FunctionClause}
use Rattle.pf_syntax.specs.Module.{Tables, Checked, literal_at, pattern_at, tree_at}
use Rattle.pf_syntax.specs.declared.node.PatternId.{PatternId}
use Rattle.pf_syntax.specs.declared.node.Operand.{Operand}
use Rattle.pf_syntax.specs.declared.node.Operand.TheVariants as part
use Rattle.pf_syntax.specs.declared.node.PatternNode.{PatternNode}
use Rattle.pf_syntax.specs.declared.node.PatternNode.TheVariants as asks
use Rattle.pf_syntax.specs.declared.node.Alternative.{Alternative}
use Rattle.pf_syntax.specs.declared.node.Guard.{Guard as GuardNode}
use Rattle.pf_syntax.specs.declared.node.Clause.{Clause}
use Rattle.pf_syntax.specs.declared.node.Node.{Node}
use Rattle.pf_syntax.specs.declared.node.Node.TheVariants as does
use Rattle.pf_syntax.specs.declared.node.FunctionClause.{FunctionClause as FunctionClauseNode}
use Rattle.pf_syntax.specs.declared.node.Function.{Function as FunctionNode}

-- ---- patterns

-- the patterns of these numbers, in order
abbrev pub patterns_at : Tables → List PatternId → Patterns
patterns_at t [] = no_patterns
patterns_at t (p ∷ ps) = pattern (pattern_at t p.0) (patterns_at t ps)

-- the pattern of a node, over the patterns of its parts
abbrev pub pattern_over : Tables → PatternNode → Pattern
pattern_over t asks.Any = any
pattern_over t asks.New = new
pattern_over t (asks.Slot x) = slot x
pattern_over t (asks.Int n) = known (int n)
pattern_over t (asks.Atom a) = known (atom a.0)
pattern_over t asks.Nil = known (list none)
pattern_over t (asks.Literal l) = known (literal_at t l.0)
pattern_over t (asks.Tuple ps) = tuple_of (patterns_at t ps.items)
pattern_over t (asks.Cons p q) = cons_of (pattern_at t p.0) (pattern_at t q.0)
pattern_over t asks.Never = never

-- ---- expressions

-- the tree of an operand
abbrev pub part_over : Tables → Operand → Tree
part_over t (part.Slot x) = var x
part_over t (part.Int n) = lit (int n)
part_over t (part.Atom a) = lit (atom a.0)
part_over t part.Nil = lit (list none)
part_over t (part.Literal l) = lit (literal_at t l.0)
part_over t (part.Node n) = tree_at t n.0

-- the trees of operands, in order
abbrev pub parts_over : Tables → List Operand → Trees
parts_over t [] = no_trees
parts_over t (p ∷ ps) = tree (part_over t p) (parts_over t ps)

-- the guard of these alternatives, each with its tests
abbrev pub alternatives_over : Tables → List Alternative → Guard
alternatives_over t [] = no_alternatives
alternatives_over t (a ∷ gs) = alternative (parts_over t a.tests.items) (alternatives_over t gs)

-- the guard of a clause with these alternatives. With none of them the clause has no `when`
abbrev pub guard_from : Tables → List Alternative → Guard
guard_from t [] = no_guard
guard_from t (a ∷ gs) = alternatives_over t (a ∷ gs)

-- a guard, over the trees of its tests
abbrev pub guard_over : Tables → GuardNode → Guard
guard_over t g = guard_from t g.alternatives.items

-- clauses, each with its pattern, its guard and its body
abbrev pub clauses_over : Tables → List Clause → Clauses
clauses_over t [] = no_clauses
clauses_over t (c ∷ cs) = clause (pattern_at t c.pattern.0) (guard_over t c.guard) (part_over t c.body)
    (clauses_over t cs)

-- the tree of a node, over the trees of its parts
abbrev pub tree_over : Tables → Node → Tree
tree_over t (does.Tuple ps) = tuple (parts_over t ps.items)
tree_over t (does.Cons a b) = cons (part_over t a) (part_over t b)
tree_over t (does.Binary o a b) = op o (part_over t a) (part_over t b)
tree_over t (does.Negate a) = neg (part_over t a)
tree_over t (does.AndAlso a b) = and_also (part_over t a) (part_over t b)
tree_over t (does.OrElse a b) = or_else (part_over t a) (part_over t b)
tree_over t (does.Call f ps) = call f.0 (parts_over t ps.items)
tree_over t (does.Builtin f ps) = builtin f (parts_over t ps.items)
tree_over t (does.Match ps a) = match (patterns_at t ps.items) (part_over t a)
tree_over t (does.Bind ps a r) = bind (patterns_at t ps.items) (part_over t a) (part_over t r)
tree_over t (does.Case a cs) = case (part_over t a) (clauses_over t cs.items)
tree_over t (does.If cs) = if_expression (clauses_over t cs.items)
tree_over t (does.Receive cs) = receive (clauses_over t cs.items)
tree_over t (does.Send a b) = send (part_over t a) (part_over t b)

-- ---- functions

-- a clause of a function, over its parts
abbrev pub function_clause_over : Tables → FunctionClauseNode → FunctionClause
function_clause_over t c = record {
  parameters = patterns_at t c.parameters.items;
  guard = guard_over t c.guard;
  body =
      part_over t c.body;
}

-- a function, over the parts of its clauses
abbrev pub function_over : Tables → FunctionNode → Function
function_over t f = record {
  name = f.name.0;
  arity = f.arity;
  exported = f.exported;
  clauses =
      map (function_clause_over t) f.clauses.items;
}

-- ---- one more

-- the tables with one more literal, pattern or tree, which is last
abbrev pub with_literal : Tables → Value → Tables
with_literal t v = record { literals = t.literals ++ v ∷ []; patterns = t.patterns; trees = t.trees }

abbrev pub with_pattern : Tables → PatternNode → Tables
with_pattern t p = record { literals = t.literals; patterns = t.patterns ++ pattern_over t p ∷ []; trees = t.trees }

abbrev pub with_tree : Tables → Node → Tables
with_tree t n = record { literals = t.literals; patterns = t.patterns; trees = t.trees ++ tree_over t n ∷ [] }

-- the module with these tables
abbrev pub with_tables : Checked → Tables → Checked
with_tables m t = record { name = m.name; atoms = m.atoms; tables = t; functions = m.functions }

-- the module with one more function, which is last
abbrev pub with_function : Checked → FunctionNode → Checked
with_function m f = record {
  name = m.name;
  atoms = m.atoms;
  tables = m.tables;
  functions =
      m.functions ++ function_over m.tables f ∷ [];
}

-- The spots of a module: the signs of its nodes, in the order of the text.
use Rattle.std.specs.Prelude.{ℕ, ◌+◌, Bool, false, if◌then◌else◌, List, [], ◌∷◌, ◌++◌, Option, Some, None, flat_map}
use Rattle.std.specs.Prelude.{pos, int_lt}
use Rattle.pf_terms.specs.Value.{Value, int}
use Rattle.pf_syntax.specs.Pattern.{Pattern, Patterns, known, tuple_of, cons_of, no_patterns, pattern}
use Rattle.pf_syntax.specs.Tree.{Tree, Trees, Clauses, Guard, lit, var, tuple, cons, op, neg, and_also, or_else, call}
use Rattle.pf_syntax.specs.Tree.{builtin, match, bind, case, if_expression, receive, send, no_trees, tree, no_clauses}
use Rattle.pf_syntax.specs.Tree.{clause, no_alternatives, alternative, Function, FunctionClause, Program}
use Rattle.pf_syntax.specs.Module.{Checked}
use Rattle.pf_positions.specs.declared.sign.Sign.{Sign}
use Rattle.pf_positions.specs.declared.sign.Sign.TheVariants.{Receive, Case, If, AndAlso, OrElse, Send, Match, Name}
use Rattle.pf_positions.specs.declared.sign.Sign.TheVariants.{Brace, Minus, Unwritten}
use Rattle.pf_positions.specs.Signs.{operator_sign}

-- a spot: a sign, the function in which it is, and the node that it is the sign of, if it is one's
pub record Spot : Type 0 where
  pub sign : Sign
  pub function : ℕ
  pub tree : Option Tree

-- the sign of a node
abbrev pub of_node : ℕ → Sign → Tree → Spot
of_node f s t = record { sign = s; function = f; tree = Some t }

-- a sign of no node
abbrev pub of_none : ℕ → Sign → Spot
of_none f s = record { sign = s; function = f; tree = None }

-- ---- patterns

abbrev pub is_negative : Value → Bool
is_negative (int z) = int_lt z (pos 0)
is_negative v = false

abbrev pub minus_if : ℕ → Bool → List Spot
minus_if f negative = if negative then of_none f Minus ∷ [] else []

-- a negative integer has a minus
abbrev pub value_spots : ℕ → Value → List Spot
value_spots f v = minus_if f (is_negative v)

-- the braces of tuples and the minuses of integers
abbrev mutual
  pub pattern_spots : ℕ → Pattern → List Spot
  pattern_spots f (known v) = value_spots f v
  pattern_spots f (tuple_of ps) = of_none f Brace ∷ patterns_spots f ps
  pattern_spots f (cons_of p q) = pattern_spots f p ++ pattern_spots f q
  pattern_spots f p = []

  pub patterns_spots : ℕ → Patterns → List Spot
  patterns_spots f no_patterns = []
  patterns_spots f (pattern p ps) = pattern_spots f p ++ patterns_spots f ps

-- the patterns of a match, the innermost of which comes last in the text, each with its sign
abbrev pub equations : ℕ → Tree → Patterns → List Spot
equations f t no_patterns = []
equations f t (pattern p ps) = equations f t ps ++ (pattern_spots f p ++ of_node f Match t ∷ [])

-- what is before the value of a match; with no pattern it is no match
abbrev pub before_value : ℕ → Tree → Patterns → List Spot
before_value f t no_patterns = of_node f Unwritten t ∷ []
before_value f t (pattern p ps) = equations f t (pattern p ps)

-- ---- expressions

-- a word, a brace or a name is before the parts of a node, an operator between its operands
abbrev mutual
  pub tree_spots : ℕ → Tree → List Spot
  tree_spots f (lit v) = []
  tree_spots f (var x) = []
  tree_spots f (tuple ts) = of_node f Brace (tuple ts) ∷ trees_spots f ts
  tree_spots f (cons a b) = of_node f Unwritten (cons a b) ∷ (tree_spots f a ++ tree_spots f b)
  tree_spots f (op o a b) = tree_spots f a ++ of_node f (operator_sign o) (op o a b) ∷ tree_spots f b
  tree_spots f (neg a) = of_node f Minus (neg a) ∷ tree_spots f a
  tree_spots f (and_also a b) = tree_spots f a ++ of_node f AndAlso (and_also a b) ∷ tree_spots f b
  tree_spots f (or_else a b) = tree_spots f a ++ of_node f OrElse (or_else a b) ∷ tree_spots f b
  tree_spots f (call g ts) = of_node f Name (call g ts) ∷ trees_spots f ts
  tree_spots f (builtin g ts) = of_node f Name (builtin g ts) ∷ trees_spots f ts
  tree_spots f (match ps a) = before_value f (match ps a) ps ++ tree_spots f a
  tree_spots f (bind ps a r) = before_value f (bind ps a r) ps ++ (tree_spots f a ++ tree_spots f r)
  tree_spots f (case a cs) = of_node f Case (case a cs) ∷ (tree_spots f a ++ clauses_spots f cs)
  tree_spots f (if_expression cs) = of_node f If (if_expression cs) ∷ clauses_spots f cs
  tree_spots f (receive cs) = of_node f Receive (receive cs) ∷ clauses_spots f cs
  tree_spots f (send a b) = tree_spots f a ++ of_node f Send (send a b) ∷ tree_spots f b

  pub trees_spots : ℕ → Trees → List Spot
  trees_spots f no_trees = []
  trees_spots f (tree t ts) = tree_spots f t ++ trees_spots f ts

  pub clauses_spots : ℕ → Clauses → List Spot
  clauses_spots f no_clauses = []
  clauses_spots f (clause p g b cs) = (pattern_spots f p ++ (guard_spots f g ++ tree_spots f b)) ++ clauses_spots f cs

  pub guard_spots : ℕ → Guard → List Spot
  guard_spots f no_alternatives = []
  guard_spots f (alternative ts g) = trees_spots f ts ++ guard_spots f g

-- ---- functions

-- a clause of a function begins with the function's name
abbrev pub head_spots : ℕ → FunctionClause → List Spot
head_spots f c = of_none f Name ∷ (patterns_spots f c.parameters ++ (guard_spots f c.guard ++ tree_spots f c.body))

abbrev pub function_spots : ℕ → Function → List Spot
function_spots f g = flat_map (head_spots f) g.clauses

-- functions, the first of which has this number
abbrev pub program_spots : ℕ → Program → List Spot
program_spots f [] = []
program_spots f (g ∷ gs) = function_spots f g ++ program_spots (f + 1) gs

-- the spots of a module
abbrev pub spots_of : Checked → List Spot
spots_of m = program_spots 0 m.functions

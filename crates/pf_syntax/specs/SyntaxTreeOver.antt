-- What the nodes of a syntax tree stand for, over its table of nodes, and that their parts are in it.
use Rattle.std.specs.Prelude.{ℕ, ◌+◌, ◌<◌, List, [], ◌∷◌, ◌++◌, length, map, max}
use Rattle.std.specs.List.{All}
use Rattle.pf_syntax.specs.ExprPattern.{ExprPattern, ExprPatterns, no_expr_patterns, expr_pattern, expr_pattern_size}
use Rattle.pf_syntax.specs.ExprPattern.{expr_pattern_depth}
use Rattle.pf_syntax.specs.ExprPattern as s
use Rattle.pf_syntax.specs.Expr.{Expr, Exprs, Condition, Branches, no_exprs, expr, no_tests, tests, no_branches, branch}
use Rattle.pf_syntax.specs.Expr.{exprs_size, exprs_depth, condition_size, condition_depth}
use Rattle.pf_syntax.specs.Expr as p
use Rattle.pf_syntax.specs.SyntaxTree.{NodeTable, ExprArena, Export, Head, expr_pattern_at, expr_at}
use Rattle.pf_syntax.specs.declared.expr.ExprPatternId.{ExprPatternId}
use Rattle.pf_syntax.specs.declared.expr.ExprId.{ExprId}
use Rattle.pf_syntax.specs.declared.expr.ExprPatternNode.{ExprPatternNode}
use Rattle.pf_syntax.specs.declared.expr.ExprPatternNode.TheVariants as asks
use Rattle.pf_syntax.specs.declared.expr.ExprNode.{ExprNode}
use Rattle.pf_syntax.specs.declared.expr.ExprNode.TheVariants as says
use Rattle.pf_syntax.specs.declared.expr.Tests.{Tests}
use Rattle.pf_syntax.specs.declared.expr.Condition.{Condition as ConditionNode}
use Rattle.pf_syntax.specs.declared.expr.Branch.{Branch}
use Rattle.pf_syntax.specs.declared.expr.Head.{Head as HeadNode}
use Rattle.pf_syntax.specs.declared.expr.ExprFunction.{ExprFunction}
use Rattle.pf_syntax.specs.declared.expr.Export.{Export as ExportNode}

-- ---- patterns

-- the patterns of these numbers, in order
abbrev pub expr_patterns_at : NodeTable → List ExprPatternId → ExprPatterns
expr_patterns_at b [] = no_expr_patterns
expr_patterns_at b (q ∷ qs) = expr_pattern (expr_pattern_at b q.0) (expr_patterns_at b qs)

-- the pattern of a node, over the patterns of its parts
abbrev pub expr_pattern_over : NodeTable → ExprPatternNode → ExprPattern
expr_pattern_over b (asks.Integer n) = s.integer n
expr_pattern_over b (asks.Atom a) = s.atom a.0
expr_pattern_over b (asks.Text cs) = s.text cs.items
expr_pattern_over b (asks.Variable w) = s.variable w.name.0 w.offset
expr_pattern_over b asks.Anything = s.anything
expr_pattern_over b (asks.Tuple qs) = s.tuple (expr_patterns_at b qs.items)
expr_pattern_over b (asks.List qs) = s.list (expr_patterns_at b qs.items)
expr_pattern_over b (asks.ListOn qs t) = s.list_on (expr_patterns_at b qs.items) (expr_pattern_at b t.0)

-- ---- expressions

-- the expressions of these numbers, in order
abbrev pub exprs_at : NodeTable → List ExprId → Exprs
exprs_at b [] = no_exprs
exprs_at b (e ∷ es) = expr (expr_at b e.0) (exprs_at b es)

-- the guard of these alternatives, each with its tests
abbrev pub alternatives_at : NodeTable → List Tests → Condition
alternatives_at b [] = no_tests
alternatives_at b (g ∷ gs) = tests (exprs_at b g.tests.items) (alternatives_at b gs)

-- a guard, over the expressions of its tests
abbrev pub condition_over : NodeTable → ConditionNode → Condition
condition_over b g = alternatives_at b g.alternatives.items

-- clauses, each with its pattern, its guard and its body
abbrev pub branches_over : NodeTable → List Branch → Branches
branches_over b [] = no_branches
branches_over b (c ∷ cs) = branch (expr_pattern_at b c.expr_pattern.0) (condition_over b c.condition)
    (exprs_at b c.body.items) (branches_over b cs)

-- the expression of a node, over those of its parts
abbrev pub expr_over : NodeTable → ExprNode → Expr
expr_over b (says.Integer n) = p.integer n
expr_over b (says.Atom a) = p.atom a.0
expr_over b (says.Text cs) = p.text cs.items
expr_over b (says.Variable w) = p.variable w.name.0 w.offset
expr_over b (says.Anonymous at) = p.anonymous at
expr_over b (says.Parentheses e) = p.parentheses (expr_at b e.0)
expr_over b (says.Tuple es) = p.tuple (exprs_at b es.items)
expr_over b (says.List es) = p.list (exprs_at b es.items)
expr_over b (says.ListOn es t) = p.list_on (exprs_at b es.items) (expr_at b t.0)
expr_over b (says.Call w es) = p.call w.name.0 w.offset (exprs_at b es.items)
expr_over b (says.Binary o l r) = p.binary o (expr_at b l.0) (expr_at b r.0)
expr_over b (says.Negate e) = p.negate (expr_at b e.0)
expr_over b (says.AndAlso l r) = p.and_also (expr_at b l.0) (expr_at b r.0)
expr_over b (says.OrElse l r) = p.or_else (expr_at b l.0) (expr_at b r.0)
expr_over b (says.Send l r) = p.send (expr_at b l.0) (expr_at b r.0)
expr_over b (says.Match q e) = p.match (expr_pattern_at b q.0) (expr_at b e.0)
expr_over b (says.Case e cs) = p.case (expr_at b e.0) (branches_over b cs.items)
expr_over b (says.If cs) = p.if_expression (branches_over b cs.items)
expr_over b (says.Receive cs) = p.receive (branches_over b cs.items)

-- ---- functions and exports

-- a clause of a function, over its parts
abbrev pub head_over : NodeTable → HeadNode → Head
head_over b h =
    record {
      name = h.ident.name.0;
      offset = h.ident.offset;
      parameters = expr_patterns_at b h.parameters.items;
      condition = condition_over b h.condition;
      body = exprs_at b h.body.items;
    }

-- a function, as its clauses
abbrev pub heads_over : NodeTable → ExprFunction → List Head
heads_over b f = map (head_over b) f.heads.items

-- an entry of an export list
abbrev pub export_of : ExportNode → Export
export_of e = record { name = e.ident.name.0; arity = e.arity; offset = e.ident.offset }

-- ---- one more

-- the table of nodes with one more pattern or expression, which is last
abbrev pub with_expr_pattern : NodeTable → ExprPatternNode → NodeTable
with_expr_pattern b q = record { expr_patterns = b.expr_patterns ++ expr_pattern_over b q ∷ []; exprs = b.exprs }

abbrev pub with_expr : NodeTable → ExprNode → NodeTable
with_expr b e = record { expr_patterns = b.expr_patterns; exprs = b.exprs ++ expr_over b e ∷ [] }

-- the module with this table of nodes
abbrev pub with_node_table : ExprArena → NodeTable → ExprArena
with_node_table m b = record { name = m.name; exports = m.exports; node_table = b; functions = m.functions }

-- the module with one more export or function, which is last
abbrev pub with_export : ExprArena → ExportNode → ExprArena
with_export m e = record {
  name = m.name;
  exports = m.exports ++ export_of e ∷ [];
  node_table = m.node_table;
  functions = m.functions;
}

abbrev pub with_expr_function : ExprArena → ExprFunction → ExprArena
with_expr_function m f = record {
  name = m.name;
  exports = m.exports;
  node_table = m.node_table;
  functions =
      m.functions ++ heads_over m.node_table f ∷ [];
}

-- ---- parts are there

-- the pattern or the expression of this number is in the table of nodes
abbrev pub ExprPatternRepresents : NodeTable → ExprPatternId → Type 0
ExprPatternRepresents b q = q.0 < length b.expr_patterns

abbrev pub ExprRepresents : NodeTable → ExprId → Type 0
ExprRepresents b e = e.0 < length b.exprs

-- the tests of a guard are in the table of nodes
abbrev pub ConditionRepresents : NodeTable → ConditionNode → Type 0
ConditionRepresents b g = All (λ a. All (ExprRepresents b) a.tests.items) g.alternatives.items

-- the pattern, the tests and the body of a clause are in the table of nodes
abbrev pub BranchRepresents : NodeTable → Branch → Type 0
BranchRepresents b c = ExprPatternRepresents b c.expr_pattern × ConditionRepresents b c.condition
    × All (ExprRepresents b) c.body.items

-- the parts of a pattern are in the table of nodes
abbrev pub ExprPatternPartsAreThere : NodeTable → ExprPatternNode → Type 0
ExprPatternPartsAreThere b (asks.Tuple qs) = All (ExprPatternRepresents b) qs.items
ExprPatternPartsAreThere b (asks.List qs) = All (ExprPatternRepresents b) qs.items
ExprPatternPartsAreThere b (asks.ListOn qs t) = All (ExprPatternRepresents b) qs.items × ExprPatternRepresents b t
ExprPatternPartsAreThere b _ = Unit {0}

-- the parts of an expression are in the table of nodes
abbrev pub ExprPartsAreThere : NodeTable → ExprNode → Type 0
ExprPartsAreThere b (says.Parentheses e) = ExprRepresents b e
ExprPartsAreThere b (says.Tuple es) = All (ExprRepresents b) es.items
ExprPartsAreThere b (says.List es) = All (ExprRepresents b) es.items
ExprPartsAreThere b (says.ListOn es t) = All (ExprRepresents b) es.items × ExprRepresents b t
ExprPartsAreThere b (says.Call w es) = All (ExprRepresents b) es.items
ExprPartsAreThere b (says.Binary o l r) = ExprRepresents b l × ExprRepresents b r
ExprPartsAreThere b (says.Negate e) = ExprRepresents b e
ExprPartsAreThere b (says.AndAlso l r) = ExprRepresents b l × ExprRepresents b r
ExprPartsAreThere b (says.OrElse l r) = ExprRepresents b l × ExprRepresents b r
ExprPartsAreThere b (says.Send l r) = ExprRepresents b l × ExprRepresents b r
ExprPartsAreThere b (says.Match q e) = ExprPatternRepresents b q × ExprRepresents b e
ExprPartsAreThere b (says.Case e cs) = ExprRepresents b e × All (BranchRepresents b) cs.items
ExprPartsAreThere b (says.If cs) = All (BranchRepresents b) cs.items
ExprPartsAreThere b (says.Receive cs) = All (BranchRepresents b) cs.items
ExprPartsAreThere b _ = Unit {0}

-- the patterns, the tests and the body of a function's clause are in the table of nodes
abbrev pub HeadRepresents : NodeTable → HeadNode → Type 0
HeadRepresents b h = All (ExprPatternRepresents b) h.parameters.items × ConditionRepresents b h.condition
    × All (ExprRepresents b) h.body.items

-- the parts of a function are in the table of nodes
abbrev pub HeadsAreThere : NodeTable → ExprFunction → Type 0
HeadsAreThere b f = All (HeadRepresents b) f.heads.items

-- ---- the size and the depth of a clause's parts together

abbrev pub branch_size : NodeTable → Branch → ℕ
branch_size b c = expr_pattern_size (expr_pattern_at b c.expr_pattern.0)
    + (condition_size (condition_over b c.condition) + exprs_size (exprs_at b c.body.items))

abbrev pub branch_depth : NodeTable → Branch → ℕ
branch_depth b c = max (expr_pattern_depth (expr_pattern_at b c.expr_pattern.0))
    (max (condition_depth (condition_over b c.condition)) (exprs_depth (exprs_at b c.body.items)))

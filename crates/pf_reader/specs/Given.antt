-- How the code's answers relate to what reading gives.
use Rattle.std.specs.Prelude.{◌≡◌, Option, Some, None, Result, Ok, Err}
use Rattle.std.specs.Prelude.{List, map, ◌++◌}
use Rattle.std.specs.List.{All}
use Rattle.pf_syntax.specs.SyntaxTreeOver.{condition_over, ConditionRepresents, ExprRepresents, ExprPatternRepresents}
use Rattle.pf_syntax.specs.declared.expr.Branch.{Branch}
use Rattle.pf_syntax.specs.declared.expr.Tests.{Tests}
use Rattle.pf_grammar.specs.Parse.{◌>>=◌, ParsedClause, ClauseFront}
use Rattle.pf_syntax.proofs.NodeTableExtends.{GoesOn}
use Rattle.pf_syntax.specs.ExprPattern.{ExprPattern}
use Rattle.pf_syntax.specs.Expr.{Expr}
use Rattle.pf_syntax.specs.SyntaxTree.{NodeTable, ExprArena, expr_pattern_at, expr_at}
use Rattle.pf_syntax.specs.declared.expr.ExprPatternId.{ExprPatternId}
use Rattle.pf_syntax.specs.declared.expr.ExprId.{ExprId}
use Rattle.pf_tokens.specs.NumberedTokens.{NumberedToken}
use Rattle.pf_reader.specs.View.{tokens_in}
use Rattle.pf_reader.specs.declared.part.FrontPart.{FrontPart}
use Rattle.pf_reader.specs.declared.part.ReadOperand.{ReadOperand}
use Rattle.pf_reader.specs.declared.part.ExprPatternPart.{ExprPatternPart}
use Rattle.pf_errors.specs.declared.fault.OrNoMemory.{OrNoMemory}
use Rattle.pf_errors.specs.declared.fault.OrNoMemory.TheVariants.{NoMemory, Fault}
use Rattle.pf_reader.specs.declared.fault.Syntax.{Syntax}

-- out of memory says nothing of the tokens, and a fault of syntax is that nothing is read
abbrev pub Fails : {Y : Type 0} → OrNoMemory Syntax → Option Y → Type 0
Fails NoMemory read = Unit {0}
Fails (Fault s) read = read ≡ None

-- what a function answered, seen by a view, is what reading gives, unless memory ran out
abbrev pub Gives : {X Y : Type 0} → (X → Y) → Result X (OrNoMemory Syntax) → Option Y → Type 0
Gives view (Ok x) read = read ≡ Some (view x)
Gives view (Err e) read = Fails e read

-- ---- syntax trees that are read into

-- a syntax tree that grew: its table of nodes goes on where it ended, and the rest is as it was
pub record Grown (old new : ExprArena) : Type 0 where
  pub name : new.name ≡ old.name
  pub exports : new.exports ≡ old.exports
  pub functions : new.functions ≡ old.functions
  pub node_table : GoesOn old.node_table new.node_table

-- the expression of a number
abbrev pub expr_of : NodeTable → ExprId → Expr
expr_of b e = expr_at b e.0

abbrev pub expr_pattern_of : NodeTable → ExprPatternId → ExprPattern
expr_pattern_of b q = expr_pattern_at b q.0

-- an expression that was read, and the tokens after it
abbrev pub expression_seen : NodeTable → ReadOperand → Expr × List NumberedToken
expression_seen b p = (expr_at b p.expr.0, tokens_in p.rest)

-- a pattern that was read, and the tokens after it
abbrev pub seen_expr_pattern : NodeTable → ExprPatternPart → ExprPattern × List NumberedToken
seen_expr_pattern b p = (expr_pattern_at b p.expr_pattern.0, tokens_in p.rest)

-- ---- guards and clauses

-- the tests of an alternative of a guard
abbrev pub view_of_tests : NodeTable → Tests → List Expr
view_of_tests b g = map (expr_of b) g.tests.items

abbrev pub TestsAreThere : NodeTable → Tests → Type 0
TestsAreThere b g = All (ExprRepresents b) g.tests.items

-- what is before the arrow of a clause, and the tokens after it
abbrev pub view_of_front : NodeTable → FrontPart → ClauseFront × List NumberedToken
view_of_front b f = ((expr_pattern_at b f.expr_pattern.0, condition_over b f.condition), tokens_in f.rest)

abbrev pub FrontRepresents : NodeTable → FrontPart → Type 0
FrontRepresents b f = ExprPatternRepresents b f.expr_pattern × ConditionRepresents b f.condition

-- a clause, over its parts
abbrev pub clause_of : NodeTable → Branch → ParsedClause
clause_of b c = ((expr_pattern_at b c.expr_pattern.0, condition_over b c.condition), map (expr_of b) c.body.items)

-- ---- what is before what is read

-- the items before, and those read after them
abbrev pub with_front : {A : Type 0} → List A → Option (List A × List NumberedToken)
    → Option (List A × List NumberedToken)
with_front front o = o >>= λ x. Some (front ++ x.0, x.1)

-- the same, up to the end of the tokens
abbrev pub with_first : {A : Type 0} → List A → Option (List A) → Option (List A)
with_first front o = o >>= λ xs. Some (front ++ xs)

-- The kinds of expressions that have other expressions in them, by their nodes.
use Rattle.pf_syntax.specs.declared.expr.ExprNode.{ExprNode}
use Rattle.pf_syntax.specs.declared.expr.ExprNode.TheVariants as says

-- a tuple, a list or a call: expressions from left to right
abbrev pub IsSequence : ExprNode → Type 0
IsSequence (says.Tuple es) = Unit {0}
IsSequence (says.List es) = Unit {0}
IsSequence (says.ListOn es t) = Unit {0}
IsSequence (says.Call w es) = Unit {0}
IsSequence _ = ⊥

-- an operator with its operands
abbrev pub IsOperation : ExprNode → Type 0
IsOperation (says.Negate e) = Unit {0}
IsOperation (says.Binary o l r) = Unit {0}
IsOperation (says.AndAlso l r) = Unit {0}
IsOperation (says.OrElse l r) = Unit {0}
IsOperation (says.Send l r) = Unit {0}
IsOperation _ = ⊥

-- a construct of clauses
abbrev pub IsConstruct : ExprNode → Type 0
IsConstruct (says.Case e cs) = Unit {0}
IsConstruct (says.If cs) = Unit {0}
IsConstruct (says.Receive cs) = Unit {0}
IsConstruct _ = ⊥

-- Tables that go on where others end: what is in the others is in these, and means the same.
use Rattle.std.proofs.Common.{◌≡◌, ℕ, ◌<◌, ◌≤◌, List, [], ◌∷◌, ◌++◌, length, refl, ap, ◌∙◌, arith, length-append}
use Rattle.std.specs.Prelude.{map}
use Rattle.std.specs.List.{All}
use Rattle.std.proofs.lemmas.List.Elements.{All-head, All-tail, All-weaker}
use Rattle.std.proofs.lemmas.List.{get_or_append_left}
use Rattle.std.proofs.Math.Seq.{get_or-append_seam}
use Rattle.pf_terms.specs.Value.{Value, list, none}
use Rattle.pf_syntax.specs.Pattern.{Pattern, any, tuple_of}
use Rattle.pf_syntax.specs.Tree.{lit, tuple, call, builtin}
use Rattle.pf_syntax.specs.Module.{Tables, literal_at, pattern_at, tree_at}
use Rattle.pf_syntax.specs.Over.{patterns_at, pattern_over, part_over, parts_over, alternatives_over, guard_from}
use Rattle.pf_syntax.specs.Over.{guard_over, clauses_over, tree_over, function_clause_over, function_over, with_literal}
use Rattle.pf_syntax.specs.Over.{with_pattern, with_tree}
use Rattle.pf_syntax.specs.Within.{PatternRepresents, OperandRepresents, GuardRepresents, ClauseRepresents}
use Rattle.pf_syntax.specs.Within.{PatternPartsAreThere, PartsAreThere, FunctionClauseRepresents, FunctionRepresents}
use Rattle.pf_syntax.specs.declared.node.PatternId.{PatternId}
use Rattle.pf_syntax.specs.declared.node.Operand.{Operand}
use Rattle.pf_syntax.specs.declared.node.Operand.TheVariants as part
use Rattle.pf_syntax.specs.declared.node.PatternNode.{PatternNode}
use Rattle.pf_syntax.specs.declared.node.PatternNode.TheVariants as asks
use Rattle.pf_syntax.specs.declared.node.Alternative.{Alternative}
use Rattle.pf_syntax.specs.declared.node.Guard.{Guard}
use Rattle.pf_syntax.specs.declared.node.Clause.{Clause}
use Rattle.pf_syntax.specs.declared.node.Node.{Node}
use Rattle.pf_syntax.specs.declared.node.Node.TheVariants as does
use Rattle.pf_syntax.specs.declared.node.FunctionClause.{FunctionClause}
use Rattle.pf_syntax.specs.declared.node.Function.{Function}

-- u goes on where t ends
pub record Extends (t u : Tables) : Type 0 where
  pub literals : (k : ℕ) → k < length t.literals → literal_at u k ≡ literal_at t k
  pub patterns : (k : ℕ) → k < length t.patterns → pattern_at u k ≡ pattern_at t k
  pub trees : (k : ℕ) → k < length t.trees → tree_at u k ≡ tree_at t k
  pub more_literals : length t.literals ≤ length u.literals
  pub more_patterns : length t.patterns ≤ length u.patterns
  pub more_trees : length t.trees ≤ length u.trees

pub extends_literal : (t : Tables) (v : Value) → Extends t (with_literal t v)
extends_literal t v = record {
  literals = λ k h. get_or_append_left t.literals (v ∷ []) (list none) k h;
  patterns = λ k h. refl;
  trees = λ k h. refl;
  more_literals = omega (arith, length-append t.literals (v ∷ []));
  more_patterns = omega arith;
  more_trees = omega arith;
}

-- the tables with a pattern that is known
abbrev pub plus_pattern : Tables → Pattern → Tables
plus_pattern t q = record { literals = t.literals; patterns = t.patterns ++ q ∷ []; trees = t.trees }

pub extends_pattern : (t : Tables) (q : Pattern) → Extends t (plus_pattern t q)
extends_pattern t q = record {
  literals = λ k h. refl;
  patterns = λ k h. get_or_append_left t.patterns (q ∷ []) any k h;
  trees = λ k h. refl;
  more_literals = omega arith;
  more_patterns = omega (arith, length-append t.patterns (q ∷ []));
  more_trees = omega arith;
}

pub extends_tree : (t : Tables) (n : Node) → Extends t (with_tree t n)
extends_tree t n = record {
  literals = λ k h. refl;
  patterns = λ k h. refl;
  trees = λ k h. get_or_append_left t.trees (tree_over t n ∷ []) (lit (list none)) k h;
  more_literals = omega arith;
  more_patterns = omega arith;
  more_trees = omega (arith, length-append t.trees (tree_over t n ∷ []));
}

pub extends_itself : (t : Tables) → Extends t t
extends_itself t = record {
  literals = λ k h. refl;
  patterns = λ k h. refl;
  trees = λ k h. refl;
  more_literals = omega arith;
  more_patterns = omega arith;
  more_trees = omega arith;
}

pub extends_on : (t u w : Tables) → Extends t u → Extends u w → Extends t w
extends_on t u w e f = record {
  literals = λ k h. let l = e.more_literals in f.literals k (omega arith) ∙ e.literals k h;
  patterns = λ k h. let l = e.more_patterns in f.patterns k (omega arith) ∙ e.patterns k h;
  trees = λ k h. let l = e.more_trees in f.trees k (omega arith) ∙ e.trees k h;
  more_literals = omega (arith, e.more_literals, f.more_literals);
  more_patterns = omega (arith, e.more_patterns, f.more_patterns);
  more_trees = omega (arith, e.more_trees, f.more_trees);
}

-- what was added last is at the end
pub literal_last : (t : Tables) (v : Value) → literal_at (with_literal t v) (length t.literals) ≡ v
literal_last t v = get_or-append_seam t.literals v [] (list none)

pub pattern_last : (t : Tables) (p : PatternNode) → pattern_at (with_pattern t p) (length t.patterns) ≡ pattern_over t p
pattern_last t p = get_or-append_seam t.patterns (pattern_over t p) [] any

pub tree_last : (t : Tables) (n : Node) → tree_at (with_tree t n) (length t.trees) ≡ tree_over t n
tree_last t n = get_or-append_seam t.trees (tree_over t n) [] (lit (list none))

module _ (t u : Tables) (e : Extends t u) where
  -- ---- the same meaning

  pub patterns_kept : (ps : List PatternId) → All (PatternRepresents t) ps → patterns_at u ps ≡ patterns_at t ps
  patterns_kept [] h = refl
  patterns_kept (p ∷ ps) h =
      let x = e.patterns p.0 (All-head (PatternRepresents t) p ps h) in
      let y = patterns_kept ps (All-tail (PatternRepresents t) p ps h) in
      cc

  pub pattern_kept : (n : PatternNode) → PatternPartsAreThere t n → pattern_over u n ≡ pattern_over t n
  pattern_kept (asks.Literal l) h = let x = e.literals l.0 h in cc
  pattern_kept (asks.Tuple ps) h = ap tuple_of (patterns_kept ps.items h)
  pattern_kept (asks.Cons p q) h = let x = e.patterns p.0 h.0 in let y = e.patterns q.0 h.1 in cc
  pattern_kept _ h = refl

  pub part_kept : (p : Operand) → OperandRepresents t p → part_over u p ≡ part_over t p
  part_kept (part.Literal l) h = ap lit (e.literals l.0 h)
  part_kept (part.Node n) h = e.trees n.0 h
  part_kept _ h = refl

  pub parts_kept : (ps : List Operand) → All (OperandRepresents t) ps → parts_over u ps ≡ parts_over t ps
  parts_kept [] h = refl
  parts_kept (p ∷ ps) h =
      let x = part_kept p (All-head (OperandRepresents t) p ps h) in
      let y = parts_kept ps (All-tail (OperandRepresents t) p ps h) in
      cc

  alternatives_kept : (gs : List Alternative) → All (λ a. All (OperandRepresents t) a.tests.items) gs
      → alternatives_over u gs ≡ alternatives_over t gs
  alternatives_kept [] h = refl
  alternatives_kept (a ∷ gs) h =
      let x = parts_kept a.tests.items (All-head (λ a. All (OperandRepresents t) a.tests.items) a gs h) in
      let y = alternatives_kept gs (All-tail (λ a. All (OperandRepresents t) a.tests.items) a gs h) in
      cc

  guard_from_kept : (gs : List Alternative) → All (λ a. All (OperandRepresents t) a.tests.items) gs
      → guard_from u gs ≡ guard_from t gs
  guard_from_kept [] h = refl
  guard_from_kept (a ∷ gs) h = alternatives_kept (a ∷ gs) h

  pub guard_kept : (g : Guard) → GuardRepresents t g → guard_over u g ≡ guard_over t g
  guard_kept g h = guard_from_kept g.alternatives.items h

  pub clauses_kept : (cs : List Clause) → All (ClauseRepresents t) cs → clauses_over u cs ≡ clauses_over t cs
  clauses_kept [] h = refl
  clauses_kept (c ∷ cs) h =
      let s = All-head (ClauseRepresents t) c cs h in
      let p = e.patterns c.pattern.0 s.0 in
      let g = guard_kept c.guard s.1 in
      let b = part_kept c.body s.2 in
      let y = clauses_kept cs (All-tail (ClauseRepresents t) c cs h) in
      cc

  pub tree_kept : (n : Node) → PartsAreThere t n → tree_over u n ≡ tree_over t n
  tree_kept (does.Tuple ps) h = ap tuple (parts_kept ps.items h)
  tree_kept (does.Cons a b) h = let x = part_kept a h.0 in let y = part_kept b h.1 in cc
  tree_kept (does.Binary o a b) h = let x = part_kept a h.0 in let y = part_kept b h.1 in cc
  tree_kept (does.Negate a) h = let x = part_kept a h in cc
  tree_kept (does.AndAlso a b) h = let x = part_kept a h.0 in let y = part_kept b h.1 in cc
  tree_kept (does.OrElse a b) h = let x = part_kept a h.0 in let y = part_kept b h.1 in cc
  tree_kept (does.Call f ps) h = ap (call f.0) (parts_kept ps.items h)
  tree_kept (does.Builtin f ps) h = ap (builtin f) (parts_kept ps.items h)
  tree_kept (does.Match ps a) h = let x = patterns_kept ps.items h.0 in let y = part_kept a h.1 in cc
  tree_kept (does.Bind ps a r) h = let x = patterns_kept ps.items h.0 in let y = part_kept a h.1 in
      let z = part_kept r h.2 in cc
  tree_kept (does.Case a cs) h = let x = part_kept a h.0 in let y = clauses_kept cs.items h.1 in cc
  tree_kept (does.If cs) h = let y = clauses_kept cs.items h in cc
  tree_kept (does.Receive cs) h = let y = clauses_kept cs.items h in cc
  tree_kept (does.Send a b) h = let x = part_kept a h.0 in let y = part_kept b h.1 in cc

  function_clause_kept : (c : FunctionClause) → FunctionClauseRepresents t c
      → function_clause_over u c ≡ function_clause_over t c
  function_clause_kept c h =
      let p = patterns_kept c.parameters.items h.0 in
      let g = guard_kept c.guard h.1 in
      let b = part_kept c.body h.2 in
      cc

  function_clauses_kept : (cs : List FunctionClause) → All (FunctionClauseRepresents t) cs
      → map (function_clause_over u) cs ≡ map (function_clause_over t) cs
  function_clauses_kept [] h = refl
  function_clauses_kept (c ∷ cs) h =
      let x = function_clause_kept c (All-head (FunctionClauseRepresents t) c cs h) in
      let y = function_clauses_kept cs (All-tail (FunctionClauseRepresents t) c cs h) in
      cc

  pub function_kept : (f : Function) → FunctionRepresents t f → function_over u f ≡ function_over t f
  function_kept f h = let x = function_clauses_kept f.clauses.items h in cc

  pub functions_kept : (fs : List Function) → All (FunctionRepresents t) fs
      → map (function_over u) fs ≡ map (function_over t) fs
  functions_kept [] h = refl
  functions_kept (f ∷ fs) h =
      let x = function_kept f (All-head (FunctionRepresents t) f fs h) in
      let y = functions_kept fs (All-tail (FunctionRepresents t) f fs h) in
      cc

  -- ---- it is still there

  pub pattern_is_there : (p : PatternId) → PatternRepresents t p → PatternRepresents u p
  pattern_is_there p h = omega (arith, e.more_patterns)

  pub part_is_there : (p : Operand) → OperandRepresents t p → OperandRepresents u p
  part_is_there (part.Literal l) h = omega (arith, e.more_literals)
  part_is_there (part.Node n) h = omega (arith, e.more_trees)
  part_is_there _ h = tt

  pub all_patterns_are_there : (ps : List PatternId) → All (PatternRepresents t) ps → All (PatternRepresents u) ps
  all_patterns_are_there ps h = All-weaker (PatternRepresents t) (PatternRepresents u) pattern_is_there ps h

  pub all_parts_are_there : (ps : List Operand) → All (OperandRepresents t) ps → All (OperandRepresents u) ps
  all_parts_are_there ps h = All-weaker (OperandRepresents t) (OperandRepresents u) part_is_there ps h

  pub guard_is_there : (g : Guard) → GuardRepresents t g → GuardRepresents u g
  guard_is_there g h =
      All-weaker (λ a. All (OperandRepresents t) a.tests.items) (λ a. All (OperandRepresents u) a.tests.items)
      (λ a x. all_parts_are_there a.tests.items x) g.alternatives.items h

  pub clause_is_there : (c : Clause) → ClauseRepresents t c → ClauseRepresents u c
  clause_is_there c h = (pattern_is_there c.pattern h.0, guard_is_there c.guard h.1, part_is_there c.body h.2)

  pub clauses_are_there : (cs : List Clause) → All (ClauseRepresents t) cs → All (ClauseRepresents u) cs
  clauses_are_there cs h = All-weaker (ClauseRepresents t) (ClauseRepresents u) clause_is_there cs h

  pub pattern_parts_are_there : (n : PatternNode) → PatternPartsAreThere t n → PatternPartsAreThere u n
  pattern_parts_are_there (asks.Literal l) h = omega (arith, e.more_literals)
  pattern_parts_are_there (asks.Tuple ps) h = all_patterns_are_there ps.items h
  pattern_parts_are_there (asks.Cons p q) h = (pattern_is_there p h.0, pattern_is_there q h.1)
  pattern_parts_are_there _ h = tt

  pub parts_are_there : (n : Node) → PartsAreThere t n → PartsAreThere u n
  parts_are_there (does.Tuple ps) h = all_parts_are_there ps.items h
  parts_are_there (does.Cons a b) h = (part_is_there a h.0, part_is_there b h.1)
  parts_are_there (does.Binary o a b) h = (part_is_there a h.0, part_is_there b h.1)
  parts_are_there (does.Negate a) h = part_is_there a h
  parts_are_there (does.AndAlso a b) h = (part_is_there a h.0, part_is_there b h.1)
  parts_are_there (does.OrElse a b) h = (part_is_there a h.0, part_is_there b h.1)
  parts_are_there (does.Call f ps) h = all_parts_are_there ps.items h
  parts_are_there (does.Builtin f ps) h = all_parts_are_there ps.items h
  parts_are_there (does.Match ps a) h = (all_patterns_are_there ps.items h.0, part_is_there a h.1)
  parts_are_there (does.Bind ps a r) h = (all_patterns_are_there ps.items h.0, part_is_there a h.1, part_is_there r h.2)
  parts_are_there (does.Case a cs) h = (part_is_there a h.0, clauses_are_there cs.items h.1)
  parts_are_there (does.If cs) h = clauses_are_there cs.items h
  parts_are_there (does.Receive cs) h = clauses_are_there cs.items h
  parts_are_there (does.Send a b) h = (part_is_there a h.0, part_is_there b h.1)

  pub function_clause_is_there : (c : FunctionClause) → FunctionClauseRepresents t c → FunctionClauseRepresents u c
  function_clause_is_there c h = (
    all_patterns_are_there c.parameters.items h.0,
    guard_is_there c.guard h.1,
    part_is_there c.body h.2,
  )

  function_is_there : (f : Function) → FunctionRepresents t f → FunctionRepresents u f
  function_is_there f h = All-weaker (FunctionClauseRepresents t) (FunctionClauseRepresents u) function_clause_is_there
      f.clauses.items h

  pub functions_are_there : (fs : List Function) → All (FunctionRepresents t) fs → All (FunctionRepresents u) fs
  functions_are_there fs h = All-weaker (FunctionRepresents t) (FunctionRepresents u) function_is_there fs h

-- Substitution: values in place of the first variables in scope; the slots after them move down.
use Rattle.std.specs.Prelude.{ℕ, ◌-◌, length, Option, Some, None, slice_get}
use Rattle.pf_terms.specs.Value.{Value}
use Rattle.pf_syntax.specs.Pattern.{Pattern, Patterns, any, new, slot, known, tuple_of, cons_of, never, no_patterns}
use Rattle.pf_syntax.specs.Pattern.{pattern}
use Rattle.pf_syntax.specs.Tree.{Tree, Trees, Clauses, Guard, lit, var, tuple, cons, op, neg, and_also, or_else, call}
use Rattle.pf_syntax.specs.Tree.{builtin, match, bind, case, if_expression, receive, send, no_trees, tree, no_clauses}
use Rattle.pf_syntax.specs.Tree.{clause, no_alternatives, alternative}
use Rattle.pf_patterns.specs.Fit.{ValueScope}

abbrev pub value_or_var : Option Value → ℕ → Tree
value_or_var None y = var y
value_or_var (Some v) y = lit v

abbrev pub known_or_slot : Option Value → ℕ → Pattern
known_or_slot None y = slot y
known_or_slot (Some v) y = known v

-- in a pattern a bound variable becomes its value
abbrev mutual
  pub sub_pattern : ValueScope → Pattern → Pattern
  sub_pattern e any = any
  sub_pattern e new = new
  sub_pattern e (slot x) = known_or_slot (slice_get e x) (x - length e)
  sub_pattern e (known v) = known v
  sub_pattern e (tuple_of ps) = tuple_of (sub_patterns e ps)
  sub_pattern e (cons_of p q) = cons_of (sub_pattern e p) (sub_pattern e q)
  sub_pattern e never = never

  pub sub_patterns : ValueScope → Patterns → Patterns
  sub_patterns e no_patterns = no_patterns
  sub_patterns e (pattern p ps) = pattern (sub_pattern e p) (sub_patterns e ps)

-- a binder keeps what it binds: its slots come after those that are replaced
abbrev mutual
  pub sub : ValueScope → Tree → Tree
  sub e (lit v) = lit v
  sub e (var x) = value_or_var (slice_get e x) (x - length e)
  sub e (tuple ts) = tuple (sub_trees e ts)
  sub e (cons a b) = cons (sub e a) (sub e b)
  sub e (op o a b) = op o (sub e a) (sub e b)
  sub e (neg a) = neg (sub e a)
  sub e (and_also a b) = and_also (sub e a) (sub e b)
  sub e (or_else a b) = or_else (sub e a) (sub e b)
  sub e (call f ts) = call f (sub_trees e ts)
  sub e (builtin f ts) = builtin f (sub_trees e ts)
  sub e (match ps a) = match (sub_patterns e ps) (sub e a)
  sub e (bind ps a r) = bind (sub_patterns e ps) (sub e a) (sub e r)
  sub e (case a cs) = case (sub e a) (sub_clauses e cs)
  sub e (if_expression cs) = if_expression (sub_clauses e cs)
  sub e (receive cs) = receive (sub_clauses e cs)
  sub e (send a b) = send (sub e a) (sub e b)

  pub sub_trees : ValueScope → Trees → Trees
  sub_trees e no_trees = no_trees
  sub_trees e (tree t ts) = tree (sub e t) (sub_trees e ts)

  pub sub_clauses : ValueScope → Clauses → Clauses
  sub_clauses e no_clauses = no_clauses
  sub_clauses e (clause p g b cs) = clause (sub_pattern e p) (sub_guard e g) (sub e b) (sub_clauses e cs)

  pub sub_guard : ValueScope → Guard → Guard
  sub_guard e no_alternatives = no_alternatives
  sub_guard e (alternative ts g) = alternative (sub_trees e ts) (sub_guard e g)

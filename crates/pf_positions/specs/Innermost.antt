-- Where a process is in a tree of which it worked out some parts.
use Rattle.std.specs.Prelude.{◌≡◌, ℕ, Bool, true, false, if◌then◌else◌, List, [], ◌∷◌, Option, Some, None, drop, find}
use Rattle.pf_syntax.specs.Tree.{Tree, Trees, lit, var, tuple, cons, op, neg, and_also, or_else, call, builtin, match}
use Rattle.pf_syntax.specs.Tree.{bind, case, if_expression, receive, send, no_trees, tree}

abbrev pub tree_list : Trees → List Tree
tree_list no_trees = []
tree_list (tree t ts) = t ∷ tree_list ts

-- the parts that are worked out before the tree itself, from left to right
abbrev pub parts : Tree → List Tree
parts (lit v) = []
parts (var x) = []
parts (tuple ts) = tree_list ts
parts (cons a b) = a ∷ b ∷ []
parts (op o a b) = a ∷ b ∷ []
parts (neg a) = a ∷ []
parts (and_also a b) = a ∷ []
parts (or_else a b) = a ∷ []
parts (call f ts) = tree_list ts
parts (builtin f ts) = tree_list ts
parts (match ps a) = a ∷ []
parts (bind ps a r) = a ∷ []
parts (case a cs) = a ∷ []
parts (if_expression cs) = []
parts (receive cs) = []
parts (send a b) = a ∷ b ∷ []

-- a variable and a literal take no step
abbrev pub takes_step : Tree → Bool
takes_step (lit v) = false
takes_step (var x) = false
takes_step t = true

-- a tree that takes a step, if it does
abbrev pub stepping : Tree → Option Tree
stepping t = if takes_step t then Some t else None

-- the first part that takes a step, after those that are done
abbrev pub next_part : (done : ℕ) → Tree → Option Tree
next_part done t = find takes_step (drop done (parts t))

-- the process is at the tree itself where no such part is left, and else in that part, of which none is done
pub data IsInnermostAt : Tree → (done : ℕ) → Tree → Type 0 where
  itself : (t : Tree) (done : ℕ) → next_part done t ≡ None → IsInnermostAt t done t
  within : (t u v : Tree) (done : ℕ) → next_part done t ≡ Some u → IsInnermostAt u 0 v → IsInnermostAt t done v

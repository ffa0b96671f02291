-- Tables that grow entry by entry.
use Rattle.std.proofs.Common.{◌≡◌, ◌+◌, List, [], ◌∷◌, ◌++◌, length, refl, ap, arith, length-append}
use Rattle.std.specs.Prelude.{fold}
use Rattle.pf_terms.specs.Value.{Value}
use Rattle.pf_syntax.specs.Pattern.{Pattern}
use Rattle.pf_syntax.specs.Tree.{Tree}
use Rattle.pf_syntax.specs.Module.{Tables}
use Rattle.pf_syntax.specs.Over.{pattern_over, tree_over, with_literal, with_pattern, with_tree}
use Rattle.pf_syntax.specs.Within.{PatternPartsAreThere, PartsAreThere}
use Rattle.pf_syntax.proofs.Extends.{Extends, extends_itself, extends_on, extends_literal, extends_pattern}
use Rattle.pf_syntax.proofs.Extends.{plus_pattern, pattern_kept, tree_kept}
use Rattle.pf_syntax.specs.declared.node.PatternNode.{PatternNode}
use Rattle.pf_syntax.specs.declared.node.Node.{Node}

pub fold_extends : {X : Type 0} (step : Tables → X → Tables) → ((t : Tables) (x : X) → Extends t (step t x))
    → (t : Tables) (xs : List X) → Extends t (fold step t xs)
fold_extends step grows t [] = extends_itself t
fold_extends step grows t (x ∷ xs) = extends_on t (step t x) (fold step (step t x) xs) (grows t x)
    (fold_extends step grows (step t x) xs)

-- ---- a literal below patterns and nodes, a pattern below nodes

pub pattern_after_literal : (v : Value) (t : Tables) (p : PatternNode) → PatternPartsAreThere t p
    → with_pattern (with_literal t v) p ≡ with_literal (with_pattern t p) v
pattern_after_literal v t p h = ap (plus_pattern (with_literal t v))
    (pattern_kept t (with_literal t v) (extends_literal t v) p h)

pub tree_after_literal : (v : Value) (t : Tables) (n : Node) → PartsAreThere t n
    → with_tree (with_literal t v) n ≡ with_literal (with_tree t n) v
tree_after_literal v t n h =
    ap (λ (r : Tree). let u : Tables = record {
      literals = t.literals ++ v ∷ [];
      patterns = t.patterns;
      trees = t.trees ++ r ∷ [];
    } in u) (tree_kept t (with_literal t v) (extends_literal t v) n h)

pub tree_after_pattern : (q : Pattern) (t : Tables) (n : Node) → PartsAreThere t n
    → with_tree (plus_pattern t q) n ≡ plus_pattern (with_tree t n) q
tree_after_pattern q t n h =
    ap (λ (r : Tree). let u : Tables = record {
      literals = t.literals;
      patterns = t.patterns ++ q ∷ [];
      trees = t.trees ++ r ∷ [];
    } in u) (tree_kept t (plus_pattern t q) (extends_pattern t q) n h)

-- ---- what the entries leave as it was

pub patterns_leave : (t : Tables) (ps : List PatternNode)
    → ((fold with_pattern t ps).literals ≡ t.literals) × ((fold with_pattern t ps).trees ≡ t.trees)
patterns_leave t [] = (refl, refl)
patterns_leave t (p ∷ ps) = patterns_leave (with_pattern t p) ps

pub trees_leave : (t : Tables) (ns : List Node)
    → ((fold with_tree t ns).literals ≡ t.literals) × ((fold with_tree t ns).patterns ≡ t.patterns)
trees_leave t [] = (refl, refl)
trees_leave t (n ∷ ns) = trees_leave (with_tree t n) ns

-- ---- how many there are

pub length-patterns : (t : Tables) (ps : List PatternNode)
    → length (fold with_pattern t ps).patterns ≡ length t.patterns + length ps
length-patterns t [] = omega arith
length-patterns t (p ∷ ps) = omega (
  arith,
  length-patterns (with_pattern t p) ps,
  length-append t.patterns (pattern_over t p ∷ []),
)

pub length-trees : (t : Tables) (ns : List Node) → length (fold with_tree t ns).trees ≡ length t.trees + length ns
length-trees t [] = omega arith
length-trees t (n ∷ ns) = omega (arith, length-trees (with_tree t n) ns, length-append t.trees (tree_over t n ∷ []))

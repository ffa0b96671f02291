-- A module with one more entry.
use Rattle.std.proofs.Common.{◌≡◌, List, [], ◌∷◌, ◌++◌, refl, sym, ap, ◌∙◌, subst}
use Rattle.std.specs.Prelude.{fold, map}
use Rattle.std.specs.List.{All}
use Rattle.std.specs.Global.{Vec}
use Rattle.std.proofs.lemmas.List.{map-append}
use Rattle.pf_terms.specs.Value.{Value}
use Rattle.pf_terms.specs.Term.{value_of}
use Rattle.pf_terms.specs.declared.term.Term.{Term}
use Rattle.pf_syntax.specs.Pattern.{Pattern}
use Rattle.pf_syntax.specs.Module.{Tables}
use Rattle.pf_syntax.specs.Over.{pattern_over, function_over, with_literal, with_pattern, with_tree, with_tables}
use Rattle.pf_syntax.specs.Within.{PatternPartsAreThere, PartsAreThere, FunctionRepresents, InTurn}
use Rattle.pf_syntax.specs.View.{literals_of, patterns_of, tables_of, checked_of, Sound}
use Rattle.pf_syntax.proofs.Extends.{Extends, extends_literal, extends_pattern, extends_tree, plus_pattern}
use Rattle.pf_syntax.proofs.Extends.{functions_kept, functions_are_there, pattern_parts_are_there, parts_are_there}
use Rattle.pf_syntax.proofs.InTurn.{in_turn_push, in_turn_still, fold_push, fold_swap}
use Rattle.pf_syntax.proofs.Folds.{pattern_after_literal, tree_after_literal, tree_after_pattern, trees_leave}
use Rattle.pf_syntax.proofs.Formed.{pattern_alike}
use Rattle.pf_syntax.specs.declared.module.Module.TheInside.{Inside}
use Rattle.pf_syntax.specs.declared.node.PatternNode.{PatternNode}
use Rattle.pf_syntax.specs.declared.node.Node.{Node}

-- the functions mean the same over tables that go on
module _ (a b : Inside) (same_name : b.name ≡ a.name) (same_atoms : b.atoms ≡ a.atoms)
    (same_functions : b.functions.items ≡ a.functions.items) where
  view_goes_on : (t : Tables) → tables_of b ≡ t → Extends (tables_of a) t → Sound a
      → checked_of b ≡ with_tables (checked_of a) t
  view_goes_on t e g s =
      let kept = functions_kept (tables_of a) t g a.functions.items s.functions in
      let program : map (function_over (tables_of b)) b.functions.items ≡ map (function_over (tables_of a))
      a.functions.items =
      ap (λ (u : Tables). map (function_over u) b.functions.items) e
      ∙ ap (map (function_over t)) same_functions ∙ kept in
      cc

  functions_go_on : (t : Tables) → tables_of b ≡ t → Extends (tables_of a) t → Sound a
      → All (FunctionRepresents (tables_of b)) b.functions.items
  functions_go_on t e g s = rw (e, same_functions) (functions_are_there (tables_of a) t g a.functions.items s.functions)

-- ---- a node

trees_grown : (a : Inside) (n : Node) (v : Vec Node) → v.items ≡ a.nodes.items ++ n ∷ []
    → tables_of (record a { nodes = v }) ≡ with_tree (tables_of a) n
trees_grown a n v e = ap (fold with_tree (patterns_of a)) e ∙ fold_push PartsAreThere with_tree (patterns_of a)
    a.nodes.items n

pub with_node_view : (a : Inside) (n : Node) (v : Vec Node) → v.items ≡ a.nodes.items ++ n ∷ [] → Sound a
    → PartsAreThere (tables_of a) n → checked_of (record a { nodes = v }) ≡ with_tables (checked_of a)
    (with_tree (tables_of a) n)
with_node_view a n v e s h =
    view_goes_on a (record a { nodes = v }) refl refl refl (with_tree (tables_of a) n) (trees_grown a n v e)
    (extends_tree (tables_of a) n) s

pub with_node_sound : (a : Inside) (n : Node) (v : Vec Node) → v.items ≡ a.nodes.items ++ n ∷ [] → Sound a
    → PartsAreThere (tables_of a) n → Sound (record a { nodes = v })
with_node_sound a n v e s h = record {
  patterns = s.patterns;
  nodes = rw e (in_turn_push PartsAreThere with_tree (patterns_of a) a.nodes.items n s.nodes h);
  functions = functions_go_on a (record a { nodes = v }) refl refl refl (with_tree (tables_of a) n)
      (trees_grown a n v e) (extends_tree (tables_of a) n) s;
  count = s.count;
}

-- ---- a pattern

are_alike : (t u : Tables) (p : PatternNode) → t.literals ≡ u.literals → t.patterns ≡ u.patterns
    → PatternPartsAreThere t p → PatternPartsAreThere u p
are_alike t u p e f h =
    let with_literals = subst (λ (vs : List Value). let w : Tables = record {
      literals = vs;
      patterns = t.patterns;
      trees = t.trees;
    } in PatternPartsAreThere w p) e h in
    subst (λ (ps : List Pattern). let w : Tables = record { literals = u.literals; patterns = ps; trees = u.trees } in
    PatternPartsAreThere w p) f with_literals

patterns_push : (a : Inside) (p : PatternNode) (v : Vec PatternNode) → v.items ≡ a.patterns.items ++ p ∷ []
    → patterns_of (record a { patterns = v }) ≡ plus_pattern (patterns_of a) (pattern_over (patterns_of a) p)
patterns_push a p v e = ap (fold with_pattern (literals_of a)) e ∙ fold_push PatternPartsAreThere with_pattern
    (literals_of a) a.patterns.items p

patterns_grown : (a : Inside) (p : PatternNode) (v : Vec PatternNode) → v.items ≡ a.patterns.items ++ p ∷ [] → Sound a
    → tables_of (record a { patterns = v }) ≡ with_pattern (tables_of a) p
patterns_grown a p v e s =
    let q = pattern_over (patterns_of a) p in
    let left = trees_leave (patterns_of a) a.nodes.items in
    ap (λ (t : Tables). fold with_tree t a.nodes.items) (patterns_push a p v e)
    ∙ fold_swap PartsAreThere with_tree (λ t. plus_pattern t q) (tree_after_pattern q) (patterns_of a)
    a.nodes.items s.nodes
    ∙ ap (plus_pattern (tables_of a)) (pattern_alike (patterns_of a) (tables_of a) p (sym left.0) (sym left.1))

pub with_pattern_view : (a : Inside) (p : PatternNode) (v : Vec PatternNode) → v.items ≡ a.patterns.items ++ p ∷ []
    → Sound a → PatternPartsAreThere (tables_of a) p
    → checked_of (record a { patterns = v }) ≡ with_tables (checked_of a) (with_pattern (tables_of a) p)
with_pattern_view a p v e s h =
    view_goes_on a (record a { patterns = v }) refl refl refl (with_pattern (tables_of a) p) (patterns_grown a p v e s)
    (extends_pattern (tables_of a) (pattern_over (tables_of a) p)) s

pub with_pattern_sound : (a : Inside) (p : PatternNode) (v : Vec PatternNode) → v.items ≡ a.patterns.items ++ p ∷ []
    → Sound a → PatternPartsAreThere (tables_of a) p → Sound (record a { patterns = v })
with_pattern_sound a p v e s h =
    let q = pattern_over (patterns_of a) p in
    let left = trees_leave (patterns_of a) a.nodes.items in
    let is_there = are_alike (tables_of a) (patterns_of a) p left.0 left.1 h in
    let still = in_turn_still PartsAreThere with_tree (λ t. plus_pattern t q) (tree_after_pattern q)
    (λ t n k. parts_are_there t (plus_pattern t q) (extends_pattern t q) n k) (patterns_of a) a.nodes.items s.nodes in
    record {
      patterns = rw e (in_turn_push PatternPartsAreThere with_pattern (literals_of a) a.patterns.items p
          s.patterns is_there);
      nodes = subst (λ t. InTurn PartsAreThere with_tree t a.nodes.items) (sym (patterns_push a p v e)) still;
      functions = functions_go_on a (record a { patterns = v }) refl refl refl (with_pattern (tables_of a) p)
          (patterns_grown a p v e s) (extends_pattern (tables_of a) (pattern_over (tables_of a) p)) s;
      count = s.count;
    }

-- ---- a literal

module _ (a : Inside) (x : Term) (v : Vec Term) (e : v.items ≡ a.literals.items ++ x ∷ []) (s : Sound a) where
  literals_push : literals_of (record a { literals = v }) ≡ with_literal (literals_of a) (value_of x)
  literals_push =
      let values = ap (map value_of) e ∙ map-append value_of a.literals.items (x ∷ []) in
      ap (λ (vs : List Value). let t : Tables = record { literals = vs; patterns = []; trees = [] } in t) values

  patterns_after : patterns_of (record a { literals = v }) ≡ with_literal (patterns_of a) (value_of x)
  patterns_after =
      ap (λ (t : Tables). fold with_pattern t a.patterns.items) literals_push
      ∙ fold_swap PatternPartsAreThere with_pattern (λ t. with_literal t (value_of x))
      (pattern_after_literal (value_of x))
      (literals_of a) a.patterns.items s.patterns

  literals_grown : tables_of (record a { literals = v }) ≡ with_literal (tables_of a) (value_of x)
  literals_grown =
      ap (λ (t : Tables). fold with_tree t a.nodes.items) patterns_after
      ∙ fold_swap PartsAreThere with_tree (λ t. with_literal t (value_of x)) (tree_after_literal (value_of x))
      (patterns_of a) a.nodes.items s.nodes

  literal_view : checked_of (record a { literals = v }) ≡ with_tables (checked_of a)
      (with_literal (tables_of a) (value_of x))
  literal_view = view_goes_on a (record a { literals = v }) refl refl refl (with_literal (tables_of a) (value_of x))
      literals_grown (extends_literal (tables_of a) (value_of x)) s

  literal_sound : Sound (record a { literals = v })
  literal_sound =
      let w = value_of x in
      let patterns_still = in_turn_still PatternPartsAreThere with_pattern (λ t. with_literal t w)
      (pattern_after_literal w) (λ t n k. pattern_parts_are_there t (with_literal t w) (extends_literal t w) n k)
      (literals_of a) a.patterns.items s.patterns in
      let nodes_still = in_turn_still PartsAreThere with_tree (λ t. with_literal t w) (tree_after_literal w)
      (λ t n k. parts_are_there t (with_literal t w) (extends_literal t w) n k) (patterns_of a) a.nodes.items s.nodes in
      record {
        patterns = subst (λ t. InTurn PatternPartsAreThere with_pattern t a.patterns.items) (sym literals_push)
            patterns_still;
        nodes = subst (λ t. InTurn PartsAreThere with_tree t a.nodes.items) (sym patterns_after) nodes_still;
        functions = functions_go_on a (record a { literals = v }) refl refl refl (with_literal (tables_of a) w)
            literals_grown (extends_literal (tables_of a) w) s;
        count = s.count;
      }

pub with_literal_view : (a : Inside) (x : Term) (v : Vec Term) → v.items ≡ a.literals.items ++ x ∷ [] → Sound a
    → checked_of (record a { literals = v }) ≡ with_tables (checked_of a) (with_literal (tables_of a) (value_of x))
with_literal_view a x v e s = literal_view a x v e s

pub with_literal_sound : (a : Inside) (x : Term) (v : Vec Term) → v.items ≡ a.literals.items ++ x ∷ [] → Sound a
    → Sound (record a { literals = v })
with_literal_sound a x v e s = literal_sound a x v e s

-- A syntax tree with one more entry.
use Rattle.std.proofs.Common.{◌≡◌, List, [], ◌∷◌, ◌++◌, refl, sym, ap, ◌∙◌, subst}
use Rattle.std.specs.Prelude.{fold, map}
use Rattle.std.specs.List.{All}
use Rattle.std.specs.Global.{Vec}
use Rattle.std.proofs.lemmas.List.Elements.{All-push}
use Rattle.pf_syntax.specs.ExprPattern.{ExprPattern, expr_pattern_size, expr_pattern_depth}
use Rattle.pf_syntax.specs.Expr.{expr_size, expr_depth}
use Rattle.pf_syntax.specs.Measure.{IsMeasure}
use Rattle.pf_syntax.specs.SyntaxTree.{NodeTable}
use Rattle.pf_syntax.specs.SyntaxTreeOver.{expr_pattern_over, expr_over, heads_over, with_expr_pattern, with_expr}
use Rattle.pf_syntax.specs.SyntaxTreeOver.{with_node_table, ExprPatternPartsAreThere, ExprPartsAreThere, HeadsAreThere}
use Rattle.pf_syntax.specs.SyntaxTreeView.{expr_pattern_entered, expr_entered, ExprPatternIsSound, ExprIsSound}
use Rattle.pf_syntax.specs.SyntaxTreeView.{no_node_table, expr_patterns_of, node_table_of, written_of, Sound}
use Rattle.pf_syntax.specs.Within.{InTurn}
use Rattle.pf_syntax.proofs.InTurn.{in_turn_push, in_turn_still, fold_push, fold_swap}
use Rattle.pf_syntax.proofs.NodeTableExtends.{GoesOn, plus_expr_pattern, on_by_expr_pattern, on_by_expr, functions_kept}
use Rattle.pf_syntax.proofs.NodeTableExtends.{functions_are_there}
use Rattle.pf_syntax.proofs.NodeTableFolds.{expr_after_expr_pattern, expr_still_sound, exprs_leave, expr_pattern_alike}
use Rattle.pf_syntax.specs.declared.expr.ExprFunction.{ExprFunction}
use Rattle.pf_syntax.specs.declared.syntax_tree.ExprPatternEntry.{ExprPatternEntry}
use Rattle.pf_syntax.specs.declared.syntax_tree.ExprEntry.{ExprEntry}
use Rattle.pf_syntax.specs.declared.syntax_tree.SyntaxTree.TheInside.{Inside}

-- the functions mean the same over a table of nodes that goes on
module _ (a : Inside) (b : Inside) (same_name : b.name ≡ a.name) (same_exports : b.exports.items ≡ a.exports.items)
    (same_functions : b.functions.items ≡ a.functions.items) where
  view_goes_on : (c : NodeTable) → node_table_of b ≡ c → GoesOn (node_table_of a) c → Sound a
      → written_of b ≡ with_node_table (written_of a) c
  view_goes_on c e g s =
      let kept = functions_kept (node_table_of a) c g a.functions.items s.functions in
      let program : map (heads_over (node_table_of b)) b.functions.items ≡ map (heads_over (node_table_of a))
      a.functions.items =
      ap (λ (d : NodeTable). map (heads_over d) b.functions.items) e ∙ ap (map (heads_over c)) same_functions ∙ kept in
      cc

  functions_go_on : (c : NodeTable) → node_table_of b ≡ c → GoesOn (node_table_of a) c → Sound a
      → All (HeadsAreThere (node_table_of b)) b.functions.items
  functions_go_on c e g s = rw (e, same_functions)
      (functions_are_there (node_table_of a) c g a.functions.items s.functions)

-- ---- an expression

module _ (a : Inside) (e : ExprEntry) (v : Vec ExprEntry) (is : v.items ≡ a.exprs.items ++ e ∷ []) (s : Sound a) where
  exprs_grown : node_table_of (record a { exprs = v }) ≡ with_expr (node_table_of a) e.node
  exprs_grown = ap (fold expr_entered (expr_patterns_of a)) is ∙ fold_push ExprIsSound expr_entered (expr_patterns_of a)
      a.exprs.items e

  pub with_expr_view : written_of (record a { exprs = v }) ≡ with_node_table (written_of a)
      (with_expr (node_table_of a) e.node)
  with_expr_view = view_goes_on a (record a { exprs = v }) refl refl refl (with_expr (node_table_of a) e.node)
      exprs_grown (on_by_expr (node_table_of a) e.node) s

  pub with_expr_sound : ExprPartsAreThere (node_table_of a) e.node
      → IsMeasure e.measure (expr_size (expr_over (node_table_of a) e.node))
      (expr_depth (expr_over (node_table_of a) e.node)) → Sound (record a { exprs = v })
  with_expr_sound is_there measured = record {
    expr_patterns = s.expr_patterns;
    exprs = rw is (in_turn_push ExprIsSound expr_entered (expr_patterns_of a) a.exprs.items e s.exprs
        (is_there, measured));
    functions = functions_go_on a (record a { exprs = v }) refl refl refl (with_expr (node_table_of a) e.node)
        exprs_grown (on_by_expr (node_table_of a) e.node) s;
  }

-- ---- a pattern

module _ (a : Inside) (e : ExprPatternEntry) (v : Vec ExprPatternEntry) (is : v.items ≡ a.expr_patterns.items ++ e ∷ [])
    (s : Sound a) where
  expr_patterns_push : expr_patterns_of (record a { expr_patterns = v }) ≡ plus_expr_pattern (expr_patterns_of a)
      (expr_pattern_over (expr_patterns_of a) e.node)
  expr_patterns_push = ap (fold expr_pattern_entered no_node_table) is
      ∙ fold_push ExprPatternIsSound expr_pattern_entered no_node_table a.expr_patterns.items e

  expr_patterns_grown : node_table_of (record a { expr_patterns = v }) ≡ with_expr_pattern (node_table_of a) e.node
  expr_patterns_grown =
      let q = expr_pattern_over (expr_patterns_of a) e.node in
      ap (λ (b : NodeTable). fold expr_entered b a.exprs.items) expr_patterns_push
      ∙ fold_swap ExprIsSound expr_entered (λ b. plus_expr_pattern b q) (expr_after_expr_pattern q) (expr_patterns_of a)
      a.exprs.items s.exprs
      ∙ ap (plus_expr_pattern (node_table_of a))
      (expr_pattern_alike (expr_patterns_of a) (node_table_of a) e
      (sym (exprs_leave (expr_patterns_of a) a.exprs.items)))

  pub with_expr_pattern_view : written_of (record a { expr_patterns = v }) ≡ with_node_table (written_of a)
      (with_expr_pattern (node_table_of a) e.node)
  with_expr_pattern_view =
      view_goes_on a (record a { expr_patterns = v }) refl refl refl (with_expr_pattern (node_table_of a) e.node)
      expr_patterns_grown (on_by_expr_pattern (node_table_of a) (expr_pattern_over (node_table_of a) e.node)) s

  sound_before : ExprPatternPartsAreThere (node_table_of a) e.node
      → IsMeasure e.measure (expr_pattern_size (expr_pattern_over (node_table_of a) e.node))
      (expr_pattern_depth (expr_pattern_over (node_table_of a) e.node)) → ExprPatternIsSound (expr_patterns_of a) e
  sound_before is_there measured =
      let left = exprs_leave (expr_patterns_of a) a.exprs.items in (
        subst (λ (qs : List ExprPattern). let b : NodeTable = record {
          expr_patterns = qs;
          exprs = (node_table_of a).exprs;
        } in ExprPatternPartsAreThere b e.node) left is_there,
        subst (λ (q : ExprPattern). IsMeasure e.measure (expr_pattern_size q) (expr_pattern_depth q))
            (expr_pattern_alike (node_table_of a) (expr_patterns_of a) e left) measured,
      )

  pub with_expr_pattern_sound : ExprPatternPartsAreThere (node_table_of a) e.node
      → IsMeasure e.measure (expr_pattern_size (expr_pattern_over (node_table_of a) e.node))
      (expr_pattern_depth (expr_pattern_over (node_table_of a) e.node)) → Sound (record a { expr_patterns = v })
  with_expr_pattern_sound is_there measured =
      let q = expr_pattern_over (expr_patterns_of a) e.node in
      let still = in_turn_still ExprIsSound expr_entered (λ b. plus_expr_pattern b q) (expr_after_expr_pattern q)
      (expr_still_sound q) (expr_patterns_of a) a.exprs.items s.exprs in
      record {
        expr_patterns = rw is (in_turn_push ExprPatternIsSound expr_pattern_entered no_node_table a.expr_patterns.items
            e s.expr_patterns (sound_before is_there measured));
        exprs = subst (λ b. InTurn ExprIsSound expr_entered b a.exprs.items) (sym expr_patterns_push) still;
        functions = functions_go_on a (record a { expr_patterns = v }) refl refl refl
            (with_expr_pattern (node_table_of a) e.node) expr_patterns_grown
            (on_by_expr_pattern (node_table_of a) (expr_pattern_over (node_table_of a) e.node)) s;
      }

-- ---- a function

pub with_function_sound : (a : Inside) (f : ExprFunction) (v : Vec ExprFunction) → v.items ≡ a.functions.items ++ f ∷ []
    → Sound a → HeadsAreThere (node_table_of a) f → Sound (record a { functions = v })
with_function_sound a f v is s is_there = record {
  expr_patterns = s.expr_patterns;
  exprs = s.exprs;
  functions = rw is (All-push (HeadsAreThere (node_table_of a)) a.functions.items f s.functions is_there);
}

-- ---- nothing

pub same_functions_sound : (a : Inside) (v : Vec ExprFunction) → v.items ≡ a.functions.items → Sound a
    → Sound (record a { functions = v })
same_functions_sound a v is s = record {
  expr_patterns = s.expr_patterns;
  exprs = s.exprs;
  functions =
      rw is s.functions;
}

pub same_exprs_sound : (a : Inside) (v : Vec ExprEntry) → v.items ≡ a.exprs.items → Sound a
    → Sound (record a { exprs = v })
same_exprs_sound a v is s = record {
  expr_patterns = s.expr_patterns;
  exprs = rw is s.exprs;
  functions =
      rw is s.functions;
}

pub same_expr_patterns_sound : (a : Inside) (v : Vec ExprPatternEntry) → v.items ≡ a.expr_patterns.items → Sound a
    → Sound (record a { expr_patterns = v })
same_expr_patterns_sound a v is s = record {
  expr_patterns = rw is s.expr_patterns;
  exprs = rw is s.exprs;
  functions =
      rw is s.functions;
}

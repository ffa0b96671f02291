use Rattle.std.proofs.Common.{◌∙◌}
use Rattle.pf_syntax.proofs.NodeTableExtends.{all_expr_patterns_are_there, condition_kept, condition_is_there}
use Rattle.pf_syntax.proofs.NodeTableExtends.{expr_patterns_kept}
use Rattle.pf_reader.specs.View.{names_of, tokens_in}
use Rattle.pf_reader.proofs.Kept.{expr_patterns_in_row, exprs_in_row}
use Rattle.pf_reader.proofs.Growth.{again}
use Rattle.pf_reader.proofs.Turns.{head_is}
use Rattle.pf_reader.proofs.function.read_head.Goals as goal

pub returns-clause-given : goal.returns-clause-given
returns-clause-given c =
    let b = c.read_expr_patterns.new.syntax.node_table in
    let d = c.read_body.new.syntax.node_table in
    let qs = c.in_ok-parameters.parameters.items in
    let on = again _ _ _ c.in_ok-condition.ensures.grown c.in_ok-body.ensures.grown in
    let patterns = expr_patterns_kept b d on.node_table qs c.in_ok-parameters.ensures.is_there
    ∙ expr_patterns_in_row b qs in
    let guard = condition_kept c.read_when.new.syntax.node_table d c.in_ok-body.ensures.grown.node_table
    c.in_ok-condition.condition c.in_ok-condition.ensures.is_there in
    head_is (names_of c.args.context) (tokens_in c.args.tokens) _ _ _ _ _ _ _ _ _ _ _ _ _ _ patterns guard
    (exprs_in_row d c.in_ok-body.body.items)
    c.in_ok-ident.ensures c.in_ok-rest.ensures c.in_ok-parameters.ensures.given c.in_ok-condition.ensures.given
    c.in_ok-rest-2.ensures c.in_ok-body.ensures.given

pub returns-clause-is_there : goal.returns-clause-is_there
returns-clause-is_there c =
    let b = c.read_expr_patterns.new.syntax.node_table in
    let d = c.read_body.new.syntax.node_table in
    let on = again _ _ _ c.in_ok-condition.ensures.grown c.in_ok-body.ensures.grown in (
      all_expr_patterns_are_there b d on.node_table c.in_ok-parameters.parameters.items
          c.in_ok-parameters.ensures.is_there,
      condition_is_there c.read_when.new.syntax.node_table d c.in_ok-body.ensures.grown.node_table
          c.in_ok-condition.condition c.in_ok-condition.ensures.is_there,
      c.in_ok-body.ensures.is_there,
    )

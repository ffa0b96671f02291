use Rattle.std.proofs.Common.{sym, ap, ◌∙◌, true, false}
use Rattle.pf_syntax.specs.Over.{tree_over}
use Rattle.pf_stepper.specs.declared.frame.Callee.TheVariants as callee
use Rattle.pf_stepper.proofs.Focused.{negate_node, match_node, bind_node, case_node, shortcut_node}
use Rattle.pf_stepper.proofs.Follows.{descended, passed}
use Rattle.pf_stepper.proofs.Passed.{begins_call}
use Rattle.pf_stepper.proofs.stack.Stack.visit_node.Goals as goal

pub returns-in-Negate : goal.returns-in-Negate
returns-in-Negate c = descended _ c.args.own c.args.self.now _ _ c.descend_apart.new.self _ _ _ _ _ _
    (negate_node _ c.args.own _ _ _ _ c.args.id c.requires.sound _ c.requires.found _ c.in-Negate.is)
    c.descend_apart.ensures

pub returns-in-AndAlso : goal.returns-in-AndAlso
returns-in-AndAlso c = descended _ c.args.own c.args.self.now _ _ c.descend_apart-in-AndAlso.new.self _ _ _ _ _ _
    (shortcut_node _ c.args.own _ _ _ _ c.args.id c.requires.sound false _ _
    (ap (tree_over c.args.code.now.tables) (sym c.in-AndAlso.is) ∙ c.requires.found)) c.descend_apart-in-AndAlso.ensures

pub returns-in-OrElse : goal.returns-in-OrElse
returns-in-OrElse c = descended _ c.args.own c.args.self.now _ _ c.descend_apart-in-OrElse.new.self _ _ _ _ _ _
    (shortcut_node _ c.args.own _ _ _ _ c.args.id c.requires.sound true _ _
    (ap (tree_over c.args.code.now.tables) (sym c.in-OrElse.is) ∙ c.requires.found)) c.descend_apart-in-OrElse.ensures

pub returns-in-Call : goal.returns-in-Call
returns-in-Call c = passed _ c.args.own c.args.self.now _ _ _ c.pass.new.self _ _ _ _ _ _
    (begins_call _ c.args.own _ _ _ _ c.args.id (callee.Function c.in-Call.function) _ c.requires.sound
    (ap (tree_over c.args.code.now.tables) (sym c.in-Call.is) ∙ c.requires.found)) c.pass.ensures

pub returns-in-Builtin : goal.returns-in-Builtin
returns-in-Builtin c = passed _ c.args.own c.args.self.now _ _ _ c.pass_apart.new.self _ _ _ _ _ _
    (begins_call _ c.args.own _ _ _ _ c.args.id (callee.Builtin c.in-Builtin.builtin) _ c.requires.sound
    (ap (tree_over c.args.code.now.tables) (sym c.in-Builtin.is) ∙ c.requires.found)) c.pass_apart.ensures

pub returns-in-Tuple : goal.returns-in-Tuple
returns-in-Tuple c = passed _ c.args.own c.args.self.now _ _ _ c.pass_apart-in-Tuple.new.self _ _ _ _ _ _
    (begins_call _ c.args.own _ _ _ _ c.args.id (callee.Tuple) _ c.requires.sound
    (ap (tree_over c.args.code.now.tables) (sym c.in-Tuple.is) ∙ c.requires.found)) c.pass_apart-in-Tuple.ensures

pub returns-in-Match : goal.returns-in-Match
returns-in-Match c = descended _ c.args.own c.args.self.now _ _ c.descend_apart-in-Match.new.self _ _ _ _ _ _
    (match_node _ c.args.own _ _ _ _ c.args.id c.requires.sound _ c.requires.found _ _ c.in-Match.is)
    c.descend_apart-in-Match.ensures

pub returns-in-Bind : goal.returns-in-Bind
returns-in-Bind c = descended _ c.args.own c.args.self.now _ _ c.descend_apart-in-Bind.new.self _ _ _ _ _ _
    (bind_node _ c.args.own _ _ _ _ c.args.id c.requires.sound _ c.requires.found _ _ _ c.in-Bind.is)
    c.descend_apart-in-Bind.ensures

pub returns-in-Case : goal.returns-in-Case
returns-in-Case c = descended _ c.args.own c.args.self.now _ _ c.case.new.self _ _ _ _ _ _
    (case_node _ c.args.own _ _ _ _ c.args.id c.requires.sound _ c.requires.found _ _ c.in-Case.is) c.case.ensures

use Rattle.std.proofs.Common.{◌≡◌, ◌+◌, ◌∷◌, drop}
use Rattle.std.specs.Prelude.{map}
use Rattle.std.proofs.lemmas.List.{at_drop_all}
use Rattle.pf_syntax.specs.SyntaxTreeOver.{head_over}
use Rattle.pf_rules.specs.Static.{head_faults, names_of_module}
use Rattle.pf_static_check.proofs.Defining.{onward_first, onward_more, onward_all}
use Rattle.pf_static_check.proofs.Passing.{next_item}
use Rattle.pf_static_check.proofs.walk.ClauseWalk.heads.Goals as goal

pub loop-head-init : goal.loop-head-init
loop-head-init c = onward_first c.args.self.now _

pub loop-head-preserved : goal.loop-head-preserved
loop-head-preserved c =
    let node_table = c.args.syntax.now.node_table in
    let hs = c.args.heads.now in
    let i = c.loop-head.head-index in
    let x = c.head-item.result in
    let rest = map (head_over node_table) (drop (i + 1) hs) in
    let split : map (head_over node_table) (drop i hs) ≡ head_over node_table x ∷ rest =
    next_item (map (head_over node_table)) hs i x c.loop-head-test.true c.head-item.is in
    onward_more (head_faults (names_of_module c.args.atoms.now c.args.syntax.now.functions)) c.args.self.now
    c.loop-head.self c.head.new.self _ rest (head_over node_table x) _ split c.loop-head.invariant
    c.in_ok-head.ensures

pub returns : goal.returns
returns c =
    let node_table = c.args.syntax.now.node_table in
    let hs = c.args.heads.now in
    let i = c.loop-head.head-index in
    onward_all (head_faults (names_of_module c.args.atoms.now c.args.syntax.now.functions)) c.args.self.now
    c.loop-head.self (map (head_over node_table) (drop i hs)) _
    (at_drop_all (map (head_over node_table)) hs i c.loop-head-test.false) c.loop-head.invariant

use Rattle.std.proofs.Common.{◌≡◌, length, true, false, sym, ◌∙◌, arith}
use Rattle.std.specs.Prelude.{◌||◌}
use Rattle.pf_syntax.specs.SyntaxTreeOver.{head_over}
use Rattle.pf_rules.specs.Static.{is_builtin}
use Rattle.pf_rules.specs.Listing.{lists}
use Rattle.pf_rules.proofs.Counts.{parameters_length}
use Rattle.pf_static_check.proofs.Defining.{defines, noted_fault, noted_nothing, listed_before, listed_builtin}
use Rattle.pf_static_check.proofs.Defining.{listed_nowhere}
use Rattle.pf_static_check.proofs.faults.define_head.Goals as goal
use Rattle.pf_static_check.proofs.faults.define_head.Goals.{then-not-fresh-via-then-not-fresh}
use Rattle.pf_static_check.proofs.faults.define_head.Goals.{then-not-fresh-via-else-not-fresh+then-is_builtin}

pub returns-then-not-fresh : goal.returns-then-not-fresh
returns-then-not-fresh c = λ b hs.
    let head = c.args.head.now in
    let name = head.ident.name.0 in
    let k = c.len-arity.result in
    let known = lists c.args.own.now name k in
    let built = is_builtin c.args.atoms.now name k in
    let fresh = c.in_ok-fresh.ensures.fresh in
    let len : k ≡ length head.parameters.items = omega (arith, head.parameters.ok.0) in
    let taken : (known || built) ≡ true = elim c.then-not-fresh.branch [
      | then-not-fresh-via-then-not-fresh w ↦ listed_before c.in_ok-fresh.fresh known built fresh w.if-not-fresh.true
      | then-not-fresh-via-else-not-fresh+then-is_builtin w ↦ listed_builtin known built w.is_builtin.result
          w.is_builtin.ensures w.if-is_builtin.true
    ] in
    defines c.args.atoms.now (head_over b head) hs k c.args.own.now c.add.new.self c.args.first.now c.note.new.self
    c.in_ok-fresh.ensures.added (len ∙ sym (parameters_length b head.parameters.items))
    (noted_fault (known || built) c.args.first.now c.note.new.self head.ident.offset taken c.note.ensures)

pub returns-else-is_builtin : goal.returns-else-is_builtin
returns-else-is_builtin c = λ b hs.
    let head = c.args.head.now in
    let name = head.ident.name.0 in
    let k = c.len-arity.result in
    let known = lists c.args.own.now name k in
    let built = is_builtin c.args.atoms.now name k in
    let len : k ≡ length head.parameters.items = omega (arith, head.parameters.ok.0) in
    let free : (known || built) ≡ false = listed_nowhere c.in_ok-fresh.fresh known built c.is_builtin.result
    c.in_ok-fresh.ensures.fresh c.if-not-fresh.false c.is_builtin.ensures c.if-is_builtin.false in
    defines c.args.atoms.now (head_over b head) hs k c.args.own.now c.add.new.self c.args.first.now c.args.first.now
    c.in_ok-fresh.ensures.added (len ∙ sym (parameters_length b head.parameters.items))
    (noted_nothing (known || built) c.args.first.now head.ident.offset free)

use Rattle.std.proofs.Common.{◌≡◌, refl, sym, ap, ◌∙◌, subst, [], drop, length, rules}
use Rattle.std.specs.Prelude.{map, slice_get}
use Rattle.pf_syntax.specs.SyntaxTreeOver.{head_over}
use Rattle.pf_rules.specs.Checks.{is_exported}
use Rattle.pf_lower.specs.Built.{Lowers}
use Rattle.pf_lower.specs.Heads.{HeadsMean}
use Rattle.pf_rules.proofs.Counts.{parameters_length}
use Rattle.pf_lower.proofs.Knows_more.{first_is}
use Rattle.pf_lower.proofs.Heads_mean.{function_done}
use Rattle.pf_lower.proofs.build.function.Goals as goal

pub returns-in-Ok : goal.returns-in-Ok
returns-in-Ok c =
    let fs = c.args.syntax.now.functions in
    let b = c.args.syntax.now.node_table in
    let hs = c.args.read.now.heads.items in
    let h = c.in-Some.head.now in
    let count = parameters_length b h.parameters.items in
    let short : c.in-Ok.arity ≡ length h.parameters.items = search rules in
    let counted : c.len-count.result ≡ length h.parameters.items = search rules in
    function_done fs b c.args.syntax.now.exports c.args.module.now c.clauses.new.module c.clauses.new.slots
    (map (head_over b) hs) (head_over b h) (map (head_over b) (drop 1 hs)) _
    (ap (map (head_over b)) (first_is hs h (c.in-Some.ensures.value ∙ ap (λ l. slice_get l 0) c.deref.ensures.value)))
    refl (short ∙ sym count) (c.has.ensures ∙ c.requires.exports h.ident.name.0 c.len-count.result
    ∙ ap (is_exported c.args.syntax.now.exports h.ident.name.0) (counted ∙ sym count))
    (subst (λ l. Lowers c.args.module.now c.clauses.new.module c.clauses.new.slots []
    (λ u. HeadsMean fs u (map (head_over b) l) c.in_ok-clauses.clauses.items)) c.as_slice.ensures.value
    c.in_ok-clauses.ensures)

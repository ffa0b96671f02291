use Rattle.std.proofs.Common.{◌≡◌, ℕ, List, length, Some, None, refl, sym, ap, ◌∙◌}
use Rattle.pf_terms.specs.Atoms.{name_of}
use Rattle.pf_syntax.specs.Forms.{builtin_named}
use Rattle.pf_syntax.specs.Naming.{arity_of}
use Rattle.pf_syntax.specs.Naming as w
use Rattle.pf_syntax.specs.Expr as p
use Rattle.pf_syntax.specs.SyntaxTreeOver.{exprs_at}
use Rattle.pf_syntax.specs.declared.node.Operand.TheVariants as part
use Rattle.pf_rules.specs.Static.{own_in, names_of_module}
use Rattle.pf_lower.proofs.Growing.{by_ok, expr_put, grown_itself}
use Rattle.pf_rules.proofs.Counts.{arity_length}
use Rattle.pf_lower.proofs.Exprs_mean.{expr_here, call_defined, call_clean}
use Rattle.pf_lower.proofs.expressions.call.Goals as goal

pub returns-in-Some : goal.returns-in-Some
returns-in-Some c =
    let m = c.args.module.now in
    let fs = c.args.syntax.now.functions in
    let n = names_of_module m.atoms fs in
    let es = exprs_at c.args.syntax.now.node_table c.args.ids.now in
    let f = c.args.ident.name.0 in
    let at = c.args.ident.offset in
    by_ok _ _ _ c.put_node.ensures
    (λ x h. expr_put fs m m _ _ c.args.slots.now _ (p.call f at es) _ x refl refl (grown_itself m)
    (λ g e i k. w.own g f at c.in-Some.function.0 es _
    (ap (own_in fs f) (arity_length c.args.syntax.now.node_table c.args.ids.now) ∙ c.in-Some.ensures)
    (c.requires.parts_are.means g e i (call_clean n g f at es k))) h)

-- what was found by a name and a number is found by others that are the same
found_by : {X : Type 0} (B : List ℕ → ℕ → X) (name there : List ℕ) (k count : ℕ) (x : X) → name ≡ there → k ≡ count
    → x ≡ B name count → B there k ≡ x
found_by B name there k count x e d h = ap (B there) d ∙ ap (λ (l : List ℕ). B l count) (sym e) ∙ sym h

pub returns-in-Some-builtin_named : goal.returns-in-Some-builtin_named
returns-in-Some-builtin_named c =
    let m = c.args.module.now in
    let fs = c.args.syntax.now.functions in
    let n = names_of_module m.atoms fs in
    let es = exprs_at c.args.syntax.now.node_table c.args.ids.now in
    let f = c.args.ident.name.0 in
    let at = c.args.ident.offset in
    let named = c.name.ensures ∙ ap (λ (a : List (List ℕ)). name_of a f) c.atoms.ensures in
    let found = found_by builtin_named c.name.result.now (name_of m.atoms f) (arity_of es) (length c.args.ids.now)
    (Some c.in-Some-builtin_named.builtin) named (arity_length c.args.syntax.now.node_table c.args.ids.now)
    c.in-Some-builtin_named.ensures in
    by_ok _ _ _ c.put_node-in-Some-builtin_named.ensures
    (λ x h. expr_put fs m m _ _ c.args.slots.now _ (p.call f at es) _ x refl refl (grown_itself m)
    (λ g e i k. w.builtin g f at c.in-Some-builtin_named.builtin es _ found
    (c.requires.parts_are.means g e i (call_clean n g f at es k))) h)

pub returns-in-None : goal.returns-in-None
returns-in-None c =
    let m = c.args.module.now in
    let fs = c.args.syntax.now.functions in
    let n = names_of_module m.atoms fs in
    let es = exprs_at c.args.syntax.now.node_table c.args.ids.now in
    let f = c.args.ident.name.0 in
    let at = c.args.ident.offset in
    let count = arity_length c.args.syntax.now.node_table c.args.ids.now in
    let named = c.name.ensures ∙ ap (λ (a : List (List ℕ)). name_of a f) c.atoms.ensures in
    let found = found_by builtin_named c.name.result.now (name_of m.atoms f) (arity_of es) (length c.args.ids.now) None
    named count c.in-None.ensures in
    expr_here fs m c.args.slots.now _ (p.call f at es) part.Nil refl tt
    (λ g e i k. absurd (call_defined n g f at es (ap (own_in fs f) count ∙ c.in_default.ensures) found k))

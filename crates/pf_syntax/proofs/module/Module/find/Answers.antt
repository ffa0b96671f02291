use Rattle.std.proofs.Common.{◌≡◌, ◌∙◌, ap, sym}
use Rattle.std.specs.Prelude.{position, ◌&&◌, ◌==◌, None}
use Rattle.pf_syntax.specs.Module.{Checked, first_named, is_named}
use Rattle.pf_syntax.specs.Over.{function_over}
use Rattle.pf_syntax.specs.View.{tables_of}
use Rattle.pf_syntax.proofs.Named.{position-map}
use Rattle.pf_syntax.proofs.module.Module.find.Goals as goal

pub returns : goal.returns
returns c =
    let a = c.self.inside in
    let name = c.args.name.0 in
    let arity = c.args.arity in
    ap (λ (m : Checked). first_named name arity m.functions) (sym c.self.view_is)
    ∙ position-map (is_named name arity) (function_over (tables_of a)) a.functions.items
    ∙ ap (position (λ f. (f.name.0 == name) && (f.arity == arity))) (sym c.deref.ensures.value)
    ∙ sym c.index_of.ensures
    ∙ c.in_ok-index.was

pub returns-in_err-index : goal.returns-in_err-index
returns-in_err-index c =
    let a = c.self.inside in
    let name = c.args.name.0 in
    let arity = c.args.arity in
    let absent : first_named name arity c.args.self.now.functions ≡ None =
    ap (λ (m : Checked). first_named name arity m.functions) (sym c.self.view_is)
    ∙ position-map (is_named name arity) (function_over (tables_of a)) a.functions.items
    ∙ ap (position (λ f. (f.name.0 == name) && (f.arity == arity))) (sym c.deref.ensures.value)
    ∙ sym c.index_of.ensures
    ∙ c.in_err-index.was in
    rw c.from_residual.ensures absent

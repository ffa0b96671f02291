use Rattle.std.proofs.Common.{◌≡◌, Option, ℕ, Some, None, sym, ap, ◌∙◌}
use Rattle.std.specs.Prelude.{option_map}
use Rattle.pf_terms.specs.Value.{count}
use Rattle.pf_terms.specs.Term.{elements_of, values_of}
use Rattle.pf_model.specs.Module.{module_of}
use Rattle.pf_stepper.specs.MachineView.{at_call}
use Rattle.pf_syntax.specs.declared.node.FunctionId.{FunctionId}
use Rattle.pf_system.specs.Acts.{home_function}
use Rattle.pf_system.proofs.Beginning.{start_at, begins_running, begins_ending}
use Rattle.pf_system.proofs.spawn.begun.Goals as goal
use Rattle.pf_terms.proofs.Counts.{length_count}

pub returns-in_ok-new-in-Some : goal.returns-in_ok-new-in-Some
returns-in_ok-new-in-Some c =
    let m = c.args.module.now.value in
    let vs = elements_of c.args.arguments.now in
    let items = c.in_ok-items.items.items in
    let pid = c.args.pid in
    let f = c.in-Some.function.0 in
    let n : c.len.result ≡ count vs = c.len.ensures.value ∙ length_count items ∙ ap count c.in_ok-items.ensures.items in
    let o : Some f ≡ home_function (module_of m) c.args.home.0 c.args.name.0 c.len.result =
    ap (option_map {T = FunctionId} (λ i. i.0)) (sym c.in-Some.is) ∙ c.exported.ensures
    ∙ ap (λ z. home_function (module_of z) c.args.home.0 c.args.name.0 c.len.result) c.deref.ensures in
    begins_running m pid f vs _ c.in_ok-new-in-Some.field-0
    (c.in_ok-new-in-Some.ensures ∙ ap (λ z. at_call pid z f (values_of items)) c.in_ok-try_clone-in-Some.ensures
    ∙ ap (at_call pid m f) c.in_ok-items.ensures.items)
    (start_at (module_of m) c.args.home.0 c.args.name.0 vs c.len.result (Some f) n o)

pub returns-in_ok-ending_reason-in-None : goal.returns-in_ok-ending_reason-in-None
returns-in_ok-ending_reason-in-None c =
    let m = c.args.module.now.value in
    let vs = elements_of c.args.arguments.now in
    let n : c.len.result ≡ count vs = c.len.ensures.value ∙ length_count c.in_ok-items.items.items
    ∙ ap count c.in_ok-items.ensures.items in
    let none : Option ℕ = None in
    let o : none ≡ home_function (module_of m) c.args.home.0 c.args.name.0 c.len.result =
    ap (option_map {T = FunctionId} (λ i. i.0)) (sym c.in-None.is) ∙ c.exported.ensures
    ∙ ap (λ z. home_function (module_of z) c.args.home.0 c.args.name.0 c.len.result) c.deref.ensures in
    begins_ending m c.args.pid c.in_ok-ending_reason-in-None.field-0 _
    (start_at (module_of m) c.args.home.0 c.args.name.0 vs c.len.result none n o)
    c.in_ok-ending_reason-in-None.ensures

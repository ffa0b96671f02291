use Rattle.std.proofs.Common.{◌++◌, codes, sym, ap, ◌∙◌, append_assoc}
use Rattle.std.specs.Prelude.{option_map}
use Rattle.pf_process_status.specs.Lines.{call_text, function_text}
use Rattle.pf_process_status.proofs.lines.put_call.Goals as goal

pub returns-in_ok-put_function : goal.returns-in_ok-put_function
returns-in_ok-put_function c =
    let old = c.args.out.now.items in
    let m = c.args.module.now in
    let name = function_text m c.in-Some.function.0 in
    c.in_ok-put_function.ensures ∙ ap (λ z. z ++ name) c.in_ok-put.ensures.ok ∙ append_assoc old
    (codes ", at the call of ") name
    ∙ ap (λ o. old ++ call_text m (option_map (λ f. f.0) o)) (sym c.in-Some.is)

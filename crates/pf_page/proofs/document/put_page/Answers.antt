use Rattle.std.proofs.Common.{ℕ, List, ◌++◌, ◌∙◌, ap}
use Rattle.std.proofs.lemmas.Result.{on_ok_weaker}
use Rattle.pf_page.proofs.document.put_page.Goals as goal

pub returns-clause-put : goal.returns-clause-put
returns-clause-put c =
    on_ok_weaker c.put.result
    (λ h. h ∙ ap (λ (t : List ℕ). c.args.out.now.items ++ t) (c.deref.ensures.value ∙ c.in_ok-text.ensures))
    c.put.ensures.ok

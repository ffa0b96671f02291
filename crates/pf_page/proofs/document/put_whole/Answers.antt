use Rattle.std.proofs.Common.{ℕ, List, ◌++◌, ◌∙◌, ap}
use Rattle.std.proofs.lemmas.Result.{on_ok_weaker}
use Rattle.pf_page.specs.Pages.{data_text}
use Rattle.pf_page.specs.declared.script.TheConstants.{TAIL}
use Rattle.pf_page.specs.declared.style.TheConstants.{HEAD}
use Rattle.pf_page.proofs.Joined.{after}
use Rattle.pf_page.proofs.document.put_whole.Goals as goal

pub returns : goal.returns
returns c =
    let out = c.args.out.now.items in
    let runs = data_text c.args.page.now in
    let head = c.in_ok-put.ensures.ok ∙ ap (λ (t : List ℕ). out ++ t) c.as_bytes.ensures.value in
    on_ok_weaker c.put-2.result
    (λ h. after out (HEAD.now ++ runs) TAIL.now (after out HEAD.now runs head c.in_ok-put_data.ensures)
    (h ∙ ap (λ (t : List ℕ). c.put_data.new.out.items ++ t) c.as_bytes-2.ensures.value))
    c.put-2.ensures.ok

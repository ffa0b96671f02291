use Rattle.std.proofs.Common.{ℕ, List, ◌++◌, ◌∙◌, ap}
use Rattle.pf_page.specs.Pages.{page_text}
use Rattle.pf_page.proofs.document.text_of_page.Goals as goal

pub returns : goal.returns
returns c =
    c.in_ok-put_whole.ensures ∙ ap (λ (t : List ℕ). t ++ page_text c.args.page.now) c.new-text.ensures.items

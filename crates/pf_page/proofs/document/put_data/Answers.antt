use Rattle.std.proofs.Common.{◌++◌}
use Rattle.std.proofs.lemmas.Result.{on_ok_weaker}
use Rattle.pf_terms.specs.Atoms.{name_of}
use Rattle.pf_page.specs.Pages.{heads_text, nearest_text, run_text, source_text}
use Rattle.pf_page.proofs.Joined.{after}
use Rattle.pf_page.proofs.document.put_data.Goals as goal

pub returns : goal.returns
returns c =
    let page = c.args.page.now in
    let name = name_of page.atoms.now in
    let out = c.args.out.now.items in
    let heads = heads_text page in
    let run = run_text name page.run in
    let nearest = nearest_text name page.nearest in
    on_ok_weaker c.put_source.result
    (λ h. after out (heads ++ run ++ nearest) (source_text page.source.now)
    (after out (heads ++ run) nearest
    (after out heads run c.in_ok-put_heads.ensures c.in_ok-put_run.ensures) c.in_ok-put_nearest.ensures) h)
    c.put_source.ensures

use Rattle.std.proofs.Common.{◌++◌}
use Rattle.std.specs.Prelude.{codes}
use Rattle.std.proofs.lemmas.Result.{on_ok_weaker}
use Rattle.pf_svg.specs.Escaped.{escaped}
use Rattle.pf_page.proofs.Joined.{after}
use Rattle.pf_page.proofs.document.put_source.Goals as goal

pub returns : goal.returns
returns c =
    let source = escaped c.args.source.now in
    let end = codes "</pre>\n" in
    on_ok_weaker c.put-2.result
    (λ h. after c.args.out.now.items (codes "<pre id=\"source\">\n") (source ++ end) c.in_ok-put.ensures.ok
    (after c.put.new.out.items source end c.in_ok-put_escaped.ensures h))
    c.put-2.ensures.ok

use Rattle.std.proofs.Common.{◌++◌}
use Rattle.std.specs.Prelude.{codes, flat_map}
use Rattle.std.proofs.lemmas.Result.{on_ok_weaker}
use Rattle.pf_terms.specs.Atoms.{name_of}
use Rattle.pf_svg.specs.Document.{attribute_text}
use Rattle.pf_page.specs.Pages.{event_item, outcome_words}
use Rattle.pf_page.proofs.Joined.{after}
use Rattle.pf_page.proofs.document.put_run.Goals as goal

pub returns : goal.returns
returns c =
    let name = name_of c.args.atoms.now in
    let run = c.args.run.now in
    let out = c.args.out.now.items in
    let failing = codes "<section" ++ attribute_text (codes "data-failing") run.failing in
    let words = outcome_words name run in
    let events = flat_map (event_item name) run.events.now in
    on_ok_weaker c.put-4.result
    (λ h. after out (failing ++ codes ">\n" ++ words ++ codes "<ol>\n" ++ events) (codes "</ol>\n</section>\n")
    (after out (failing ++ codes ">\n" ++ words ++ codes "<ol>\n") events
    (after out (failing ++ codes ">\n" ++ words) (codes "<ol>\n")
    (after out (failing ++ codes ">\n") words
    (after out failing (codes ">\n")
    (after out (codes "<section") (attribute_text (codes "data-failing") run.failing) c.in_ok-put.ensures.ok
    c.in_ok-put_attribute.ensures) c.in_ok-put-2.ensures.ok) c.in_ok-put_outcome_words.ensures)
    c.in_ok-put-3.ensures.ok) c.in_ok-put_events.ensures) h)
    c.put-4.ensures.ok

use Rattle.std.proofs.Common.{◌++◌}
use Rattle.std.specs.Prelude.{codes}
use Rattle.std.proofs.lemmas.Result.{on_ok_weaker}
use Rattle.pf_terms.specs.Atoms.{name_of}
use Rattle.pf_model.specs.Reports.{view_of_event}
use Rattle.pf_page.specs.Pages.{event_numbers, event_words}
use Rattle.pf_page.proofs.Joined.{after}
use Rattle.pf_page.proofs.events.put_event.Goals as goal

pub returns : goal.returns
returns c =
    let event = view_of_event c.args.event.now.event.now in
    let out = c.args.out.now.items in
    let numbers = event_numbers event c.args.event.now.line in
    let words = event_words (name_of c.args.atoms.now) event.label c.args.event.now.function.now in
    on_ok_weaker c.put-3.result
    (λ h. after out (codes "<li" ++ numbers ++ codes ">" ++ words) (codes "</li>\n")
    (after out (codes "<li" ++ numbers ++ codes ">") words
    (after out (codes "<li" ++ numbers) (codes ">")
    (after out (codes "<li") numbers c.in_ok-put.ensures.ok c.in_ok-put_event_numbers.ensures)
    c.in_ok-put-2.ensures.ok) c.in_ok-put_event_words.ensures) h)
    c.put-3.ensures.ok

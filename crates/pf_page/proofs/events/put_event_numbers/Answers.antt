use Rattle.std.proofs.Common.{◌++◌}
use Rattle.std.specs.Prelude.{codes}
use Rattle.std.proofs.lemmas.Result.{on_ok_weaker}
use Rattle.pf_svg.specs.Document.{attribute_text}
use Rattle.pf_page.specs.Pages.{choice_text, processes_text}
use Rattle.pf_page.proofs.Joined.{after}
use Rattle.pf_page.proofs.events.put_event_numbers.Goals as goal

pub returns : goal.returns
returns c =
    let event = c.args.event.now in
    let out = c.args.out.now.items in
    let processes = processes_text event.actor in
    let choice = choice_text event.choice event.count in
    let line = attribute_text (codes "data-line") c.args.line in
    on_ok_weaker c.put_attribute.result
    (λ h. after out (processes ++ choice) line
    (after out processes choice c.in_ok-put_processes.ensures c.in_ok-put_choice.ensures) h)
    c.put_attribute.ensures

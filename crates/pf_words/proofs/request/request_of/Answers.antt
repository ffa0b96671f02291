use Rattle.std.proofs.Common.{◌∙◌, map, sym, ap}
use Rattle.pf_cli.specs.Args.{named_file, view_of_command, view_of_reading}
use Rattle.pf_words.specs.Words.{Obeys, ObeysByFile}
use Rattle.pf_words.proofs.Reported.{asked_obeys, asks_more, file_obeys, text_asks}
use Rattle.pf_words.proofs.request.request_of.Goals as goal

pub returns-in-Asked : goal.returns-in-Asked
returns-in-Asked g c written failed new o done =
    asked_obeys (map (λ w. w.now) c.args.words.now) _ new (view_of_command c.in-Asked.asked)
    (named_file c.in-Asked.asked.args) o
    (sym (ap view_of_reading c.in-Asked.is) ∙ c.in_ok-asked.ensures) done

pub returns-in-Text : goal.returns-in-Text
returns-in-Text g c written failed new o done =
    text_asks (map (λ w. w.now) c.args.words.now) _ new c.in-Text.text c.in-Text.status
    c.in-Text.is_fault o
    (sym (ap view_of_reading c.in-Text.is) ∙ c.in_ok-asked.ensures) done

pub returns-in-ScheduleIn : goal.returns-in-ScheduleIn
returns-in-ScheduleIn g c written failed =
    let words = map (λ w. w.now) c.args.words.now in
    asks_more (ObeysByFile words c.in-ScheduleIn.file.now _) (Obeys words _) _ c.request_by_file.result
    (λ new r h. file_obeys words _ new c.in-ScheduleIn.file.now r
    (sym (ap view_of_reading c.in-ScheduleIn.is) ∙ c.in_ok-asked.ensures) h)
    (c.request_by_file.ensures written failed)

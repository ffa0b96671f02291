use Rattle.std.proofs.Common.{◌∙◌, Some, map, sym, ap}
use Rattle.pf_cli.specs.Args.{file_of, named_file, view_of_command, view_of_reading, wanted_by, words_status}
use Rattle.pf_words.proofs.Reported.{asked_obeys_by, never_reads, text_asks_by}
use Rattle.pf_words.proofs.request.request_by.Goals as goal

pub returns-in-Asked : goal.returns-in-Asked
returns-in-Asked g c old new o done =
    asked_obeys_by (map (λ w. w.now) c.args.words.now) c.args.file.text.now old new (view_of_command c.in-Asked.asked)
    (named_file c.in-Asked.asked.args)
    o (sym (ap view_of_reading c.in-Asked.is) ∙ c.in_ok-asked.ensures) (c.asked_by.ensures old new o done)

pub returns-in-Text : goal.returns-in-Text
returns-in-Text g c old new o done =
    text_asks_by (map (λ w. w.now) c.args.words.now) c.args.file.text.now old new c.in-Text.text c.in-Text.status
    c.in-Text.is_fault o
    (sym (ap view_of_reading c.in-Text.is) ∙ c.in_ok-asked.ensures) done

pub unreachable-requires : goal.unreachable-requires
unreachable-requires g c =
    let words = map (λ w. w.now) c.args.words.now in
    never_reads (wanted_by (Some c.args.file.text.now) words) (file_of words) (words_status words) _
    (sym (ap view_of_reading c.in-ScheduleIn.is) ∙ c.in_ok-asked.ensures)

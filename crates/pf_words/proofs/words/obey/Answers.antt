use Rattle.std.proofs.Common.{map, refl, ap}
use Rattle.pf_cli.specs.Args.{named_file, view_of_args}
use Rattle.pf_words.specs.Words.{Obeys}
use Rattle.pf_words.specs.declared.request.WordsRequest.TheVariants as request
use Rattle.pf_words.specs.declared.words.Obeyed.TheVariants.{Status, Farm}
use Rattle.pf_words.proofs.Reported.{asks_then, work_asks}
use Rattle.pf_words.proofs.words.obey.Goals as goal

pub returns-in-Text : goal.returns-in-Text
returns-in-Text g c =
    asks_then (Obeys (map (λ w. w.now) c.args.words.now) _) _ _ c.in_ok-asked.field-0
    (request.Text c.in-Text.text c.in-Text.status c.in-Text.is_fault) (Status c.notify.result) c.in-Text.is
    (c.in_ok-asked.ensures _ _) (refl, refl, c.notify.ensures)

pub returns-in-Refused : goal.returns-in-Refused
returns-in-Refused g c =
    asks_then (Obeys (map (λ w. w.now) c.args.words.now) _) _ _ c.in_ok-asked.field-0
    (request.Refused c.in-Refused.status) (Status c.in-Refused.status) c.in-Refused.is (c.in_ok-asked.ensures _ _)
    (refl, refl)

pub returns-in-Ok : goal.returns-in-Ok
returns-in-Ok g c =
    asks_then (Obeys (map (λ w. w.now) c.args.words.now) _) _ _ c.in_ok-asked.field-0
    (request.Asked c.in-Asked.asked) (Farm c.in-Ok.farm) c.in-Asked.is (c.in_ok-asked.ensures _ _)
    (ap view_of_args c.in-Ok.ensures.farm, ap named_file c.in-Ok.ensures.farm, refl)

pub returns-in-Text-format : goal.returns-in-Text-format
returns-in-Text-format g c =
    asks_then (Obeys (map (λ w. w.now) c.args.words.now) _) _ _ c.in_ok-asked.field-0
    (request.Asked c.in-Asked.asked) (Status c.work.result) c.in-Asked.is (c.in_ok-asked.ensures _ _)
    (work_asks c.in-Asked.asked c.in-Err.asked _ _ c.work.result c.in-Err.ensures.other.0
    (rw c.in-Text-format.is c.work.ensures))

pub returns : goal.returns
returns g c =
    asks_then (Obeys (map (λ w. w.now) c.args.words.now) _) _ _ c.in_ok-asked.field-0
    (request.Asked c.in-Asked.asked) (Status c.work_in_json.result) c.in-Asked.is (c.in_ok-asked.ensures _ _)
    (work_asks c.in-Asked.asked c.in-Err.asked _ _ c.work_in_json.result c.in-Err.ensures.other.0
    (rw c.in-Json.is c.work_in_json.ensures))

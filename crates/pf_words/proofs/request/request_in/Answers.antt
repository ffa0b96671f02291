use Rattle.std.proofs.Common.{◌∙◌, sym, ap, map, inl}
use Rattle.std.specs.Prelude.{is_some}
use Rattle.pf_text.specs.Numbers.{schedule_of}
use Rattle.pf_words.specs.Schedules.{schedule_in}
use Rattle.pf_words.specs.Words.{ObeysBy, ObeysIn}
use Rattle.pf_words.proofs.Reported.{asks_more, in_contents, refused_in}
use Rattle.pf_words.proofs.request.request_in.Goals as goal

pub returns-then-branch : goal.returns-then-branch
returns-then-branch g c old =
    let words = map (λ w. w.now) c.args.words.now in
    let contents = c.args.file.text.now in
    let is = ap (λ t. is_some (schedule_of t)) (sym c.schedule_in-schedule.ensures) ∙ sym c.in_ok-is_schedule.ensures
    ∙ c.if-branch.true in
    asks_more (ObeysBy words (schedule_in contents) old) (ObeysIn words contents old) old c.request_by.result
    (λ new r h. in_contents words contents old new r is h)
    (rw c.schedule_in-schedule.ensures at c.request_by.ensures old)

pub returns-in_ok-no_schedule : goal.returns-in_ok-no_schedule
returns-in_ok-no_schedule g c old new o done =
    refused_in (map (λ w. w.now) c.args.words.now) c.args.file.text.now old new _ o (inl c.in_ok-no_schedule.ensures)
    done

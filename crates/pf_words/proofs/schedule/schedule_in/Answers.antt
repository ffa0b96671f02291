use Rattle.std.proofs.Common.{◌∙◌, sym, ap}
use Rattle.std.specs.Prelude.{option_map, unwrap_or}
use Rattle.std.specs.Str.{trim_end}
use Rattle.std.proofs.lemmas.Iterator.Consumers.{YieldsList-end}
use Rattle.std.proofs.lemmas.Iterator.Splits.{YieldsList-from_lines}
use Rattle.pf_words.proofs.Schedules.{in_text, none_passed, reported_before, reported_now}
use Rattle.pf_words.proofs.schedule.schedule_in.Goals as goal

pub loop-line-init : goal.loop-line-init
loop-line-init c = none_passed

pub loop-line-preserved-in-Some-reported_in : goal.loop-line-preserved-in-Some-reported_in
loop-line-preserved-in-Some-reported_in c =
    reported_now c.loop-line.found c.loop-line.yielded c.in-Some.line c.loop-line.invariant
    c.in-Some-reported_in.schedule
    (sym c.reported_in.ensures ∙ ap (option_map (λ s. s.now)) c.in-Some-reported_in.is)

pub loop-line-preserved : goal.loop-line-preserved
loop-line-preserved c =
    reported_before c.loop-line.found c.loop-line.yielded c.in-Some.line c.loop-line.invariant
    (sym c.reported_in.ensures ∙ ap (option_map (λ s. s.now)) c.in_default.is)

pub returns-in-Some-found : goal.returns-in-Some-found
returns-in-Some-found c =
    let all = YieldsList-end (YieldsList-from_lines c.args.text.now cc) c.loop-line.yielded _ c.loop-line.yielded_by _ _
    c.in-None.is c.next.ensures.steps in
    sym (ap (λ o. unwrap_or (option_map (λ s. s.now) o) (trim_end c.args.text.now)) c.in-Some-found.is)
    ∙ in_text c.args.text.now c.loop-line.found c.loop-line.yielded c.loop-line.invariant all.0

pub returns-in-None-found : goal.returns-in-None-found
returns-in-None-found c =
    let all = YieldsList-end (YieldsList-from_lines c.args.text.now cc) c.loop-line.yielded _ c.loop-line.yielded_by _ _
    c.in-None.is c.next.ensures.steps in
    c.trim_end.ensures.trim
    ∙ sym (ap (λ o. unwrap_or (option_map (λ s. s.now) o) (trim_end c.args.text.now)) c.in-None-found.is)
    ∙ in_text c.args.text.now c.loop-line.found c.loop-line.yielded c.loop-line.invariant all.0

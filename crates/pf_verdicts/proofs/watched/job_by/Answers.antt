use Rattle.std.proofs.Common.{ℕ, List, Ok, subst}
use Rattle.pf_property.specs.Texts.{ReadsProperty}
use Rattle.pf_property.specs.Views.{property_of}
use Rattle.pf_request.specs.Request.{Request}
use Rattle.pf_request.specs.View.{view_of_request}
use Rattle.pf_sched.specs.Asked.{Asks}
use Rattle.pf_verdicts.proofs.Made.{by_another}
use Rattle.pf_verdicts.proofs.watched.job_by.Goals as goal

pub returns-in-Some-Some-Some : goal.returns-in-Some-Some-Some
returns-in-Some-Some-Some c =
    let m = c.args.module.now in
    let j = c.args.job.now in
    let r = view_of_request c.args.request.now in
    let text = c.args.text.now in
    let made = c.in-Some-Some-Some in
    let p = property_of made.property in
    let f = property_of made.first in
    let asks : Asks m c.edition.result (view_of_request c.in_ok-by.by) (Ok made.job) =
    rw made.is-0 at c.in_ok-watched.ensures in
    let other = subst (λ (q : Request). Asks m j.asked.edition q (Ok made.job)) c.in_ok-by.ensures
    (subst (λ (e : ℕ). Asks m e (view_of_request c.in_ok-by.by) (Ok made.job)) c.edition.ensures.edition asks) in
    let read : ReadsProperty m.code.atoms text p = rw made.is-1 at c.in_ok-property.ensures in
    let own : ReadsProperty m.code.atoms c.as_slice.result.now f = rw made.is-2 at c.in_ok-first.ensures in
    let first = subst (λ (t : List ℕ). ReadsProperty m.code.atoms t f) c.as_slice.ensures own in
    by_another m j.asked.edition r text j made.job p f c.requires other read first

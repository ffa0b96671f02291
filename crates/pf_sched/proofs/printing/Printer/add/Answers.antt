use Rattle.std.proofs.Common.{◌≡◌, ◌++◌, ◌∷◌, [], List, map, refl, sym, ap, ◌∙◌, append_assoc}
use Rattle.pf_model.specs.Meaning.{Event}
use Rattle.pf_model.specs.Reports.{view_of_event}
use Rattle.pf_trace.specs.Written.{reported_so_far}
use Rattle.pf_sched.proofs.printing.Printer.add.Goals as goal

-- an event more after those that wait
one_waits_more : (gone waiting now reported : List Event) (e : Event) → now ≡ waiting ++ e ∷ []
    → gone ++ waiting ≡ reported
    → gone ++ now ≡ reported ++ e ∷ []
one_waits_more gone waiting now reported e more so_far =
    ap (λ (t : List Event). gone ++ t) more ∙ sym (append_assoc gone waiting (e ∷ []))
    ∙ ap (λ (t : List Event). t ++ e ∷ []) so_far

pub returns-clause-reported : goal.returns-clause-reported
returns-clause-reported c j es reported =
    let old = c.args.self.now in
    let e = view_of_event c.args.reported.now in
    let gone = map (λ s. view_of_event s.value) c.add.new.self.gone.items in
    let all =
    one_waits_more gone (reported_so_far old.pieces.lines)
    (reported_so_far c.add.new.self.lines) es e c.in_ok-add.ensures.event
    (ap (λ v. map (λ s. view_of_event s.value) v.items ++ reported_so_far old.pieces.lines)
    c.in_ok-add.ensures.gone ∙ reported.2) in
    (c.see.ensures e refl j es reported.0, reported.1, all, c.in_ok-add.ensures.line reported.3)

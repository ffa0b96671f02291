use Rattle.std.proofs.Common.{◌≡◌, ◌||◌, ◌++◌, ◌∷◌, [], sym, ap, ◌∙◌, subst}
use Rattle.pf_model.specs.Properties.{some_label}
use Rattle.pf_model.specs.Reports.{label_of}
use Rattle.pf_property.specs.Judging.{rules_out}
use Rattle.pf_property.specs.Views.{labels_in, property_of}
use Rattle.pf_property.proofs.Shown.{one_event_more}
use Rattle.pf_sched.specs.Evidence.{CountsProcesses}
use Rattle.pf_sched.proofs.Evidenced.{labels_more}
use Rattle.pf_sched.proofs.evidence.Evidence.see.Goals as goal

pub returns : goal.returns
returns c e shows j es reported =
    let p = property_of c.args.property.now in
    let l = label_of c.args.label.now in
    let same = reported.0.0 in
    let ruled_out : (c.args.self.now.ruled_out || rules_out p l) ≡ some_label (rules_out j.property)
    (labels_in (es ++ e ∷ [])) =
    ap (λ q. c.args.self.now.ruled_out || rules_out q l) same ∙ ap (λ b. b || rules_out j.property l) reported.0.1
    ∙ ap (λ k. some_label (rules_out j.property) (labels_in es) || rules_out j.property k) (sym shows)
    ∙ sym (one_event_more (rules_out j.property) es e) in
    let counts = subst (CountsProcesses c.see.new.self) (sym (labels_more es e l shows))
    (c.see.ensures (labels_in es) reported.1) in
    ((same, c.is_ruled_out-self.ensures ∙ ruled_out), counts)

use Rattle.std.proofs.Common.{refl, ap, ◌∙◌, subst}
use Rattle.pf_terms.specs.Term.{value_of}
use Rattle.pf_model.specs.Labels as label
use Rattle.pf_model.specs.declared.report.Suffix.TheVariants as suffix
use Rattle.pf_ties.specs.Ties as ties
use Rattle.pf_ties.specs.Fates.{fate_at}
use Rattle.pf_ties.specs.Laws.{without_link}
use Rattle.pf_system.specs.Placed.{PlacesOf}
use Rattle.pf_system.specs.declared.processes.Processes.{Processes}
use Rattle.pf_system.proofs.Placing.{is_there_but}
use Rattle.pf_system.proofs.Delivering.{unlinked_is_there, exit_dropped, exit_placed, exit_ends}
use Rattle.pf_system.proofs.processes.Processes.exit.Goals as goal

pub returns-in-Drop : goal.returns-in-Drop
returns-in-Drop c k h alive =
    let w : Processes = c.args.self.now in
    let w1 : Processes = record w { shared = record w.shared { ties = c.on_exit_signal.new.self } } in
    let r = value_of c.args.reason.now in
    exit_dropped w w1 w1 k c.args.from c.args.to c.args.by_link r suffix.Dropped h c.requires.there refl refl refl
    c.in-Drop.ensures.placed refl refl refl
    (c.in-Drop.ensures.fate ∙ ap (fate_at (ties.of w.shared.ties c.args.to) c.args.from c.args.to c.args.by_link)
    c.in_ok-given.ensures)

pub returns-in_ok-index-in-Message : goal.returns-in_ok-index-in-Message
returns-in_ok-index-in-Message c k h alive =
    let w : Processes = c.args.self.now in
    let w1 : Processes = record w { shared = record w.shared { ties = c.on_exit_signal.new.self } } in
    let w2 : Processes = c.index.new.self in
    let r = value_of c.args.reason.now in
    exit_placed w w1 w2 k c.args.from c.args.to c.args.by_link r suffix.AsMessage h c.requires.there refl refl refl
    c.in-Message.ensures.placed refl alive refl
    (c.in-Message.ensures.fate ∙ ap (fate_at (ties.of w.shared.ties c.args.to) c.args.from c.args.to c.args.by_link)
    c.in_ok-given.ensures)
    (subst (λ v. PlacesOf c.args.to v w1 w2) c.in_ok-message-in-Message.ensures c.in_ok-index-in-Message.ensures)

pub returns-in_ok-end-in-End : goal.returns-in_ok-end-in-End
returns-in_ok-end-in-End c k h alive =
    let w : Processes = c.args.self.now in
    let w1 : Processes = record w { shared = record w.shared { ties = c.on_exit_signal.new.self } } in
    let w2 : Processes = c.end.new.self in
    let r = value_of c.args.reason.now in
    let x = suffix.EndingWith c.in_ok-shown-in-End.shown in
    let d = without_link k c.args.from c.args.to c.args.by_link in
    let is_there =
    unlinked_is_there w w1 w2 k c.args.from c.args.to c.args.by_link r x h c.requires.there refl refl refl
    c.in-End.ensures.placed refl in
    exit_ends w w1 w2 k c.args.from c.args.to c.args.by_link r x h c.requires.there refl refl refl
    c.in-End.ensures.placed refl (value_of c.in-End.last) (ap label.ending_with c.in_ok-shown-in-End.ensures)
    (c.in-End.ensures.fate ∙ ap (fate_at (ties.of w.shared.ties c.args.to) c.args.from c.args.to c.args.by_link)
    c.in_ok-given.ensures)
    (c.in_ok-end-in-End.ensures d (is_there_but w1 d c.args.to is_there c.requires.there))

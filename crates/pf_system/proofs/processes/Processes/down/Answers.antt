use Rattle.std.proofs.Common.{refl, subst}
use Rattle.pf_terms.specs.Term.{value_of}
use Rattle.pf_model.specs.declared.report.Suffix.TheVariants as suffix
use Rattle.pf_system.specs.Placed.{PlacesOf}
use Rattle.pf_system.specs.declared.processes.Processes.{Processes}
use Rattle.pf_system.proofs.Delivering.{down_dropped, down_placed}
use Rattle.pf_system.proofs.processes.Processes.down.Goals as goal

pub returns-then-not-on_down : goal.returns-then-not-on_down
returns-then-not-on_down c k h alive =
    let w : Processes = c.args.self.now in
    let w1 : Processes = record w { shared = record w.shared { ties = c.on_down.new.self } } in
    down_dropped w w1 w1 k c.args.from c.args.to c.args.reference (value_of c.args.reason.now) suffix.Dropped
    h refl refl refl
    c.if-not-on_down.ensures.placed refl refl c.if-not-on_down.ensures.was

pub returns : goal.returns
returns c k h alive =
    let w : Processes = c.args.self.now in
    let w1 : Processes = record w { shared = record w.shared { ties = c.on_down.new.self } } in
    let w2 : Processes = c.index.new.self in
    down_placed w w1 w2 k c.args.from c.args.to c.args.reference (value_of c.args.reason.now) suffix.TookEffect
    h refl refl refl
    c.if-not-on_down.ensures.placed refl refl c.if-not-on_down.ensures.was c.requires.there alive
    (subst (λ v. PlacesOf c.args.to v w1 w2) c.in_ok-message.ensures c.in_ok-index.ensures)

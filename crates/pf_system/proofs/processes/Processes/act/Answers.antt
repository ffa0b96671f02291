use Rattle.std.proofs.Common.{refl}
use Rattle.std.specs.Vec.{with_item}
use Rattle.std.proofs.lemmas.Option.{slice_get_read}
use Rattle.pf_stepper.specs.Acts.{act_of}
use Rattle.pf_system.specs.Acts.{answer}
use Rattle.pf_system.specs.declared.processes.Processes.{Processes}
use Rattle.pf_system.proofs.Settling.{shows_act}
use Rattle.pf_system.proofs.Changed.{get_within}
use Rattle.pf_system.proofs.processes.Processes.act.Goals as goal

pub returns : goal.returns
returns c =
    let w = c.args.self.now in
    let w1 = c.do_act.new.self in
    let s = c.index_mut-slot.result.now in
    let h = c.in_ok-value.ensures in
    let r = answer c.in_ok-value.value c.do_act.new.shown in
    let k = h.keeps c.requires.asks.slot c.requires.asks.at in
    let l = get_within c.args.pid w1.slots.items k.0 k.1 in
    let w2 : Processes = record w1 { slots = with_item w1.slots c.args.pid c.answer.new.self } in
    shows_act c.args.pid (act_of c.args.act) w w1 w2 r s c.answer.new.self h.acts h.keeps
    (slice_get_read w1.slots.items _ c.args.pid s refl l c.index_mut-slot.ensures.value) c.answer.ensures
    refl refl refl refl

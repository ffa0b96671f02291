use Rattle.std.proofs.Common.{refl, sym, ap, ◌∙◌, if◌then◌else◌}
use Rattle.std.proofs.lemmas.Option.{slice_get_read}
use Rattle.pf_terms.specs.Term.{value_of}
use Rattle.pf_sorted.specs.Maps.{with_number}
use Rattle.pf_system.proofs.Placing.{placed}
use Rattle.pf_system.proofs.processes.Processes.index.Goals as goal

pub returns-in_ok-insert : goal.returns-in_ok-insert
returns-in_ok-insert c =
    let w = c.args.self.now in
    let s = c.index_mut-slot.result.now in
    placed w _ c.args.to (value_of c.args.message) s c.index.new.self c.in_ok-index.field-0
    (slice_get_read w.slots.items _ c.args.to s refl c.requires c.index_mut-slot.ensures.value)
    c.in_ok-index.ensures.placed c.in_ok-index.ensures.woken refl refl refl
    (c.in_ok-insert.ensures.inserted ∙ sym (ap (λ t. if t then with_number c.args.to w.ready else w.ready)
    c.if-branch.true))

pub returns-else-branch : goal.returns-else-branch
returns-else-branch c =
    let w = c.args.self.now in
    let s = c.index_mut-slot.result.now in
    placed w _ c.args.to (value_of c.args.message) s c.index.new.self c.in_ok-index.field-0
    (slice_get_read w.slots.items _ c.args.to s refl c.requires c.index_mut-slot.ensures.value)
    c.in_ok-index.ensures.placed c.in_ok-index.ensures.woken refl refl refl
    (sym (ap (λ t. if t then with_number c.args.to w.ready else w.ready) c.if-branch.false))

use Rattle.std.proofs.Common.{◌≡◌, List, [], refl, sym, ap, ◌∙◌, zero}
use Rattle.pf_terms.specs.Value.{none}
use Rattle.pf_terms.specs.Term.{values_of}
use Rattle.pf_terms.specs.declared.term.Term.{Term}
use Rattle.pf_syntax.specs.Module.{Checked}
use Rattle.pf_model.specs.Runs.{start}
use Rattle.pf_stepper.specs.MachineView.{MachineView, at_call}
use Rattle.pf_system.proofs.Systems.{begins_so}
use Rattle.pf_system.proofs.system.System.new_in.Goals as goal

at_root : (k : MachineView) (m m1 m2 : Checked) (root : _) (ts : List Term) → k ≡ at_call zero m1 root (values_of ts)
    → m1 ≡ m → m2 ≡ m → ts ≡ []
    → k ≡ at_call zero m2 root none
at_root k m m1 m2 root ts e p q t =
    e ∙ ap (λ z. at_call zero z root (values_of ts)) (p ∙ sym q) ∙ ap (λ z. at_call zero m2 root (values_of z)) t

pub invariant_of-result : goal.invariant_of-result
invariant_of-result c _ =
    let r = begins_so _ c.open.new.self c.in_ok-machine.machine c.args.root.0
    (record {
      slots = c.take_slots.ensures;
      ties = c.new-3.ensures;
      channels = c.new-4.ensures;
      ready =
          c.take_ready.ensures;
    })
    (at_root _ c.args.module.now.value _ _ c.args.root.0 _ c.in_ok-machine.ensures c.in_ok-shared.ensures
    c.in_ok-try_clone.ensures c.new.ensures.items)
    c.in_ok-open.ensures c.args.edition c.most_processes.ensures c.in_ok-try_clone-2.field-0.value
    (c.in_ok-try_clone.ensures ∙ sym c.in_ok-try_clone-2.ensures) in
    (start c.args.root.0 c.args.edition, r)

pub returns : goal.returns
returns c =
    let r = begins_so _ c.open.new.self c.in_ok-machine.machine c.args.root.0
    (record {
      slots = c.take_slots.ensures;
      ties = c.new-3.ensures;
      channels = c.new-4.ensures;
      ready =
          c.take_ready.ensures;
    })
    (at_root _ c.args.module.now.value _ _ c.args.root.0 _ c.in_ok-machine.ensures c.in_ok-shared.ensures
    c.in_ok-try_clone.ensures c.new.ensures.items)
    c.in_ok-open.ensures c.args.edition c.most_processes.ensures c.in_ok-try_clone-2.field-0.value
    (c.in_ok-try_clone.ensures ∙ sym c.in_ok-try_clone-2.ensures) in
    record { checked = c.in_ok-try_clone-2.ensures; steps = refl; is_there = r }

use Rattle.std.proofs.Common.{◌-◌, sym, subst, ap, ◌∙◌, refl, arith}
use Rattle.std.proofs.lemmas.Option.{same_Some}
use Rattle.indexmap.specs.IndexMap.{with_value_at}
use Rattle.pf_store.specs.declared.store.StoredModule.{StoredModule}
use Rattle.pf_store.specs.Held.{kept_in}
use Rattle.pf_store.specs.Sources.{HeldOnceLess, holders}
use Rattle.pf_store.proofs.Holding.{nobody_holds, known, written_kept, written_less, gone_kept, gone_less}
use Rattle.pf_store.proofs.store.Store.give_up.Goals.{in-Some-1, in-None-1}
use Rattle.pf_store.proofs.store.Store.give_up.Goals as goal

pub returns-in_default : goal.returns-in_default
returns-in_default c =
    let none = ap (λ k. holders k c.args.source.now) (sym c.self.view_is) ∙ nobody_holds c.self.inside.modules.entries
    c.args.source.now (sym c.in_default.ensures.found) in
    absurd (omega arith)

pub invariant_of-self : goal.invariant_of-self
invariant_of-self c =
    let h = c.index_mut.result.now in
    written_kept c.self.inside.modules c.args.source.now c.in-Some.index h
    (record { «module» = h.module; holders = c.index.result.now.holders - 1 }) c.self.invariant
    c.get_index_of.ensures.unique (sym c.in-Some.ensures.index) c.index_mut.ensures.value
    (sym c.in-Some.ensures.value ∙ c.index_mut.ensures.value) refl (omega arith)

pub invariant_of-self-else-holders-gt1 : goal.invariant_of-self-else-holders-gt1
invariant_of-self-else-holders-gt1 c =
    let h = c.index.result.now in
    gone_kept c.self.inside.modules c.args.source.now c.in-Some.index h h c.self.invariant
    c.get_index_of.ensures.unique (sym c.in-Some.ensures.index) c.index.ensures
    (sym c.in-Some.ensures.value ∙ c.index.ensures)
    c.swap_remove_index.new.self c.swap_remove_index.result c.swap_remove_index.ensures.entry
    c.swap_remove_index.ensures.updates c.swap_remove_index.ensures.unique

pub returns-then-holders-gt1 : goal.returns-then-holders-gt1
returns-then-holders-gt1 c =
    let h = c.index_mut.result.now in
    let same = ap (λ x. x.holders) (same_Some h c.index.result.now (sym c.index_mut.ensures.value ∙ c.index.ensures)) in
    let w : StoredModule = record { «module» = h.module; holders = c.index.result.now.holders - 1 } in
    subst (λ k. HeldOnceLess c.args.source.now k
    (kept_in (with_value_at c.self.inside.modules c.in-Some.index w).entries)) c.self.view_is
    (written_less c.self.inside.modules c.args.source.now c.in-Some.index h w c.self.invariant
    c.get_index_of.ensures.unique (sym c.in-Some.ensures.index) c.index_mut.ensures.value
    (sym c.in-Some.ensures.value ∙ c.index_mut.ensures.value) (omega arith))

pub returns-else-holders-gt1 : goal.returns-else-holders-gt1
returns-else-holders-gt1 c =
    let h = c.index.result.now in
    let one = (known c.self.inside.modules c.args.source.now c.in-Some.index h h c.self.invariant
    c.get_index_of.ensures.unique (sym c.in-Some.ensures.index) c.index.ensures
    (sym c.in-Some.ensures.value ∙ c.index.ensures)).1 in
    let less = subst (λ k. HeldOnceLess c.args.source.now k (kept_in c.swap_remove_index.new.self.entries))
    c.self.view_is
    (gone_less c.self.inside.modules c.args.source.now c.in-Some.index h h c.self.invariant
    c.get_index_of.ensures.unique (sym c.in-Some.ensures.index) c.index.ensures
    (sym c.in-Some.ensures.value ∙ c.index.ensures)
    c.swap_remove_index.new.self c.swap_remove_index.result c.swap_remove_index.ensures.entry
    c.swap_remove_index.ensures.updates (omega arith)) in
    elim c.match-swap_remove_index.branch [
      | in-Some-1 w ↦ subst (HeldOnceLess c.args.source.now c.args.self.now)
          (sym w.self-is) less
      | in-None-1 w ↦ subst (HeldOnceLess c.args.source.now c.args.self.now)
          (sym w.self-is) less
    ]

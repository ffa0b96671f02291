use Rattle.std.proofs.Common.{◌≡◌, sym, subst, ap, ◌∙◌, refl, arith}
use Rattle.std.proofs.lemmas.Option.{same_Some}
use Rattle.indexmap.specs.IndexMap.{with_value_at}
use Rattle.pf_check.specs.Reading.{IsReadAs}
use Rattle.pf_store.specs.declared.store.StoredModule.{StoredModule}
use Rattle.pf_store.specs.Held.{kept_in}
use Rattle.pf_store.specs.Sources.{HeldOnceMore, holders}
use Rattle.pf_store.proofs.Holding.{nobody_holds, written_kept, written_more, known}
use Rattle.pf_store.proofs.store.Store.hold_once_more.Goals as goal

pub returns-in_default-clause-held : goal.returns-in_default-clause-held
returns-in_default-clause-held c = (
  ap (λ k. holders k c.args.source.now) (sym c.self.view_is) ∙ nobody_holds c.self.inside.modules.entries
      c.args.source.now (sym c.in_default.ensures.found),
  refl,
)

pub invariant_of-self : goal.invariant_of-self
invariant_of-self c =
    let h = c.index_mut.result.now in
    written_kept c.self.inside.modules c.args.source.now c.in-Some.index h
    (record { «module» = h.module; holders = c.in-Some-checked_add.holders }) c.self.invariant
    c.get_index_of.ensures.unique (sym c.in-Some.ensures.index) c.index_mut.ensures.value
    (sym c.in-Some.ensures.value ∙ c.index_mut.ensures.value) refl (omega arith)

pub returns-clause-held : goal.returns-clause-held
returns-clause-held c =
    let m = c.self.inside.modules in
    let h = c.index_mut.result.now in
    let same = same_Some h c.index-held.result.now (sym c.index_mut.ensures.value ∙ c.index-held.ensures) in
    let counts : h.holders ≡ c.index-held.result.now.holders = ap (λ x. x.holders) same in
    let found = sym c.in-Some.ensures.value ∙ c.index_mut.ensures.value in
    let of = (known m c.args.source.now c.in-Some.index h h c.self.invariant c.get_index_of.ensures.unique
    (sym c.in-Some.ensures.index) c.index_mut.ensures.value found).0 in
    let same_module = c.in_ok-module.ensures ∙ ap (λ x. x.module) (sym same) in
    let w : StoredModule = record { «module» = h.module; holders = c.in-Some-checked_add.holders } in (
      ap (λ s. s.source) same_module ∙ of.0,
      subst (IsReadAs c.args.source.now) (sym same_module) of.1,
      subst (λ k. HeldOnceMore c.args.source.now k (kept_in (with_value_at m c.in-Some.index w).entries)) c.self.view_is
          (written_more m c.args.source.now c.in-Some.index h w c.self.invariant
          c.get_index_of.ensures.unique (sym c.in-Some.ensures.index) c.index_mut.ensures.value found (omega arith)),
    )

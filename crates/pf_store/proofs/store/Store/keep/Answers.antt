use Rattle.std.proofs.Common.{◌≡◌, ◌+◌, sym, subst, ap, ◌∙◌, Some, arith}
use Rattle.pf_check.specs.Reading.{IsReadAs}
use Rattle.pf_store.specs.Held.{kept_in}
use Rattle.pf_store.specs.Sources.{HeldOnceMore, holders}
use Rattle.pf_store.proofs.Holding.{kept_after, more_after}
use Rattle.pf_store.proofs.store.Store.keep.Goals as goal

pub invariant_of-self-2 : goal.invariant_of-self-2
invariant_of-self-2 c =
    let kept = c.in_ok-share.field-0 in
    let source = c.in_ok-share-2.ensures ∙ c.source.ensures in
    let held : (kept.source ≡ c.in_ok-share-2.field-0) × IsReadAs c.in_ok-share-2.field-0 kept = (
      ap (λ s. s.source) c.in_ok-share.ensures ∙ sym source,
      subst (λ s. IsReadAs s kept) (sym source)
          (subst (IsReadAs c.args.module.now.source) (sym c.in_ok-share.ensures) c.requires.read),
    ) in
    kept_after c.self.inside.modules.entries c.insert.new.self.entries c.in_ok-share-2.field-0
    (Some (record { «module» = kept; holders = 1 })) c.self.invariant
    c.insert.ensures.unique c.in_ok-insert.ensures.updates.0 (held, omega arith)

pub returns-clause-held : goal.returns-clause-held
returns-clause-held c =
    let m = c.self.inside.modules in
    let source = c.in_ok-share-2.ensures ∙ c.source.ensures in
    let new = ap (λ k. holders k c.in_ok-share-2.field-0) c.self.view_is ∙ ap (holders c.args.self.now) source
    ∙ c.requires.new in
    subst (λ s. HeldOnceMore s c.args.self.now (kept_in c.insert.new.self.entries)) source
    (subst (λ k. HeldOnceMore c.in_ok-share-2.field-0 k (kept_in c.insert.new.self.entries)) c.self.view_is
    (more_after m.entries c.insert.new.self.entries c.in_ok-share-2.field-0
    (Some (record { «module» = c.in_ok-share.field-0; holders = 1 })) c.in_ok-insert.ensures.updates.0
    (ap (λ n. n + 1) (sym new))))

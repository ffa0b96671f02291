use Rattle.std.proofs.Common.{◌≡◌, ap, sym, ◌∙◌}
use Rattle.std.specs.Cmp.Lexicographic.{bytes_decides}
use Rattle.std.specs.Arc.{arc_value}
use Rattle.pf_check.specs.Module.{ReadModule}
use Rattle.pf_check.proofs.One.{one_module}
use Rattle.pf_check.proofs.read_module.ReadModule.same.Goals as goal

pub returns : goal.returns
returns c =
    let a = c.self.inside in
    let b = c.other.inside in
    let decides = bytes_decides c.bytes.result.now c.bytes-2.result.now in (
      λ t.
          let sources : a.source ≡ b.source = sym c.bytes.ensures ∙ decides.0 (sym c.eq.ensures ∙ t)
          ∙ c.bytes-2.ensures in
          sym c.self.view_is ∙ one_module a.source b.source (arc_value a.«module») (arc_value b.«module»)
          c.self.invariant c.other.invariant sources ∙ c.other.view_is,
      λ e.
          let sources : a.source ≡ b.source =
          ap (λ (m : ReadModule). m.source) (c.self.view_is ∙ e ∙ sym c.other.view_is) in
          c.eq.ensures ∙ decides.1 (c.bytes.ensures ∙ sources ∙ sym c.bytes-2.ensures),
    )

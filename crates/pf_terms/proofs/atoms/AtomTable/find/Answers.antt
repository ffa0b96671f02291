use Rattle.std.proofs.Common.{◌≡◌, ◌+◌, false, ap, sym, ◌∙◌}
use Rattle.std.specs.Prelude.{slice_get}
use Rattle.std.specs.List.{list_any}
use Rattle.std.specs.Str.{bytes_eq}
use Rattle.pf_terms.specs.Atoms.{fixed_names}
use Rattle.pf_terms.proofs.Fronts.{get-front, get-after, any-after}
use Rattle.pf_terms.proofs.atoms.AtomTable.find.Goals as goal

pub returns-in-Some-clause-found : goal.returns-in-Some-clause-found
returns-in-Some-clause-found c =
    ap (λ names. slice_get names c.in-Some.atom.0) (sym c.self.view_is)
    ∙ get-front fixed_names c.self.inside.entered c.in-Some.atom.0 c.args.name.now c.in-Some.ensures.found

pub returns-in_err-index-clause-absent : goal.returns-in_err-index-clause-absent
returns-in_err-index-clause-absent c =
    let text = c.args.name.now in
    let all : list_any (bytes_eq text) c.args.self.now ≡ false =
    ap (list_any (bytes_eq text)) (sym c.self.view_is)
    ∙ any-after fixed_names c.self.inside.entered (bytes_eq text) c.in_default.ensures.absent
    ∙ c.in_err-index.ensures.absent in
    rw c.from_residual.ensures all

pub returns-clause-found : goal.returns-clause-found
returns-clause-found c =
    ap (λ names. slice_get names (20 + c.in_ok-index.index)) (sym c.self.view_is)
    ∙ get-after fixed_names c.self.inside.entered c.in_ok-index.index
    ∙ c.in_ok-index.ensures.found

use Rattle.std.proofs.Common.{ap, sym, ◌∙◌}
use Rattle.std.specs.Prelude.{slice_get}
use Rattle.std.proofs.lemmas.Option.{IfSome_then}
use Rattle.pf_terms.specs.Atoms.{fixed_names}
use Rattle.pf_terms.proofs.Fronts.{get-front}
use Rattle.pf_terms.proofs.atoms.AtomTable.find_fixed.Goals as goal

pub returns-clause-found : goal.returns-clause-found
returns-clause-found c =
    IfSome_then c.find_fixed.result c.find_fixed.ensures.found
    (λ a e. ap (λ names. slice_get names a.0) (sym c.self.view_is) ∙ get-front fixed_names c.self.inside.entered a.0
    c.args.name.now e)

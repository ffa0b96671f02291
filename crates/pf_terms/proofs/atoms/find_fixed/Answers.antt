use Rattle.std.proofs.Common.{sym, ◌∙◌}
use Rattle.pf_terms.specs.Atoms.{fixed_names}
use Rattle.pf_terms.proofs.Names.{named, absent}
use Rattle.pf_terms.proofs.atoms.find_fixed.Goals as goal

pub returns-in_err-index-clause-absent : goal.returns-in_err-index-clause-absent
returns-in_err-index-clause-absent c =
    let none = absent (λ n. n) c.args.name.now fixed_names (sym c.in_err-index.was ∙ c.index_of.ensures) in
    rw c.from_residual.ensures none

pub returns-clause-found : goal.returns-clause-found
returns-clause-found c = named (λ n. n) c.args.name.now fixed_names c.in_ok-index.index
    (sym c.in_ok-index.was ∙ c.index_of.ensures)

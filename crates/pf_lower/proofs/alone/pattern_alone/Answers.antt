use Rattle.std.proofs.Common.{refl, sym}
use Rattle.pf_syntax.specs.SyntaxTree.{expr_pattern_at}
use Rattle.pf_syntax.specs.Module.{pattern_at}
use Rattle.pf_syntax.specs.Scope.{no_scope}
use Rattle.pf_rules.specs.Static.{names_of_module}
use Rattle.pf_lower.specs.Alone.{only_atoms, BecomesAlone}
use Rattle.pf_lower.proofs.Patterns_alone.{no_faults, same_atoms}
use Rattle.pf_lower.proofs.Growing.{by_ok}
use Rattle.pf_lower.proofs.alone.pattern_alone.Goals as goal

pub returns : goal.returns
returns c =
    let q = expr_pattern_at c.args.syntax.now.node_table c.args.id.0 in
    let m = c.pattern.new.module in
    by_ok _ _ (λ p. BecomesAlone q (pattern_at m.tables p.0)) c.pattern.ensures
    (λ p h formed. same_atoms (names_of_module m.atoms c.args.syntax.now.functions) only_atoms (λ a. refl) no_scope q
    (pattern_at m.tables p.0)
    (h.answer.means no_scope (sym c.new-slots.ensures) formed (no_faults no_scope q refl)))

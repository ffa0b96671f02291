use Rattle.std.proofs.Common.{◌≡◌, ℕ, List, ◌++◌, [], sym, ap, ◌∙◌, subst}
use Rattle.std.specs.Prelude.{flat_map}
use Rattle.pf_syntax.specs.ExprModule.{tree_of}
use Rattle.pf_rules.specs.Static.{names_of_module, export_fault, defined_faults, unlike_faults, head_faults}
use Rattle.pf_rules.specs.Checks.{Pairwise, FunctionIs, IsModule}
use Rattle.pf_rules.specs.Formed.{AreFormed}
use Rattle.pf_lower.proofs.build.module_of.Goals as goal
use Rattle.pf_lower.proofs.Exists.{right_empty}

pub returns : goal.returns
returns c = λ clean formed.
    let fs = c.args.syntax.now.functions in
    let m = c.add_functions.new.module in
    let named : c.new-module.result.atoms ≡ c.args.atoms = ap (λ n. n.atoms) c.new-module.ensures in
    let means = subst (λ (a : List (List ℕ)). AreFormed fs
    → flat_map (flat_map (head_faults (names_of_module a fs))) fs ≡ []
    → Pairwise (FunctionIs (names_of_module a fs) c.args.syntax.now.exports) fs m.functions) named
    c.in_ok-add_functions.ensures.means in
    let built : IsModule c.args.atoms (tree_of c.args.syntax.now) m = record {
      name = c.in_ok-add_functions.ensures.name ∙ ap (λ n. n.name) c.new-module.ensures ∙ c.name.ensures;
      atoms_are = c.in_ok-add_functions.ensures.atoms ∙ named;
      functions = means formed (right_empty (flat_map (export_fault fs) c.args.syntax.now.exports
          ++ defined_faults c.args.atoms [] fs ++ flat_map unlike_faults fs) _ clean);
    } in
    subst (IsModule c.args.atoms (tree_of c.args.syntax.now)) (sym c.shrink_to_fit.ensures) built

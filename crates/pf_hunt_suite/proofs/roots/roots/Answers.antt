use Rattle.std.proofs.Common.{◌≡◌, ℕ, List, rules, sym, subst}
use Rattle.std.specs.Prelude.{map}
use Rattle.pf_tokens.specs.TokenKinds.{placed_of}
use Rattle.pf_tokens.specs.Rules.{HasTokens}
use Rattle.pf_syntax.specs.ExprModule.{tree_of}
use Rattle.pf_check.specs.Reads.{IsRefusalOf}
use Rattle.pf_check.proofs.Outcomes.{tokens_refused, tree_refused}
use Rattle.pf_terms.specs.Atoms.{name_of}
use Rattle.pf_syntax.specs.SyntaxTree.{Export}
use Rattle.pf_syntax.specs.SyntaxTreeOver.{export_of}
use Rattle.pf_tokens.specs.NumberedTokens.{atoms_of}
use Rattle.pf_hunt_suite.specs.Roots.{roots_of}
use Rattle.pf_hunt_suite.proofs.roots.roots.Goals as goal

named : (names atoms known : List (List ℕ)) (numbers shown : List ℕ) (entries exports : List Export)
    → names ≡ map (name_of atoms) shown → shown ≡ numbers
    → numbers ≡ roots_of entries → entries ≡ exports → atoms ≡ known → names ≡ map (name_of known) (roots_of exports)
named names atoms known numbers shown entries exports a b c d e = cc

pub returns-in_err-found-clause-fault : goal.returns-in_err-found-clause-fault
returns-in_err-found-clause-fault c =
    let reported : IsRefusalOf c.args.source.now c.in_err-found.field-0.0 =
    tokens_refused c.args.source.now c.in_err-found.field-0.0 c.in_err-found.ensures.fault in
    search rules

pub returns-in_err-syntax-clause-fault : goal.returns-in_err-syntax-clause-fault
returns-in_err-syntax-clause-fault c =
    let ts = map placed_of c.deref.result.now in
    let has : HasTokens c.args.source.now ts = subst (λ xs. HasTokens c.args.source.now (map placed_of xs))
    (sym c.deref.ensures.value) c.in_ok-found.ensures.found in
    let reported : IsRefusalOf c.args.source.now c.in_err-syntax.field-0.0 =
    tree_refused c.args.source.now ts has c.in_err-syntax.field-0.0 c.in_err-syntax.ensures.fault in
    search rules

pub returns-clause-roots : goal.returns-clause-roots
returns-clause-roots c =
    let r = c.in_ok-syntax.field-0 in
    let reported = c.in_ok-syntax.ensures in
    let ts = map placed_of c.deref.result.now in
    let has : HasTokens c.args.source.now ts = subst (λ xs. HasTokens c.args.source.now (map placed_of xs))
    (sym c.deref.ensures.value) c.in_ok-found.ensures.found in
    record {
      tokens = ts;
      tree = tree_of r.syntax;
      cut = has;
      derived = reported.found;
      names_are =
          named (map (λ name. name.items) c.in_ok-names_of.field-0.items) r.atoms (atoms_of ts)
          c.in_ok-numbers.numbers.items c.deref-2.result.now
          (map export_of c.exports.result.now) r.syntax.exports c.in_ok-names_of.ensures c.deref-2.ensures.value
          c.in_ok-numbers.ensures c.exports.ensures reported.atoms;
    }

use Rattle.std.proofs.Common.{◌≡◌, IfOk, List, ℕ, map, refl, true, subst}
use Rattle.std.proofs.lemmas.Result.{IfOk-weaker}
use Rattle.clap.specs.Words.{App, FailsBy, HasMatchesOf, fault_of, is_simple_and_free, subcommand_of}
use Rattle.clap.specs.Words.{subcommand_rows_of}
use Rattle.pf_cli.specs.Commands.{pulsefarm}
use Rattle.pf_cli.proofs.parse.matches.Goals as goal

pub returns-clause-ok : goal.returns-clause-ok
returns-clause-ok c =
    let words : List (List ℕ) = map (λ w. w.now) c.args.words.now in
    let whole = subst (λ (a : App). IfOk c.try_get_matches_from.result (HasMatchesOf a words)) c.in_ok-command.ensures
    c.try_get_matches_from.ensures.matches in
    IfOk-weaker c.try_get_matches_from.result (HasMatchesOf pulsefarm words)
    (λ m. subcommand_rows_of m ≡ subcommand_of pulsefarm words) (λ m h. (h refl).1) whole

pub returns-clause-kinds : goal.returns-clause-kinds
returns-clause-kinds c =
    let words : List (List ℕ) = map (λ w. w.now) c.args.words.now in
    let simple : is_simple_and_free pulsefarm ≡ true = refl in
    subst (λ (a : App). is_simple_and_free a ≡ true → FailsBy (fault_of a words) c.try_get_matches_from.result)
    c.in_ok-command.ensures c.try_get_matches_from.ensures.kinds simple

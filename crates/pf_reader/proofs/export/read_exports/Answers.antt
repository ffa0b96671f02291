use Rattle.std.proofs.Common.{◌≡◌, suc, ◌+◌, ◌-◌, ◌++◌, length, Some, None, sym, ap, ◌∙◌, arith, rules}
use Rattle.std.specs.Prelude.{map}
use Rattle.std.proofs.lemmas.Result.{err_from_is_err_and}
use Rattle.std.proofs.lemmas.List.{length-map}
use Rattle.pf_syntax.specs.SyntaxTreeOver.{export_of}
use Rattle.pf_tokens.specs.declared.marks.TokenMark.TheVariants.{Minus}
use Rattle.pf_tokens.specs.NumberedTokens.{mark}
use Rattle.pf_grammar.specs.Parse.{after_kind, exports}
use Rattle.pf_tokens.specs.View.{numbered_token_of}
use Rattle.pf_reader.specs.View.{names_of, tokens_in}
use Rattle.pf_reader.specs.Given.{with_front}
use Rattle.pf_reader.proofs.Items.{fails_as}
use Rattle.pf_reader.proofs.Turns.{exports_stop, exports_out, exports_fail, exports_go}
use Rattle.pf_reader.proofs.export.read_exports.Goals as goal

pub returns-in_default-clause-given : goal.returns-in_default-clause-given
returns-in_default-clause-given c =
    let none : after_kind (mark Minus) (tokens_in c.loop.rest) ≡ None = search rules in
    exports_stop (names_of c.args.context) _ _ _ _ c.loop.invariant.given none

pub returns-in_err-entries-clause-given : goal.returns-in_err-entries-clause-given
returns-in_err-entries-clause-given c =
    let p = err_from_is_err_and c.from_residual.result c.from_residual.ensures.1 in
    let n = length (tokens_in c.args.tokens) in
    let turn : n - c.loop.counter ≡ suc (n - (c.loop.counter + 1)) =
    omega (arith, length-map c.args.tokens.list.now numbered_token_of) in
    let form : after_kind (mark Minus) (tokens_in c.loop.rest) ≡ Some (tokens_in c.in-Some.form) = search rules in
    rw (p.1, p.2) (fails_as _ _ _ (exports_fail (names_of c.args.context) _ _ _ _ c.loop.invariant.given _ _ turn form)
    c.in_err-entries.ensures)

pub loop-preserved : goal.loop-preserved
loop-preserved c =
    let n = length (tokens_in c.args.tokens) in
    let turn : n - c.loop.counter ≡ suc (n - (c.loop.counter + 1)) =
    omega (arith, length-map c.args.tokens.list.now numbered_token_of) in
    let form : after_kind (mark Minus) (tokens_in c.loop.rest) ≡ Some (tokens_in c.in-Some.form) = search rules in
    let whole = exports_go (names_of c.args.context) _ _ _ _ c.loop.invariant.given _ _ _ _ turn form
    c.in_ok-entries.ensures in
    let added : c.add_exports.new.syntax.exports ≡ c.loop.syntax.exports
    ++ map export_of c.in_ok-entries.entries.items =
    c.in_ok-add_exports.ensures.added ∙ ap (λ es. c.loop.syntax.exports ++ map export_of es) c.deref.ensures.value in
    record {
      given = whole ∙ ap (λ es. with_front es
          (exports (names_of c.args.context) (n - (c.loop.counter + 1)) (tokens_in c.in_ok-entries.after))) (sym added);
      name = c.in_ok-add_exports.ensures.name ∙ c.loop.invariant.name;
      functions = c.in_ok-add_exports.ensures.functions ∙ c.loop.invariant.functions;
    }

pub returns-clause-given : goal.returns-clause-given
returns-clause-given c =
    let n = length (tokens_in c.args.tokens) in
    let out : n - c.loop.counter ≡ 0 = omega (arith, length-map c.args.tokens.list.now numbered_token_of) in
    exports_out (names_of c.args.context) _ _ _ _ c.loop.invariant.given out

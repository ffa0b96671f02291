use Rattle.std.proofs.Common.{◌≡◌, suc, ◌+◌, ◌-◌, ◌<◌, [], ◌∷◌, ◌++◌, length, sym, ap, ◌∙◌, arith, rules}
use Rattle.std.proofs.lemmas.Result.{err_from_is_err_and}
use Rattle.std.proofs.lemmas.List.{length-map}
use Rattle.pf_syntax.specs.SyntaxTreeOver.{heads_over}
use Rattle.pf_grammar.specs.Parse.{functions}
use Rattle.pf_tokens.specs.View.{numbered_token_of}
use Rattle.pf_reader.specs.View.{names_of, tokens_in}
use Rattle.pf_reader.specs.Given.{with_first}
use Rattle.pf_reader.proofs.Items.{fails_as}
use Rattle.pf_reader.proofs.Turns.{functions_stop, functions_out, functions_fail, functions_go}
use Rattle.pf_reader.proofs.function.read_functions.Goals as goal

pub returns-then-is_empty-clause-given : goal.returns-then-is_empty-clause-given
returns-then-is_empty-clause-given c =
    let none : length c.loop.rest.list.now ≡ 0 = search rules in
    functions_stop (names_of c.args.context) _ _ _ _ c.loop.invariant.given
    (omega (arith, length-map c.loop.rest.list.now numbered_token_of))

pub returns-in_err-function-clause-given : goal.returns-in_err-function-clause-given
returns-in_err-function-clause-given c =
    let p = err_from_is_err_and c.from_residual.result c.from_residual.ensures.1 in
    let n = length (tokens_in c.args.tokens) in
    let turn : n - c.loop.counter ≡ suc (n - (c.loop.counter + 1)) =
    omega (arith, length-map c.args.tokens.list.now numbered_token_of) in
    let some : 0 < length c.loop.rest.list.now = search rules in
    rw (p.1, p.2) (fails_as _ _ _ (functions_fail (names_of c.args.context) _ _ _ _ c.loop.invariant.given _ turn
    (omega (arith, length-map c.loop.rest.list.now numbered_token_of))) c.in_err-function.ensures.given)

pub loop-preserved : goal.loop-preserved
loop-preserved c =
    let n = length (tokens_in c.args.tokens) in
    let f = c.in_ok-function.function in
    let b = c.read_function.new.syntax.node_table in
    let turn : n - c.loop.counter ≡ suc (n - (c.loop.counter + 1)) =
    omega (arith, length-map c.args.tokens.list.now numbered_token_of) in
    let some : 0 < length c.loop.rest.list.now = search rules in
    let whole = functions_go (names_of c.args.context) _ _ _ _ c.loop.invariant.given _ _ _ turn
    (omega (arith, length-map c.loop.rest.list.now numbered_token_of)) c.in_ok-function.ensures.given in
    let added : c.add_function.new.self.functions ≡ c.loop.syntax.functions ++ heads_over b f ∷ [] =
    ap (λ m. m.functions) c.in_ok-add_function.ensures.added ∙ ap (λ fs. fs ++ heads_over b f ∷ [])
    c.in_ok-function.ensures.grown.functions in
    record {
      given = whole ∙ ap (λ fs. with_first fs (functions (names_of c.args.context) (n - (c.loop.counter + 1))
          (tokens_in c.in_ok-function.after))) (sym added);
      name = ap (λ m. m.name) c.in_ok-add_function.ensures.added ∙ c.in_ok-function.ensures.grown.name
          ∙ c.loop.invariant.name;
      exports = ap (λ m. m.exports) c.in_ok-add_function.ensures.added ∙ c.in_ok-function.ensures.grown.exports
          ∙ c.loop.invariant.exports;
    }

pub returns-then-is_empty-2-clause-given : goal.returns-then-is_empty-2-clause-given
returns-then-is_empty-2-clause-given c =
    let none : length c.loop.rest.list.now ≡ 0 = search rules in
    functions_stop (names_of c.args.context) _ _ _ _ c.loop.invariant.given
    (omega (arith, length-map c.loop.rest.list.now numbered_token_of))

pub returns-else-is_empty-2-clause-given : goal.returns-else-is_empty-2-clause-given
returns-else-is_empty-2-clause-given c =
    let some : 0 < length c.loop.rest.list.now = search rules in
    let n = length (tokens_in c.args.tokens) in
    let out : n - c.loop.counter ≡ 0 = omega (arith, length-map c.args.tokens.list.now numbered_token_of) in
    functions_out (names_of c.args.context) _ _ _ _ c.loop.invariant.given out
    (omega (arith, length-map c.loop.rest.list.now numbered_token_of))

use Rattle.std.proofs.Common.{◌≡◌, suc, ◌+◌, ◌-◌, [], ◌∷◌, ◌++◌, length, Some, None, refl, arith, rules}
use Rattle.std.proofs.lemmas.Result.{err_from_is_err_and}
use Rattle.std.proofs.lemmas.List.{length-map}
use Rattle.pf_syntax.specs.SyntaxTreeOver.{export_of}
use Rattle.pf_tokens.specs.declared.marks.TokenMark.TheVariants.{Comma}
use Rattle.pf_tokens.specs.NumberedTokens.{mark}
use Rattle.pf_grammar.specs.Parse.{after_kind, entry}
use Rattle.pf_tokens.specs.View.{numbered_token_of}
use Rattle.pf_reader.specs.View.{names_of, tokens_in}
use Rattle.pf_reader.proofs.Items.{fails_as, loop_ends, loop_goes, loop_fails, loop_out}
use Rattle.pf_reader.proofs.export.read_entries.Goals as goal

pub returns-in_err-entry : goal.returns-in_err-entry
returns-in_err-entry c =
    let p = err_from_is_err_and c.from_residual.result c.from_residual.ensures.1 in
    let n = length (tokens_in c.args.tokens) in
    let turn : n - c.loop.counter ≡ suc (n - (c.loop.counter + 1)) =
    omega (arith, length-map c.args.tokens.list.now numbered_token_of) in
    rw (p.1, p.2) (fails_as _ _ _ (λ f. loop_fails (mark Comma) _ _ _ _ _ _ turn c.loop.invariant f)
    c.in_err-entry.ensures)

pub returns-in_default : goal.returns-in_default
returns-in_default c =
    let n = length (tokens_in c.args.tokens) in
    let turn : n - c.loop.counter ≡ suc (n - (c.loop.counter + 1)) =
    omega (arith, length-map c.args.tokens.list.now numbered_token_of) in
    let none : after_kind (mark Comma) (tokens_in c.in_ok-entry.after_it) ≡ None = search rules in
    let pushed : c.push.new.self.items ≡ c.loop.found.items ++ c.in_ok-entry.entry ∷ [] = search rules in
    loop_ends (mark Comma) (entry (names_of c.args.context)) export_of export_of c.loop.found.items
    c.push.new.self.items c.in_ok-entry.entry _ _ _ _ _ refl pushed turn c.loop.invariant c.in_ok-entry.ensures none

pub loop-preserved : goal.loop-preserved
loop-preserved c =
    let n = length (tokens_in c.args.tokens) in
    let turn : n - c.loop.counter ≡ suc (n - (c.loop.counter + 1)) =
    omega (arith, length-map c.args.tokens.list.now numbered_token_of) in
    let next : after_kind (mark Comma) (tokens_in c.in_ok-entry.after_it) ≡ Some (tokens_in c.in-Some.after) =
    search rules in
    let pushed : c.push.new.self.items ≡ c.loop.found.items ++ c.in_ok-entry.entry ∷ [] = search rules in
    loop_goes (mark Comma) (entry (names_of c.args.context)) export_of export_of c.loop.found.items
    c.push.new.self.items c.in_ok-entry.entry _ _ _ _ _ _ refl pushed turn c.loop.invariant
    c.in_ok-entry.ensures next

pub returns : goal.returns
returns c =
    let n = length (tokens_in c.args.tokens) in
    let out : n - c.loop.counter ≡ 0 = omega (arith, length-map c.args.tokens.list.now numbered_token_of) in
    loop_out (mark Comma) _ _ _ _ _ out c.loop.invariant

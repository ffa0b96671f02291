use Rattle.std.proofs.Common.{◌≡◌, suc, ◌+◌, ◌-◌, [], ◌∷◌, ◌++◌, length, Some, None, arith, rules}
use Rattle.std.proofs.lemmas.Result.{err_from_is_err_and}
use Rattle.std.proofs.lemmas.List.{length-map}
use Rattle.pf_syntax.specs.SyntaxTreeOver.{head_over, HeadRepresents}
use Rattle.pf_tokens.specs.declared.marks.TokenMark.TheVariants.{Semicolon}
use Rattle.pf_tokens.specs.NumberedTokens.{mark}
use Rattle.pf_tokens.specs.View.{numbered_token_of}
use Rattle.pf_grammar.specs.Parse.{after_kind, head_parse}
use Rattle.pf_reader.specs.View.{names_of, tokens_in}
use Rattle.pf_reader.proofs.Growth.{again}
use Rattle.pf_reader.proofs.Items.{fails_as, loop_ends, loop_goes, loop_fails, loop_out}
use Rattle.pf_reader.proofs.Kept.{all_heads_are_there, heads_alike, pushed_is_there}
use Rattle.pf_reader.proofs.function.read_heads.Goals as goal

pub returns-in_err-head-clause-given : goal.returns-in_err-head-clause-given
returns-in_err-head-clause-given c =
    let p = err_from_is_err_and c.from_residual.result c.from_residual.ensures.1 in
    let n = length (tokens_in c.args.tokens) in
    let turn : n - c.loop.counter ≡ suc (n - (c.loop.counter + 1)) =
    omega (arith, length-map c.args.tokens.list.now numbered_token_of) in
    rw (p.1, p.2) (fails_as _ _ _ (λ f. loop_fails (mark Semicolon) _ _ _ _ _ _ turn c.loop.invariant.given f)
    c.in_err-head.ensures.given)

pub returns-in_default-clause-given : goal.returns-in_default-clause-given
returns-in_default-clause-given c =
    let n = length (tokens_in c.args.tokens) in
    let b = c.loop.syntax.node_table in
    let d = c.read_head.new.syntax.node_table in
    let on = c.in_ok-head.ensures.grown.node_table in
    let turn : n - c.loop.counter ≡ suc (n - (c.loop.counter + 1)) =
    omega (arith, length-map c.args.tokens.list.now numbered_token_of) in
    let none : after_kind (mark Semicolon) (tokens_in c.in_ok-head.after_it) ≡ None = search rules in
    let pushed : c.push.new.self.items ≡ c.loop.found.items ++ c.in_ok-head.head ∷ [] = search rules in
    let same = heads_alike b d on c.loop.found.items c.loop.invariant.is_there in
    loop_ends (mark Semicolon) (head_parse (names_of c.args.context)) (head_over d) (head_over b) c.loop.found.items
    c.push.new.self.items c.in_ok-head.head _ _ _ _ _ same pushed turn c.loop.invariant.given
    c.in_ok-head.ensures.given none

pub returns-in_default-clause-is_there : goal.returns-in_default-clause-is_there
returns-in_default-clause-is_there c =
    let b = c.loop.syntax.node_table in
    let d = c.read_head.new.syntax.node_table in
    let on = c.in_ok-head.ensures.grown.node_table in
    let pushed : c.push.new.self.items ≡ c.loop.found.items ++ c.in_ok-head.head ∷ [] = search rules in
    let kept = all_heads_are_there b d on c.loop.found.items c.loop.invariant.is_there in
    pushed_is_there (HeadRepresents d) c.loop.found.items c.push.new.self.items c.in_ok-head.head pushed kept
    c.in_ok-head.ensures.is_there

pub loop-preserved : goal.loop-preserved
loop-preserved c =
    let n = length (tokens_in c.args.tokens) in
    let b = c.loop.syntax.node_table in
    let d = c.read_head.new.syntax.node_table in
    let on = c.in_ok-head.ensures.grown.node_table in
    let turn : n - c.loop.counter ≡ suc (n - (c.loop.counter + 1)) =
    omega (arith, length-map c.args.tokens.list.now numbered_token_of) in
    let next : after_kind (mark Semicolon) (tokens_in c.in_ok-head.after_it) ≡ Some (tokens_in c.in-Some.after) =
    search rules in
    let pushed : c.push.new.self.items ≡ c.loop.found.items ++ c.in_ok-head.head ∷ [] = search rules in
    let same = heads_alike b d on c.loop.found.items c.loop.invariant.is_there in
    let kept = all_heads_are_there b d on c.loop.found.items c.loop.invariant.is_there in
    record {
      grown = again _ _ _ c.loop.invariant.grown c.in_ok-head.ensures.grown;
      is_there = pushed_is_there
          (HeadRepresents d) c.loop.found.items c.push.new.self.items c.in_ok-head.head pushed kept
          c.in_ok-head.ensures.is_there;
      given = loop_goes (mark Semicolon) (head_parse (names_of c.args.context)) (head_over d) (head_over b)
          c.loop.found.items c.push.new.self.items c.in_ok-head.head _ _ _ _ _ _ same pushed turn c.loop.invariant.given
          c.in_ok-head.ensures.given next;
    }

pub returns-clause-given : goal.returns-clause-given
returns-clause-given c =
    let n = length (tokens_in c.args.tokens) in
    let out : n - c.loop.counter ≡ 0 = omega (arith, length-map c.args.tokens.list.now numbered_token_of) in
    loop_out (mark Semicolon) _ _ _ _ _ out c.loop.invariant.given

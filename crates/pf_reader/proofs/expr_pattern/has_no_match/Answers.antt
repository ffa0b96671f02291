use Rattle.std.proofs.Common.{◌≡◌, [], ◌∷◌, rules}
use Rattle.pf_tokens.specs.declared.marks.TokenMark.TheVariants.{Match}
use Rattle.pf_tokens.specs.NumberedTokens.{mark}
use Rattle.pf_tokens.specs.View.{numbered_token_of}
use Rattle.pf_grammar.specs.Parse.{after_kind}
use Rattle.pf_reader.specs.View.{tokens_in}
use Rattle.pf_reader.proofs.Patterns.{is_none_is, no_match, no_match_in_none, not_mark}
use Rattle.pf_reader.proofs.expr_pattern.has_no_match.Goals as goal

pub returns-in-None : goal.returns-in-None
returns-in-None c = λ h n limit.
    let e : tokens_in c.args.tokens ≡ [] = search rules in
    rw e (no_match_in_none n limit)

pub returns-in_default : goal.returns-in_default
returns-in_default c = λ h n limit.
    let first : tokens_in c.args.tokens ≡ numbered_token_of c.in-Some.first ∷ tokens_in c.in-Some.rest = search rules in
    let none = is_none_is tokens_in c.skip.result (after_kind (mark Match) (tokens_in c.in-Some.rest)) c.is_none.result
    c.skip.ensures c.is_none.ensures h in
    rw first (no_match (tokens_in c.in-Some.rest) none n limit (numbered_token_of c.in-Some.first)
    (not_mark c.in-Some.first.kind c.in_default.not-Mark))

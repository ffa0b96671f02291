use Rattle.std.proofs.Common.{◌≡◌, ◌∙◌, ℕ, List, ◌∷◌, ◌++◌, Option, Some, None, ap, sym, subst, length, map, arith}
use Rattle.pf_tokens.specs.Rules.{IsOrdered}
use Rattle.pf_tokens.specs.TokenKinds.{kind_of, placed_of}
use Rattle.pf_tokens.specs.declared.token.Token.{Token}
use Rattle.pf_positions.specs.declared.sign.Sign.{Sign}
use Rattle.pf_positions.specs.declared.written.WrittenSign.{WrittenSign}
use Rattle.pf_positions.specs.Written.{line_at, signs_of, token_sign, sign_at}
use Rattle.pf_positions.proofs.Adding.{go_on}
use Rattle.pf_positions.proofs.Lines.{ends_after, sooner}
use Rattle.pf_positions.proofs.written.signs_of.Goals as goal

-- what is in order is so by its first token
in_order : (offset end : ℕ) (rest others : List Token) (first : Token) → rest ≡ first ∷ others
    → IsOrdered offset (map placed_of rest) end
    → IsOrdered offset (placed_of first ∷ map placed_of others) end
in_order offset end rest others first is h = subst (λ (ts : List Token). IsOrdered offset (map placed_of ts) end) is h

-- the signs are those at the first token, and those after it
first_signs : (source : List ℕ) (rest others : List Token) (first : Token) (line : ℕ) (o : Option Sign)
    → rest ≡ first ∷ others → line ≡ line_at source first.start
    → o ≡ token_sign (kind_of first.kind) (map placed_of others)
    → signs_of source (map placed_of rest) ≡ sign_at line o ++ signs_of source (map placed_of others)
first_signs source rest others first line o is line_is sign_is =
    let following = signs_of source (map placed_of others) in
    ap (λ (ts : List Token). signs_of source (map placed_of ts)) is
    ∙ ap (λ (n : ℕ). sign_at n (token_sign (kind_of first.kind) (map placed_of others)) ++ following) (sym line_is)
    ∙ ap (λ (s : Option Sign). sign_at line s ++ following) (sym sign_is)

pub line_on-line-requires-clause-within : goal.line_on-line-requires-clause-within
line_on-line-requires-clause-within c =
    let end = length c.args.source.now in
    let others = c.in-Some.others.now in
    let order = in_order c.loop-first.offset end c.loop-first.rest.now others c.in-Some.first.now
    c.in-Some.ensures.cases.0 c.loop-first.invariant.are_ordered in
    let following = ends_after (map placed_of others) c.in-Some.first.now.end end order.2 in
    omega (arith, order.1)

pub loop-first-preserved-in_ok-push : goal.loop-first-preserved-in_ok-push
loop-first-preserved-in_ok-push c =
    let source = c.args.source.now in
    let first = c.in-Some.first.now in
    let others = c.in-Some.others.now in
    let line = c.line_on-line.result in
    let sign = c.in-Some-token_sign.sign in
    let order = in_order c.loop-first.offset (length source) c.loop-first.rest.now others first
    c.in-Some.ensures.cases.0 c.loop-first.invariant.are_ordered in
    record {
      found_are = go_on c.loop-first.found.items c.push.new.self.items (sign_at line (Some sign))
          (signs_of source (map placed_of c.loop-first.rest.now))
          (signs_of source (map placed_of others)) (signs_of source (map placed_of c.args.tokens.now))
          c.in_ok-push.ensures.items
          (first_signs source c.loop-first.rest.now others first line (Some sign) c.in-Some.ensures.cases.0
          c.line_on-line.ensures c.in-Some-token_sign.ensures)
          c.loop-first.invariant.found_are;
      line_is = c.line_on-line.ensures;
      are_ordered = sooner (map placed_of others) first.start first.end (length source)
          (omega (arith, order.1)) order.2;
    }

pub loop-first-preserved : goal.loop-first-preserved
loop-first-preserved c =
    let source = c.args.source.now in
    let first = c.in-Some.first.now in
    let others = c.in-Some.others.now in
    let line = c.line_on-line.result in
    let order = in_order c.loop-first.offset (length source) c.loop-first.rest.now others first
    c.in-Some.ensures.cases.0 c.loop-first.invariant.are_ordered in
    let left = first_signs source c.loop-first.rest.now others first line None c.in-Some.ensures.cases.0
    c.line_on-line.ensures c.in_default-token_sign.ensures in
    record {
      found_are = ap (λ (ws : List WrittenSign). c.loop-first.found.items ++ ws) (sym left)
          ∙ c.loop-first.invariant.found_are;
      line_is = c.line_on-line.ensures;
      are_ordered = sooner (map placed_of others) first.start first.end (length source)
          (omega (arith, order.1)) order.2;
    }

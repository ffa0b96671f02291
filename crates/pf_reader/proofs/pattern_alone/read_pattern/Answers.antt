use Rattle.std.proofs.Common.{◌≡◌, None, refl, rules}
use Rattle.std.specs.Prelude.{map}
use Rattle.pf_tokens.specs.TokenKinds.{placed_of}
use Rattle.pf_tokens.specs.NumberedTokens.{numbered_after}
use Rattle.pf_tokens.specs.View.{token_list}
use Rattle.pf_reader.specs.PatternAlone.{pattern_of, LacksModule}
use Rattle.pf_reader.proofs.Alone.{alone_complete, alone_sound, read_as, read_by}
use Rattle.pf_reader.proofs.pattern_alone.read_pattern.Goals as goal

pub returns-in-Ok-clause-found : goal.returns-in-Ok-clause-found
returns-in-Ok-clause-found c =
    let ts = map placed_of c.args.tokens.now in
    let names = c.args.atoms.now in
    let tokens : token_list c.deref.result.now ≡ numbered_after names ts = search rules in
    let read = read_as _ _ _ _ _ c.in_ok-names.ensures.atoms tokens c.in-Ok.ensures.given in
    let lacks : LacksModule ts = search rules in
    alone_sound names ts (pattern_of c.in-Ok.read) lacks read

pub returns-in-Ok-clause-only : goal.returns-in-Ok-clause-only
returns-in-Ok-clause-only c = λ q d.
    let ts = map placed_of c.args.tokens.now in
    let names = c.args.atoms.now in
    let tokens : token_list c.deref.result.now ≡ numbered_after names ts = search rules in
    let read = read_as _ _ _ _ _ c.in_ok-names.ensures.atoms tokens c.in-Ok.ensures.given in
    let whole = alone_complete names ts q d in
    cc

pub returns-clause-only : goal.returns-clause-only
returns-clause-only c = λ q d.
    let ts = map placed_of c.args.tokens.now in
    let names = c.args.atoms.now in
    let tokens : token_list c.deref.result.now ≡ numbered_after names ts = search rules in
    let given : read_by c.in_ok-names.names (token_list c.deref.result.now) ≡ None =
    rw c.in-Err-Fault.field-0-is at c.in-Err-Fault.ensures.given in
    let read = read_as _ _ _ _ _ c.in_ok-names.ensures.atoms tokens given in
    let whole = alone_complete names ts q d in
    absurd (cc)

pub returns-clause-fault : goal.returns-clause-fault
returns-clause-fault c = (
  refl,
  λ q d.
      let ts = map placed_of c.args.tokens.now in
      let names = c.args.atoms.now in
      let tokens : token_list c.deref.result.now ≡ numbered_after names ts = search rules in
      let given : read_by c.in_ok-names.names (token_list c.deref.result.now) ≡ None =
      rw c.in-Err-Fault.field-0-is at c.in-Err-Fault.ensures.given in
      let read = read_as _ _ _ _ _ c.in_ok-names.ensures.atoms tokens given in
      let whole = alone_complete names ts q d in
      absurd (cc),
)

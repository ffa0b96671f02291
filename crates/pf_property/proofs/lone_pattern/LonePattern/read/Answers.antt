use Rattle.std.proofs.Common.{rules, sym, subst}
use Rattle.std.specs.Prelude.{map}
use Rattle.pf_tokens.specs.TokenKinds.{placed_of}
use Rattle.pf_tokens.specs.Rules.{HasTokens}
use Rattle.pf_reader.specs.PatternAlone.{pattern_of}
use Rattle.pf_property.specs.Texts.{IsNoPatternText}
use Rattle.pf_property.proofs.Patterns_read.{with_pattern, without_pattern}
use Rattle.pf_property.proofs.lone_pattern.LonePattern.read.Goals as goal

pub returns-in_err-read-clause-fault : goal.returns-in_err-read-clause-fault
returns-in_err-read-clause-fault c =
    let text = c.args.text.now in
    let ts = map placed_of c.deref.result.now in
    let has : HasTokens text ts = subst (λ xs. HasTokens text (map placed_of xs)) (sym c.deref.ensures.value)
    c.in_ok-found.ensures.found in
    let reported : IsNoPatternText c.args.atoms.now text c.in_err-read.field-0.0 =
    without_pattern c.args.atoms.now text ts has c.in_err-read.field-0.0 c.in_err-read.ensures.fault in
    search rules

pub returns-clause-read : goal.returns-clause-read
returns-clause-read c =
    let text = c.args.text.now in
    let ts = map placed_of c.deref.result.now in
    let has : HasTokens text ts = subst (λ xs. HasTokens text (map placed_of xs)) (sym c.deref.ensures.value)
    c.in_ok-found.ensures.found in
    with_pattern c.args.atoms.now text ts has (pattern_of c.in_ok-read.read) c.in_ok-read.ensures.found
    c.in_ok-lowered.field-0 c.in_ok-lowered.ensures

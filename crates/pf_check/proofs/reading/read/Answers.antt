use Rattle.std.proofs.Common.{rules, sym, subst}
use Rattle.std.specs.Prelude.{map}
use Rattle.pf_tokens.specs.TokenKinds.{placed_of}
use Rattle.pf_tokens.specs.Rules.{HasTokens}
use Rattle.pf_syntax.specs.ExprModule.{tree_of}
use Rattle.pf_check.specs.Reads.{IsRefusalOf}
use Rattle.pf_check.proofs.Outcomes.{reads_module, reads_fault, tokens_refused, tree_refused}
use Rattle.pf_check.proofs.reading.read.Goals as goal

pub returns-in_err-found-clause-fault : goal.returns-in_err-found-clause-fault
returns-in_err-found-clause-fault c =
    let reported : IsRefusalOf c.args.source.now c.in_err-found.field-0.0 =
    tokens_refused c.args.source.now c.in_err-found.field-0.0 c.in_err-found.ensures.fault in
    search rules

pub returns-in_err-syntax-clause-fault : goal.returns-in_err-syntax-clause-fault
returns-in_err-syntax-clause-fault c =
    let ts = map placed_of c.deref.result.now in
    let has : HasTokens c.args.source.now ts = subst (λ xs. HasTokens c.args.source.now (map placed_of xs))
    (sym c.deref.ensures.value) c.in_ok-found.ensures.found in
    let reported : IsRefusalOf c.args.source.now c.in_err-syntax.field-0.0 =
    tree_refused c.args.source.now ts has c.in_err-syntax.field-0.0 c.in_err-syntax.ensures.fault in
    search rules

pub returns-clause-read : goal.returns-clause-read
returns-clause-read c =
    let r = c.in_ok-syntax.field-0 in
    let reported = c.in_ok-syntax.ensures in
    let ts = map placed_of c.deref.result.now in
    let has : HasTokens c.args.source.now ts = subst (λ xs. HasTokens c.args.source.now (map placed_of xs))
    (sym c.deref.ensures.value) c.in_ok-found.ensures.found in
    reads_module c.args.source.now ts r.atoms (tree_of r.syntax) has reported.atoms reported.found c.check.result
    c.check.ensures.checked

pub returns-clause-fault : goal.returns-clause-fault
returns-clause-fault c =
    let r = c.in_ok-syntax.field-0 in
    let reported = c.in_ok-syntax.ensures in
    let ts = map placed_of c.deref.result.now in
    let has : HasTokens c.args.source.now ts = subst (λ xs. HasTokens c.args.source.now (map placed_of xs))
    (sym c.deref.ensures.value) c.in_ok-found.ensures.found in
    reads_fault c.args.source.now ts r.atoms (tree_of r.syntax) has reported.atoms reported.found c.check.result
    c.check.ensures.fault

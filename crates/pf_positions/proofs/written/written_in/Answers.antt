use Rattle.std.proofs.Common.{◌∙◌, List, ap, sym, subst, false, length, map}
use Rattle.std.proofs.lemmas.Result.{IfOk-weaker}
use Rattle.pf_tokens.specs.Rules.{IsOrdered}
use Rattle.pf_tokens.specs.TokenKinds.{PlacedToken, placed_of}
use Rattle.pf_tokens.specs.declared.token.Token.{Token}
use Rattle.pf_positions.specs.Written.{functions_in, read, signs_of}
use Rattle.pf_positions.proofs.Lines.{functions_ordered}
use Rattle.pf_positions.proofs.written.written_in.Goals as goal

pub signs_of-requires-clause-ordered : goal.signs_of-requires-clause-ordered
signs_of-requires-clause-ordered c =
    let end = length c.args.source.now in
    let tokens = map placed_of c.in-Ok.found.items in
    let are = c.functions_in.ensures ∙ ap (λ (ts : List Token). functions_in false (map placed_of ts))
    c.deref.ensures.value in
    subst (λ (ts : List PlacedToken). IsOrdered 0 ts end) (sym are)
    (functions_ordered false tokens 0 end c.in-Ok.ensures.ordered)

pub returns-in-Ok : goal.returns-in-Ok
returns-in-Ok c =
    let source = c.args.source.now in
    let tokens = map placed_of c.in-Ok.found.items in
    let are = c.functions_in.ensures ∙ ap (λ (ts : List Token). functions_in false (map placed_of ts))
    c.deref.ensures.value in
    IfOk-weaker c.signs_of.result _ _ (λ found h. read tokens c.in-Ok.ensures.found (h ∙ ap (signs_of source) are))
    c.signs_of.ensures
